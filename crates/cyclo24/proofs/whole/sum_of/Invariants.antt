use Rattle.std.proofs.Common.{◌≡◌, drop}
use Rattle.cyclo24.specs.Checked.{answer, sum_from, sum_of}
use Rattle.cyclo24.proofs.whole.sum_of.Given as goal

-- what is left to sum gives the answer of the whole sum
abbrev pub invariant-loop-term : goal.invariant-loop-term
invariant-loop-term l = answer (sum_of l.fn.terms) ≡ answer (sum_from l.sum (drop l.term-index l.terms))
