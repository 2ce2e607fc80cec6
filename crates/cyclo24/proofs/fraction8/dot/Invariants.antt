use Rattle.std.proofs.Common.{◌≡◌, drop}
use Rattle.cyclo24.specs.Checked.{answer}
use Rattle.cyclo24.specs.Written8.{dot_from, dot}
use Rattle.cyclo24.proofs.fraction8.dot.Given as goal

-- what is left to sum gives the answer of the whole sum
abbrev pub invariant-loop-i : goal.invariant-loop-i
invariant-loop-i l = answer (dot l.xs l.ys) ≡ answer (dot_from l.sum (drop l.i l.xs) (drop l.i l.ys))
