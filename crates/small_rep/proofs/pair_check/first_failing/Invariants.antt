use Rattle.std.proofs.Common.{ℕ, ◌<◌}
use Rattle.small_rep.specs.RepCheck.{PairMultiplies}
use Rattle.small_rep.proofs.pair_check.first_failing.Given as goal

abbrev pub invariant-loop-e : goal.invariant-loop-e
invariant-loop-e l = (i : ℕ) → i < l.e → PairMultiplies l.rep i
