use Rattle.std.proofs.Common.{ℕ, ◌<◌}
use Rattle.report_steps.specs.Generators.{IsGoodAt}
use Rattle.report_steps.proofs.generators.first_bad.Given as goal

abbrev pub invariant-loop-k : goal.invariant-loop-k
invariant-loop-k l = (j : ℕ) → j < l.k → IsGoodAt l.lines j
