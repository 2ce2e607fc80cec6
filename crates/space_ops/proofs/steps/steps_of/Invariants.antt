use Rattle.std.proofs.Common.{◌≡◌, ◌*◌, length}
use Rattle.space_ops.specs.Closing.{AreStepOps}
use Rattle.space_ops.proofs.steps.steps_of.Given as goal

abbrev pub invariant-loop-generator : goal.invariant-loop-generator
invariant-loop-generator l = record {
  steps : AreStepOps l.generators l.lattice l.generator-index l.steps.items;
  count : length l.steps.items ≡ 2 * l.generator-index;
}
