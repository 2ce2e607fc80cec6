use Rattle.std.proofs.Common.{◌≡◌, take}
use Rattle.space_ops.proofs.group.copied.Given as goal

abbrev pub invariant-loop-generator : goal.invariant-loop-generator
invariant-loop-generator l = l.copy.items ≡ take l.generator-index l.generators
