use Rattle.std.proofs.Common.{◌≡◌, take}
use Rattle.super_group.proofs.motions.motions_in.Given as goal

abbrev pub invariant-loop-generator : goal.invariant-loop-generator
invariant-loop-generator l = l.motions.items ≡ take l.generator-index l.group.generators
