use Rattle.std.proofs.Common.{◌∙◌}
use Rattle.cyclo24.specs.Z24CallsLaws.{is_zero_z24}
use Rattle.cyclo24.proofs.z24.Z24Field.is_zero.Goals as goal

pub returns : goal.returns
returns c = c.is_zero.ensures ∙ is_zero_z24 c.args.self.fraction c.args.self.lowest
