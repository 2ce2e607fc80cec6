use Rattle.std.proofs.Common.{◌∙◌}
use Rattle.cyclo24.specs.K24Laws.{is_zero24}
use Rattle.cyclo24.specs.Packed4.{widened}
use Rattle.cyclo24.proofs.short_k24.ShortK24Field.is_zero.Goals as goal

pub returns : goal.returns
returns c = c.is_zero.ensures ∙ is_zero24 (widened c.args.self.fraction) c.args.self.lowest
