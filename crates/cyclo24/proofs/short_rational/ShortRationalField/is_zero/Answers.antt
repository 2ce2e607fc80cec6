use Rattle.std.proofs.Common.{◌∙◌}
use Rattle.std.specs.Prelude.{pos}
use Rattle.std.specs.Ordering.{int_eq}
use Rattle.cyclo24.specs.K24Laws.{is_zero24}
use Rattle.cyclo24.specs.Packed4.{widened}
use Rattle.cyclo24.specs.Ratio.{packed_ratio4}
use Rattle.cyclo24.specs.RatioLaws.{and_true}
use Rattle.cyclo24.proofs.short_rational.ShortRationalField.is_zero.Goals as goal

pub returns : goal.returns
returns c = c.is_zero.ensures ∙ and_true (int_eq c.args.self.ratio.n.n (pos 0)) ∙ is_zero24 (widened (packed_ratio4 c.args.self.ratio)) c.args.self.lowest
