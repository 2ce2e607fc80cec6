use Rattle.std.proofs.Common.{◌∙◌, sym}
use Rattle.cyclo24.specs.Ratio.{ratio4, packed_ratio4}
use Rattle.cyclo24.specs.Short4.{wide_of}
use Rattle.cyclo24.specs.Written4.{product}
use Rattle.cyclo24.specs.Packed4.{widened}
use Rattle.cyclo24.specs.PackedLaws.{lowest_same, ratio_same, ratio_packed}
use Rattle.cyclo24.proofs.packed4.Packed4.product.Goals as goal

pub product-requires-clause-left : goal.product-requires-clause-left
product-requires-clause-left c = ratio_packed c.args.self c.ratio.result c.requires.left c.ratio.ensures

pub product-requires-clause-right : goal.product-requires-clause-right
product-requires-clause-right c = ratio_packed c.args.other c.ratio-then-is_rational-2.result c.requires.right c.ratio-then-is_rational-2.ensures

pub returns-then-is_rational-2 : goal.returns-then-is_rational-2
returns-then-is_rational-2 c =
    let e = ratio_same c.args.self c.ratio.result (sym c.is_rational.ensures ∙ c.if-is_rational.true) c.ratio.ensures in
    let f = ratio_same c.args.other c.ratio-then-is_rational-2.result (sym c.is_rational-then-is_rational.ensures ∙ c.if-is_rational-2.true) c.ratio-then-is_rational-2.ensures in
    lowest_same (λ a b. (product a b).value) (ratio4 c.product.result) (wide_of c.four.result) (widened c.args.self) (widened c.args.other) (widened (packed_ratio4 c.ratio.result)) (widened (packed_ratio4 c.ratio-then-is_rational-2.result)) c.four.ensures e f c.product.ensures
