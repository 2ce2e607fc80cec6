use Rattle.std.proofs.Common.{◌∙◌, ap}
use Rattle.std.specs.Prelude.{◌*ℤ◌}
use Rattle.std.specs.Int.RustNames.{unsigned_abs}
use Rattle.cyclo24.specs.declared.small.Small.{Small}
use Rattle.cyclo24.specs.Gcd.{lowest_terms}
use Rattle.cyclo24.specs.Listed.{is_positive}
use Rattle.cyclo24.specs.Lowest4Laws.{product_positive, rational_product_numbers}
use Rattle.cyclo24.specs.Packed4.{widened}
use Rattle.cyclo24.specs.Ratio.{packed_ratio4}
use Rattle.cyclo24.specs.RatioLaws.{ratio_rational}
use Rattle.cyclo24.proofs.ratio.PackedRatio.product.Goals as goal

pub lowered-requires-clause-positive : goal.lowered-requires-clause-positive
lowered-requires-clause-positive c =
    ap (λ (s : Small). is_positive s.n) (c.times-d.ensures.value ∙ (λ i. record { n = (c.unpacked-3.ensures i).n *ℤ (c.unpacked-4.ensures i).n }))
    ∙ product_positive c.args.self.d.n c.args.other.d.n c.requires.positive c.requires.positive_other

pub returns : goal.returns
returns c =
    let e =
    rational_product_numbers (widened (packed_ratio4 c.args.self)) (widened (packed_ratio4 c.args.other)) c.times-n.result c.times-d.result (ratio_rational c.args.self c.requires.left) (ratio_rational c.args.other c.requires.right)
    (c.times-n.ensures.value ∙ (λ i. record { n = (c.unpacked.ensures i).n *ℤ (c.unpacked-2.ensures i).n }))
    (c.times-d.ensures.value ∙ (λ i. record { n = (c.unpacked-3.ensures i).n *ℤ (c.unpacked-4.ensures i).n })) in
    c.lowered.ensures ∙ (λ i. lowest_terms (e.0 i) (unsigned_abs (e.1 i)))
