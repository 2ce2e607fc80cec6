use Rattle.std.proofs.Common.{◌∙◌}
use Rattle.std.specs.Prelude.{◌*ℤ◌}
use Rattle.cyclo24.specs.Lowest4Laws.{rational_product_answered}
use Rattle.cyclo24.proofs.lowest4.rational_product.Goals as goal

pub returns : goal.returns
returns c = rational_product_answered c.args.a.now c.args.b.now c.lowest_rational.result c.times-n.result c.times-d.result c.requires.rational c.requires.rational_other
    (c.times-n.ensures.value ∙ (λ i. record { n = (c.shortened.ensures i).n *ℤ (c.shortened-2.ensures i).n }))
    (c.times-d.ensures.value ∙ (λ i. record { n = (c.shortened-3.ensures i).n *ℤ (c.shortened-4.ensures i).n }))
    c.lowest_rational.ensures.lowest c.lowest_rational.ensures.narrow
