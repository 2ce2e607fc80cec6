use Rattle.std.proofs.Common.{◌∙◌, ap}
use Rattle.cyclo24.specs.declared.small.Small.{Small}
use Rattle.cyclo24.specs.EightNorm.{list8}
use Rattle.algebra.specs.Whole.{whole}
use Rattle.cyclo24.specs.Eight.{mul8}
use Rattle.cyclo24.specs.Listed.{is_positive}
use Rattle.cyclo24.specs.Short8.{eight_of}
use Rattle.cyclo24.specs.Lowest8Laws.{product_answered}
use Rattle.cyclo24.specs.Lowest4Laws.{product_positive}
use Rattle.std.specs.Prelude.{◌*ℤ◌}
use Rattle.cyclo24.proofs.lowest8.short_product.Goals as goal

pub lowest-requires-clause-positive : goal.lowest-requires-clause-positive
lowest-requires-clause-positive c =
    ap is_positive (ap (λ (w : Small). w.n) c.product.ensures.low ∙ (λ i. (c.short.ensures i).d.n *ℤ (c.short-2.ensures i).d.n))
    ∙ product_positive c.args.a.now.d.n c.args.b.now.d.n c.requires.positive c.requires.positive_other

pub returns : goal.returns
returns c = product_answered c.args.a.now c.args.b.now c.lowest.result c.product.result c.requires.short c.requires.short_other
    (ap list8 (c.product.ensures.value ∙ (λ i. mul8 whole (eight_of (c.short.ensures i)) (eight_of (c.short-2.ensures i)))))
    (ap (λ (w : Small). w.n) c.product.ensures.low ∙ (λ i. (c.short.ensures i).d.n *ℤ (c.short-2.ensures i).d.n))
    c.lowest.ensures.lowest c.lowest.ensures.narrow
