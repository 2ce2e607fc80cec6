use Rattle.std.proofs.Common.{rules, ◌∙◌, sym}
use Rattle.cyclo24.specs.CheckedLaws.{answer_err}
use Rattle.cyclo24.specs.Written8Products.{product}
use Rattle.cyclo24.specs.Lowest8Laws.{product_ready, answered_by}
use Rattle.cyclo24.proofs.lowest8.long_product.Goals as goal

pub returns-in_err-product-clause-wide : goal.returns-in_err-product-clause-wide
returns-in_err-product-clause-wide c = let h = answer_err (product c.args.a.now c.args.b.now) _ (sym c.written_product.ensures ∙ c.in_err-product.was) in search (rules, h)

pub reduced-requires-clause-narrow : goal.reduced-requires-clause-narrow
reduced-requires-clause-narrow c = (product_ready c.args.a.now c.args.b.now c.in_ok-product.product c.requires.positive c.requires.positive_other (sym c.written_product.ensures ∙ c.in_ok-product.was)).0

pub reduced-requires-clause-positive : goal.reduced-requires-clause-positive
reduced-requires-clause-positive c = (product_ready c.args.a.now c.args.b.now c.in_ok-product.product c.requires.positive c.requires.positive_other (sym c.written_product.ensures ∙ c.in_ok-product.was)).1

pub returns-clause-ok : goal.returns-clause-ok
returns-clause-ok c = answered_by (product c.args.a.now c.args.b.now) c.in_ok-product.product c.reduced.result (sym c.written_product.ensures ∙ c.in_ok-product.was) c.reduced.ensures.lowest c.reduced.ensures.narrow
