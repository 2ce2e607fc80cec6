use Rattle.cyclo24.specs.PackedLaws.{product_low, product_lowest}
use Rattle.cyclo24.proofs.packed4.Packed4.full_product.Goals as goal

pub lowered-requires-clause-positive : goal.lowered-requires-clause-positive
lowered-requires-clause-positive c = product_low c.args.self c.args.other c.unpacked.result c.unpacked-2.result c.product.result c.unpacked.ensures.value c.unpacked-2.ensures.value c.requires.positive c.requires.positive_other c.product.ensures.low

pub returns : goal.returns
returns c =
    product_lowest c.args.self c.args.other c.unpacked.result c.unpacked-2.result c.product.result c.lowered.result c.unpacked.ensures.value c.unpacked-2.ensures.value c.product.ensures.value c.product.ensures.low c.lowered.ensures.lowest
