use Rattle.std.proofs.Common.{arith}
use Rattle.space_ops.specs.WithinLaws.{shift_more}
use Rattle.super_group.proofs.TableLemmas.{product_listed, product_is}
use Rattle.super_group.proofs.products.product_number.Goals as goal

pub compose-product-requires-clause-left_shift : goal.compose-product-requires-clause-left_shift
compose-product-requires-clause-left_shift c = shift_more 11 1000000 c.op.result.shift (omega arith) c.op.ensures.near

pub compose-product-requires-clause-right_shift : goal.compose-product-requires-clause-right_shift
compose-product-requires-clause-right_shift c = shift_more 11 1000000 c.op-2.result.shift (omega arith) c.op-2.ensures.near

pub unreachable-requires : goal.unreachable-requires
unreachable-requires c =
    let w =
    product_listed c.args.group.now c.op.ensures.group c.args.a c.args.b c.op.result c.op-2.result c.compose-product.result c.op.ensures.value c.op-2.ensures.value
    c.compose-product.ensures.product c.requires.left c.requires.right in
    c.in-None.ensures.place w.0 w.1 w.2

pub returns : goal.returns
returns c =
    product_is c.args.group.now c.op.ensures.group c.args.a c.args.b c.op.result c.op-2.result c.compose-product.result c.op.ensures.value c.op-2.ensures.value
    c.compose-product.ensures.product c.in-Some.number c.in-Some.ensures.place.0 c.in-Some.ensures.place.1
