use Rattle.std.proofs.Common.{◌∙◌, ap, arith}
use Rattle.space_ops.specs.WithinLaws.{shift_more}
use Rattle.kstar.specs.WaveVector.{phase_of}
use Rattle.small_rep.proofs.PairLemmas.{product_listed, number_is, rest_is, rest_lattice}
use Rattle.small_rep.proofs.pairs.pair_of.Goals as goal

pub compose-product-requires-clause-left_shift : goal.compose-product-requires-clause-left_shift
compose-product-requires-clause-left_shift c = shift_more 11 1000000 c.op.result.shift (omega arith) c.op.ensures.near

pub compose-product-requires-clause-right_shift : goal.compose-product-requires-clause-right_shift
compose-product-requires-clause-right_shift c = shift_more 11 1000000 c.op-2.result.shift (omega arith) c.op-2.ensures.near

pub unreachable-requires : goal.unreachable-requires
unreachable-requires c =
    product_listed c.args.group.now c.op.ensures.group c.args.a c.args.b c.requires.left c.requires.right c.op.result c.op-2.result c.compose-product.result c.op.ensures.value c.op-2.ensures.value c.compose-product.ensures.product c.in-None.ensures.place

pub shift_difference-requires-clause-left : goal.shift_difference-requires-clause-left
shift_difference-requires-clause-left c = shift_more 110 1000000 c.compose-product.result.shift (omega arith) (c.compose-product.ensures.near 11 11 c.op.ensures.near c.op-2.ensures.near)

pub shift_difference-requires-clause-right : goal.shift_difference-requires-clause-right
shift_difference-requires-clause-right c = shift_more 11 1000000 c.op-listed.result.shift (omega arith) c.op-listed.ensures.near

pub power-power-requires : goal.power-power-requires
power-power-requires c =
    rest_lattice c.args.group.now c.op.ensures.group c.args.a c.args.b c.requires.left c.requires.right c.op.result c.op-2.result c.compose-product.result c.op.ensures.value c.op-2.ensures.value c.compose-product.ensures.product
    c.in-Some.number c.in-Some.ensures.place.0 c.in-Some.ensures.place.1 c.args.star.now.lattice c.requires.lattice c.op-listed.result c.shift_difference.result c.op-listed.ensures.value c.shift_difference.ensures

pub returns : goal.returns
returns c = record {
  product = number_is c.args.group.now c.op.ensures.group c.args.a c.args.b c.requires.left c.requires.right c.op.result c.op-2.result c.compose-product.result c.op.ensures.value c.op-2.ensures.value c.compose-product.ensures.product
      c.in-Some.number c.in-Some.ensures.place.0 c.in-Some.ensures.place.1;
  power = c.power-power.ensures.value
      ∙ ap (phase_of c.args.star.now.row)
      (rest_is c.args.group.now c.op.ensures.group c.args.a c.args.b c.requires.left c.requires.right c.op.result c.op-2.result c.compose-product.result c.op.ensures.value c.op-2.ensures.value c.compose-product.ensures.product
      c.in-Some.number c.in-Some.ensures.place.0 c.in-Some.ensures.place.1 c.op-listed.result c.shift_difference.result c.op-listed.ensures.value c.shift_difference.ensures);
}
