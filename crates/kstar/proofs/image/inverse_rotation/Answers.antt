use Rattle.std.proofs.Common.{sym, subst, arith}
use Rattle.space_ops.specs.Op.{IsSmallMatrix}
use Rattle.space_ops.specs.WithinLaws.{shift_more}
use Rattle.kstar.proofs.Columns.{inverse_rotation, inverse_small}
use Rattle.kstar.proofs.image.inverse_rotation.Goals as goal

pub inverse-requires-clause-shift : goal.inverse-requires-clause-shift
inverse-requires-clause-shift c = shift_more 11 1000000 c.op.result.shift (omega arith) c.op.ensures.near

pub returns-clause-value : goal.returns-clause-value
returns-clause-value c = inverse_rotation c.op.result c.inverse.result _ c.inverse.ensures.inverse c.op.ensures.value

pub returns-clause-small : goal.returns-clause-small
returns-clause-small c =
    subst IsSmallMatrix (sym (inverse_rotation c.op.result c.inverse.result _ c.inverse.ensures.inverse c.op.ensures.value))
    (inverse_small c.args.group.now c.requires.group c.args.i c.requires.place)
