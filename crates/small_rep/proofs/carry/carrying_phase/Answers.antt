use Rattle.std.proofs.Common.{ap, ◌∙◌, arith}
use Rattle.space_ops.specs.WithinLaws.{shift_more}
use Rattle.cyclo24.specs.ExactZ24.{power}
use Rattle.kstar.specs.WaveVector.{phase_of}
use Rattle.small_rep.proofs.CarryLemmas.{less_rest, less-lattice, rotation_below}
use Rattle.small_rep.proofs.carry.carrying_phase.Goals as goal

pub op-listed-requires : goal.op-listed-requires
op-listed-requires c = rotation_below c.args.group.now c.requires.group c.args.op c.args.rotation c.requires.rotation c.requires.member

pub shift_difference-t-requires-clause-left : goal.shift_difference-t-requires-clause-left
shift_difference-t-requires-clause-left c = shift_more 11 1000000 c.op-listed.result.shift (omega arith) c.op-listed.ensures.near

pub shift_difference-t-requires-clause-right : goal.shift_difference-t-requires-clause-right
shift_difference-t-requires-clause-right c = shift_more 1440 1000000 c.args.op.shift (omega arith) c.requires.near

pub power-requires : goal.power-requires
power-requires c =
    less-lattice c.args.group.now c.requires.group c.args.star.now.lattice c.requires.lattice c.args.op c.requires.member c.shift_difference-t.result
    (less_rest c.args.group.now c.args.op c.op-listed.result c.args.rotation c.shift_difference-t.result c.requires.rotation c.op-listed.ensures.value c.shift_difference-t.ensures)

pub returns : goal.returns
returns c =
    c.root.ensures
    ∙ ap power (c.power.ensures.value
    ∙ ap (phase_of c.args.star.now.row) (less_rest c.args.group.now c.args.op c.op-listed.result c.args.rotation c.shift_difference-t.result c.requires.rotation c.op-listed.ensures.value c.shift_difference-t.ensures))
