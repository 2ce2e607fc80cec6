use Rattle.std.proofs.Common.{◌≡◌, ◌∙◌, refl, ap, subst, ◌+◌, ◌*◌, false, Err}
use Rattle.space_ops.specs.declared.op.Op.{Op}
use Rattle.space_ops.specs.Op.{seitz_of}
use Rattle.small_rep.proofs.CarryLemmas.{nearer}
use Rattle.small_rep.specs.SmallRep.{is_listed}
use Rattle.small_rep.specs.Reading.{op_of_text}
use Rattle.small_rep.proofs.LineLemmas.{factor_is, wide_at, line_cause, carried_is}
use Rattle.small_rep.proofs.line.read_line.Goals as goal

pub returns-in_err-matrix-clause-cause : goal.returns-in_err-matrix-clause-cause
returns-in_err-matrix-clause-cause c =
    line_cause c.args.group.now c.args.star.now c.args.mat.now c.args.rotations.now c.from_residual-in_err-matrix.result c.in_err-matrix.field-0.0 c.from_residual-in_err-matrix.ensures.1
    (λ q. (
      refl,
      c.in_ok-rotation.ensures.little,
      subst (λ r. is_listed c.args.rotations.now r ≡ false) c.in_ok-rotation.ensures.rotation c.in_ok-rotation.ensures.apart,
      wide_at c.args.group.now c.args.star.now (seitz_of (op_of_text c.args.mat.now.op)) _ c.as_slice.result.now c.args.mat.now.entries (factor_is c.args.group.now c.args.star.now c.from_text.result (op_of_text c.args.mat.now.op) _ c.from_text.ensures c.carrying_phase-factor.ensures) c.as_slice.ensures (c.in_err-matrix.ensures.wide (ap Err q)),
    ))

pub returns-clause-entries : goal.returns-clause-entries
returns-clause-entries c x y lx ly =
    c.in_ok-matrix.ensures.entries x y lx ly
    ∙ carried_is c.args.group.now c.args.star.now (seitz_of (op_of_text c.args.mat.now.op)) _ c.as_slice.result.now c.args.mat.now.entries (x * c.args.size + y) (factor_is c.args.group.now c.args.star.now c.from_text.result (op_of_text c.args.mat.now.op) _ c.from_text.ensures c.carrying_phase-factor.ensures) c.as_slice.ensures

pub carrying_phase-factor-requires-clause-near : goal.carrying_phase-factor-requires-clause-near
carrying_phase-factor-requires-clause-near c = nearer c.args.mat.now.op c.requires.text.operation c.from_text.result (ap (λ (x : Op). x.shift) c.from_text.ensures)
