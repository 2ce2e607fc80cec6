use Rattle.std.proofs.Common.{◌≡◌, ◌++◌, ◌∙◌, [], ap, codes, slice_index, slice_index_or}
use Rattle.iso_text.specs.Lines.{line}
use Rattle.space_ops.specs.Op.{identity_op}
use Rattle.space_ops.specs.OpText.{text_of}
use Rattle.kstar.specs.Star.{row_in, image_at}
use Rattle.report_steps.specs.Fractions.{row_text}
use Rattle.report_steps.specs.IrrepReport.{arm_line}
use Rattle.report_steps.specs.Irreps.{row_of_irrep}
use Rattle.std.proofs.lemmas.Result.{IfOk-weaker}
use Rattle.iso_report.proofs.irrep_report.arm_line.Goals as goal

pub returns : goal.returns
returns c =
    let p = c.args.group.now in
    let irrep = c.args.irrep.now in
    let s = c.args.star.now in
    let r = slice_index s.by c.args.i in
    let written = c.in_ok-wave.wave in
    let wave : written ≡ row_text (image_at p (row_of_irrep irrep) r) = c.in_ok-wave.ensures (row_in s.arms c.args.i) c.arm.ensures ∙ ap row_text (c.requires.star.arms.image c.args.i c.requires.place) in
    let op : c.op.result ≡ slice_index_or p.ops r identity_op = c.op.ensures.value ∙ ap (λ k. slice_index_or p.ops k identity_op) c.by.ensures in
    IfOk-weaker c.arm_text.result (λ text. text ≡ line (codes "arm " ++ written ++ codes " by " ++ text_of c.op.result) []) (λ text. text ≡ arm_line p irrep r)
    (λ t e. e ∙ (λ j. line (codes "arm " ++ wave j ++ codes " by " ++ text_of (op j)) [])) c.arm_text.ensures
