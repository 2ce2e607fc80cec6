use Rattle.std.proofs.Common.{◌∙◌, ◌++◌, ◌<◌, ◌≤◌, length, get_or, flat_map, sym, ap, arith}
use Rattle.std.proofs.lemmas.List.{take_all}
use Rattle.report_steps.specs.IrrepReport.{arm_line}
use Rattle.iso_report.proofs.CheckLemmas.{flat_map_more}
use Rattle.iso_report.proofs.irrep_report.arms_text.Goals as goal

pub loop-i-preserved : goal.loop-i-preserved
loop-i-preserved c =
    let by = c.args.star.now.by in
    let i = c.loop-i.i in
    let f = arm_line c.args.group.now c.args.irrep.now in
    let inside : i < length by = omega (arith, c.loop-i.invariant.end) in
    record {
      end = c.loop-i.invariant.end;
      text = c.in_ok-push.ensures.ok ∙ ap (λ t. c.loop-i.text ++ t) (c.as_slice.ensures ∙ c.in_ok-arm_line.ensures) ∙ ap (λ t. t ++ f (get_or by i 0)) c.loop-i.invariant.text ∙ sym (flat_map_more f by i 0 inside);
    }

pub returns : goal.returns
returns c =
    let by = c.args.star.now.by in
    let whole : length by ≤ c.loop-i.i = omega (arith, c.loop-i.invariant.end) in
    c.loop-i.invariant.text ∙ ap (flat_map (arm_line c.args.group.now c.args.irrep.now)) (take_all c.loop-i.i by whole)
