use Rattle.std.proofs.Common.{◌∙◌, sym, ap, ◌++◌, [], flat_map, append_assoc}
use Rattle.std.specs.Prelude.{filter_map}
use Rattle.std.specs.List.{range_with_len, cons_option}
use Rattle.report_steps.specs.OpLines.{listed_line}
use Rattle.list_report.specs.StabiliserText.{least_member}
use Rattle.list_report.proofs.PieceLemmas.{numbers-more}
use Rattle.list_report.proofs.stabiliser_text.push_op_lines.Goals as goal

pub loop-rotation-preserved : goal.loop-rotation-preserved
loop-rotation-preserved c =
    let h = least_member c.args.quotient.now c.args.members.now in
    let r = c.loop-rotation.rotation in
    let piece = flat_map listed_line (cons_option (h r) []) in
    record {
      end = c.loop-rotation.invariant.end;
      text = c.in_ok-push_op.ensures ∙ ap (λ o. c.loop-rotation.text ++ flat_map listed_line (cons_option o [])) c.least_member.ensures
          ∙ ap (λ t. t ++ piece) c.loop-rotation.invariant.text
          ∙ append_assoc c.args.text.now (flat_map listed_line (filter_map h (range_with_len 0 r))) piece
          ∙ ap (λ t. c.args.text.now ++ t) (sym (numbers-more listed_line h r));
    }
