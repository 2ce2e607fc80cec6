use Rattle.std.proofs.Common.{◌≡◌, ◌++◌, length, flat_map}
use Rattle.std.specs.Prelude.{filter_map}
use Rattle.std.specs.List.{range_with_len}
use Rattle.report_steps.specs.OpLines.{listed_line}
use Rattle.list_report.specs.StabiliserText.{least_member}
use Rattle.list_report.proofs.stabiliser_text.push_op_lines.Given as goal

abbrev pub invariant-loop-rotation : goal.invariant-loop-rotation
invariant-loop-rotation l = record {
  end : l.rotation-end ≡ length l.quotient.parent.ops;
  text : l.text ≡ l.fn.text ++ flat_map listed_line (filter_map (least_member l.quotient l.members) (range_with_len 0 l.rotation));
}
