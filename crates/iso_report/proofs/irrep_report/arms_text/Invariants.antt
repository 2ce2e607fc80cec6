use Rattle.std.proofs.Common.{◌≡◌, take, length, flat_map}
use Rattle.report_steps.specs.IrrepReport.{arm_line}
use Rattle.iso_report.proofs.irrep_report.arms_text.Given as goal

abbrev pub invariant-loop-i : goal.invariant-loop-i
invariant-loop-i l = record {
  end : l.i-end ≡ length l.star.by;
  text : l.text ≡ flat_map (arm_line l.group l.irrep) (take l.i l.star.by);
}
