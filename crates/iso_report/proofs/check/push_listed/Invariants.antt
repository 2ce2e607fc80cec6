use Rattle.std.proofs.Common.{◌≡◌, ◌++◌, take, length, flat_map}
use Rattle.report_steps.specs.OpLines.{listed_line}
use Rattle.iso_report.proofs.check.push_listed.Given as goal

abbrev pub invariant-loop-i : goal.invariant-loop-i
invariant-loop-i l = record {
  end : l.i-end ≡ length l.group.ops;
  text : l.text ≡ l.fn.text ++ flat_map listed_line (take l.i l.group.ops);
}
