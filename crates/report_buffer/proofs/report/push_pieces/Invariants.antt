use Rattle.std.proofs.Common.{◌≤◌, take}
use Rattle.std.specs.List.{concat}
use Rattle.report_buffer.specs.Passing.{IsPassedOn}
use Rattle.report_buffer.proofs.report.push_pieces.Given as goal

abbrev pub invariant-loop-number : goal.invariant-loop-number
invariant-loop-number g l =
    let before = g.O.Sink.written l.fn.out in
    let now = g.O.Sink.written l.out in
    record {
      passed : IsPassedOn (concat (take l.number (g.R.Report.pieces l.report))) l.buffer before now;
      faults : g.O.Sink.faults l.fn.out ≤ g.O.Sink.faults l.out;
    }
