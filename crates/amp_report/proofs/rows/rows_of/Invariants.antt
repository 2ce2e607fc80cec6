use Rattle.std.proofs.Common.{◌≡◌, length}
use Rattle.amp_report.specs.Held.{AreRowsOf}
use Rattle.amp_report.proofs.rows.rows_of.Given as goal

abbrev pub invariant-loop-n : goal.invariant-loop-n
invariant-loop-n l = record {
  end : l.n-end ≡ length l.modes;
  done : AreRowsOf l.modes l.shifts l.n l.rows.items;
}
