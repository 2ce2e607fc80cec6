use Rattle.std.proofs.Common.{◌≡◌, length}
use Rattle.extra_modes.specs.ExtraAmplitudes.{amounts_of}
use Rattle.amp_report.specs.Held.{AreRowsBy}
use Rattle.extra_report.proofs.rows.rows_of.Given as goal

abbrev pub invariant-loop-n : goal.invariant-loop-n
invariant-loop-n l = record {
  end : l.n-end ≡ length l.modes;
  done : AreRowsBy l.modes (amounts_of l.amounts) l.n l.rows.items;
}
