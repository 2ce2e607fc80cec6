use Rattle.std.proofs.Common.{◌≡◌, drop, length}
use Rattle.list_report.specs.Letters.{pivot_row}
use Rattle.list_report.proofs.letters.pivot_place.Given as goal

abbrev pub invariant-loop-i : goal.invariant-loop-i
invariant-loop-i g l = record {
  end : l.i-end ≡ length l.rows.rows;
  left : pivot_row (drop l.i l.rows.rows) l.j ≡ pivot_row l.rows.rows l.j;
}
