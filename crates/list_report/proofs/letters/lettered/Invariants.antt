use Rattle.std.proofs.Common.{◌≡◌}
use Rattle.list_report.specs.Letters.{lettered}
use Rattle.list_report.proofs.letters.lettered.Given as goal

abbrev pub invariant-loop-j : goal.invariant-loop-j
invariant-loop-j g l = record {
  end : l.j-end ≡ l.rows.width;
  columns : l.columns.items ≡ lettered l.rows.rows l.j;
}
