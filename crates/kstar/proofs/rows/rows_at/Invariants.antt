use Rattle.kstar.specs.Rows.{AreRowsAt}
use Rattle.kstar.proofs.rows.rows_at.Given as goal

abbrev pub invariant-loop-number : goal.invariant-loop-number
invariant-loop-number l = AreRowsAt l.rows l.numbers l.number-index l.chosen.items
