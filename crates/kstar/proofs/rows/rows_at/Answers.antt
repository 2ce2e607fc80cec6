use Rattle.kstar.proofs.Appends.{rows-more}
use Rattle.kstar.proofs.rows.rows_at.Goals as goal

pub loop-number-preserved : goal.loop-number-preserved
loop-number-preserved c =
    rows-more c.args.rows.now c.args.numbers.now c.loop-number.number-index c.loop-number.chosen.items c.add.new.rows.items c.row_at.result c.in_ok-add.ensures c.row_at.ensures c.loop-number.invariant
