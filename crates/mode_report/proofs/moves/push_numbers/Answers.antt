use Rattle.std.proofs.Common.{◌+◌, ◌<◌, ap, length, arith}
use Rattle.cyclo24.specs.ExactK24.{k24_laws}
use Rattle.cyclo24.specs.K24.{exact24}
use Rattle.lin_alg.specs.Rows.{vector}
use Rattle.mode_report.specs.ModesReport.{number_line}
use Rattle.mode_report.specs.MoveParts.{entry_lines}
use Rattle.mode_report.proofs.MoveLemmas.{entry-is, moves-more}
use Rattle.mode_report.proofs.moves.push_numbers.Goals as goal

pub loop-i-preserved : goal.loop-i-preserved
loop-i-preserved c =
    let row = c.args.row.now in
    let i = c.loop-i.i in
    let v = vector k24_laws exact24 row in
    let x = c.index-row-i.result in
    let l : i < length row = omega (arith, c.requires, c.loop-i-test.true) in
    moves-more (number_line v) c.args.text.now c.loop-i.text c.push_number.new.text (entry_lines (i + 1) (exact24 x)) i c.loop-i.invariant c.in_ok-push_number.ensures
    (ap (entry_lines (i + 1)) (entry-is row i x l c.index-row-i.is))
