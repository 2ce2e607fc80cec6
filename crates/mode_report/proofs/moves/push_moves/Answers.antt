use Rattle.std.proofs.Common.{◌+◌, ◌*◌, ◌<◌, length, arith}
use Rattle.cyclo24.specs.ExactK24.{k24_laws}
use Rattle.cyclo24.specs.K24.{exact24}
use Rattle.lin_alg.specs.Rows.{vector}
use Rattle.mode_report.specs.ModesReport.{move_line}
use Rattle.mode_report.specs.MoveParts.{step_lines}
use Rattle.mode_report.proofs.MoveLemmas.{entry-is, move-next, moves-more}
use Rattle.mode_report.proofs.moves.push_moves.Goals as goal

pub loop-i-preserved : goal.loop-i-preserved
loop-i-preserved c =
    let row = c.args.row.now in
    let i = c.loop-i.i in
    let v = vector k24_laws exact24 row in
    let x = c.index-row-i.result in
    let y = c.index-row-i-in-loop-i.result in
    let z = c.index-row-i-in-loop-i-2.result in
    let l0 : i * 3 < length row = omega (arith, c.requires) in
    let l1 : i * 3 + 1 < length row = omega (arith, c.requires) in
    let l2 : i * 3 + 2 < length row = omega (arith, c.requires) in
    moves-more (move_line v) c.args.text.now c.loop-i.text c.push_step.new.text (step_lines (i + 1) (exact24 x) (exact24 y) (exact24 z)) i c.loop-i.invariant c.in_ok-push_step.ensures
    (move-next v i (exact24 x) (exact24 y) (exact24 z) (entry-is row (i * 3) x l0 c.index-row-i.is) (entry-is row (i * 3 + 1) y l1 c.index-row-i-in-loop-i.is)
    (entry-is row (i * 3 + 2) z l2 c.index-row-i-in-loop-i-2.is))
