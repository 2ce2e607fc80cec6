use Rattle.std.proofs.Common.{◌<◌, ◌∙◌, sym, length, arith}
use Rattle.cyclo24.specs.ExactK24.{k24_laws}
use Rattle.cyclo24.specs.K24.{exact24}
use Rattle.lin_alg.specs.Rows.{vector}
use Rattle.short_rows.specs.RowLaws.{written_below, read_at}
use Rattle.short_rows.proofs.rows.shortened.Goals as goal

pub loop-j-preserved : goal.loop-j-preserved
loop-j-preserved g c =
    let l : c.loop-j.j < length c.loop-j.into = omega arith in
    let m : c.loop-j.j < length c.args.row.now = omega arith in
    let e = c.in-Some.ensures.exact ∙ sym (read_at k24_laws exact24 c.args.row.now c.loop-j.j c.index-row-j.result m c.index-row-j.is) in
    written_below k24_laws g.S.Short.exact (vector k24_laws exact24 c.args.row.now) c.loop-j.into c.loop-j.j c.in-Some.short l e c.loop-j.invariant
