use Rattle.std.proofs.Common.{◌<◌, length, arith}
use Rattle.lin_alg.specs.Matrix.{entry}
use Rattle.short_rows.specs.RowLaws.{written_below}
use Rattle.short_listing.proofs.acts.copy_row.Goals as goal

pub loop-j-preserved : goal.loop-j-preserved
loop-j-preserved g c =
    let f = g.F.Field.field.laws in
    let v = g.F.Field.value in
    let l : c.loop-j.j < length c.loop-j.into = omega arith in
    written_below f v (entry f v c.args.table.now c.args.k) c.loop-j.into c.loop-j.j c.get.result l c.get.ensures c.loop-j.invariant
