use Rattle.std.proofs.Common.{◌≡◌, ◌<◌, ◌≤◌, length, arith}
use Rattle.lin_alg.specs.Rows.{vector}
use Rattle.lin_alg.specs.Matrix.{entry}
use Rattle.couple.proofs.EntryLemmas.{entry-right}
use Rattle.couple.proofs.WriteLemmas.{written-set, written-all}
use Rattle.couple.proofs.rank.fill_row.Goals as goal

pub loop-j-preserved : goal.loop-j-preserved
loop-j-preserved g c =
    let f = g.F.Field.field in
    let v = g.F.Field.value in
    let l : c.loop-j.j < length c.loop-j.row = omega arith in
    written-set f v (entry f.laws v c.args.rows.now c.args.i) (vector f.laws v c.args.row.now) c.loop-j.row c.loop-j.j c.get.result l c.get.ensures c.loop-j.invariant

pub returns : goal.returns
returns g c =
    let f = g.F.Field.field in
    let v = g.F.Field.value in
    let l : length c.loop-j.row ≤ c.loop-j.j = omega arith in
    written-all f v (entry f.laws v c.args.rows.now c.args.i) (vector f.laws v c.args.row.now) c.loop-j.row c.loop-j.j l
    (λ k h.
    let w : length c.loop-j.row ≡ length c.args.row.now = c.loop-j.auto.row in
    let e = c.requires.width in
    let right : c.args.rows.now.cols ≤ k = omega arith in
    entry-right f v c.args.rows.now c.args.i k right)
    c.loop-j.invariant
