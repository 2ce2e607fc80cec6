use Rattle.std.proofs.Common.{◌≡◌, ◌<◌, ◌≤◌, ◌-◌, ◌∙◌, length, arith}
use Rattle.lin_alg.specs.Rows.{vector}
use Rattle.lin_alg.specs.Equations.{unit_vector}
use Rattle.lin_alg.specs.Matrix.{entry}
use Rattle.lin_alg.specs.Solving.{joined}
use Rattle.lin_alg.specs.SolvingLaws.{joined-past}
use Rattle.lin_alg.proofs.MatrixLemmas.{entry-right}
use Rattle.lin_alg.proofs.WriteLemmas.{written-set, written-all}
use Rattle.lin_alg.proofs.solving.fill_joined.Goals as goal

pub loop-p-preserved : goal.loop-p-preserved
loop-p-preserved g c =
    let f = g.F.Field.field in
    let v = g.F.Field.value in
    let m = c.args.rows.now in
    let l : c.loop-p.p < length c.loop-p.row = omega arith in
    written-set f v (joined m.rows (unit_vector f.laws c.args.i) (entry f.laws v m c.args.i)) (vector f.laws v c.args.row.now) c.loop-p.row c.loop-p.p c.joined_entry.result l c.joined_entry.ensures c.loop-p.invariant

pub returns : goal.returns
returns g c =
    let f = g.F.Field.field in
    let v = g.F.Field.value in
    let m = c.args.rows.now in
    let l : length c.loop-p.row ≤ c.loop-p.p = omega arith in
    written-all f v (joined m.rows (unit_vector f.laws c.args.i) (entry f.laws v m c.args.i)) (vector f.laws v c.args.row.now) c.loop-p.row c.loop-p.p l
    (λ k h.
    let w : length c.loop-p.row ≡ length c.args.row.now = c.loop-p.auto.row in
    let e = c.requires.width in
    let past : m.rows ≤ k = omega arith in
    let right : m.cols ≤ k - m.rows = omega arith in
    joined-past m.rows (unit_vector f.laws c.args.i) (entry f.laws v m c.args.i) k past ∙ entry-right f v m c.args.i (k - m.rows) right)
    c.loop-p.invariant
