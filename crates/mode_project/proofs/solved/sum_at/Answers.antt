use Rattle.std.proofs.Common.{◌<◌, ℕ, sym, ap, subst, length}
use Rattle.lin_alg.specs.Matrix.{IsWideDot}
use Rattle.lin_alg.specs.Rows.{vector}
use Rattle.lin_alg.specs.Spans.{row_vectors}
use Rattle.mode_project.specs.Joined.{joined_rows_in}
use Rattle.mode_project.specs.Modes.{vector_at}
use Rattle.mode_project.proofs.SolvedLemmas.{line-long, line-vector}
use Rattle.mode_project.proofs.TermLemmas.{total-step, dot-wide, factors-wide, on-err}
use Rattle.mode_project.proofs.VectorLemmas.{vector-at}
use Rattle.mode_project.proofs.solved.sum_at.Goals as goal

pub add_entry-requires : goal.add_entry-requires
add_entry-requires g c =
    let long = line-long g.F.Field.field g.F.Field.value c.args.rows.now c.loop-k.k c.loop-k-test.true c.line.result.now c.line.ensures c.requires.inside.0 c.requires.inside.1 in
    subst (λ (n : ℕ). c.args.c < n) (sym long) c.requires.inside.2

pub returns-in_err-sum-clause-wide : goal.returns-in_err-sum-clause-wide
returns-in_err-sum-clause-wide g c =
    let f = g.F.Field.field in
    let value = g.F.Field.value in
    let k = c.loop-k.k in
    let n = length c.args.rows.now in
    let x = vector f.laws value c.args.x.now in
    let y = (λ (i : ℕ). vector_at f.laws (row_vectors (joined_rows_in f.laws value c.args.rows.now)) i c.args.c) in
    let row = line-vector f value c.args.rows.now k c.loop-k-test.true c.line.result.now c.line.ensures in
    let lx : k < length c.args.x.now = subst (λ (m : ℕ). k < m) (sym c.requires.count) c.loop-k-test.true in
    on-err c.from_residual.result (IsWideDot f n x y)
    (dot-wide f n k x y (value c.loop-k.sum) c.loop-k-test.true c.loop-k.invariant
    (factors-wide f (value c.loop-k.sum) (value c.index-x-k.result) (vector f.laws value c.line.result.now c.args.c) (x k) (y k)
    (sym (vector-at f value c.args.x.now k c.index-x-k.result lx c.index-x-k.is)) (ap (λ (u : ℕ → _). u c.args.c) row) c.in_err-sum.ensures.wide))

pub loop-k-preserved : goal.loop-k-preserved
loop-k-preserved g c =
    let f = g.F.Field.field in
    let value = g.F.Field.value in
    let k = c.loop-k.k in
    let x = vector f.laws value c.args.x.now in
    let y = (λ (i : ℕ). vector_at f.laws (row_vectors (joined_rows_in f.laws value c.args.rows.now)) i c.args.c) in
    let row = line-vector f value c.args.rows.now k c.loop-k-test.true c.line.result.now c.line.ensures in
    let lx : k < length c.args.x.now = subst (λ (m : ℕ). k < m) (sym c.requires.count) c.loop-k-test.true in
    total-step f k x y (value c.loop-k.sum) (value c.in_ok-sum.sum) (value c.index-x-k.result) (vector f.laws value c.line.result.now c.args.c) c.loop-k.invariant c.in_ok-sum.ensures.exact
    (sym (vector-at f value c.args.x.now k c.index-x-k.result lx c.index-x-k.is)) (ap (λ (u : ℕ → _). u c.args.c) row)
