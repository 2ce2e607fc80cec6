use Rattle.std.proofs.Common.{◌≡◌, ◌<◌, ℕ, sym, ◌∙◌, ap, subst, arith, length}
use Rattle.lin_alg.specs.Matrix.{entry, IsWideDot}
use Rattle.lin_alg.specs.Rows.{vector}
use Rattle.mode_project.specs.Parts.{rows_in, row_in}
use Rattle.mode_project.proofs.TermLemmas.{total-step, total-end, dot-wide, factors-wide, on-err}
use Rattle.mode_project.proofs.VectorsLemmas.{item-is}
use Rattle.mode_project.proofs.combined.combined.Goals as goal

pub loop-k-init : goal.loop-k-init
loop-k-init g c = c.zero-sum.ensures

pub add_entry-requires : goal.add_entry-requires
add_entry-requires g c =
    let e = item-is c.args.rows.now c.loop-k.k c.index-rows-k.result c.loop-k-test.true c.index-rows-k.is in
    subst (λ xs. c.args.i < length xs) (e ∙ sym c.deref.ensures.value) (c.requires.long c.loop-k.k c.loop-k-test.true)

pub loop-k-preserved : goal.loop-k-preserved
loop-k-preserved g c =
    let f = g.F.Field.field in
    let value = g.F.Field.value in
    let e = item-is c.args.rows.now c.loop-k.k c.index-rows-k.result c.loop-k-test.true c.index-rows-k.is in
    total-step f c.loop-k.k (entry f.laws value c.args.x.now c.args.n) (λ k. row_in f.laws value (rows_in c.args.rows.now) k c.args.i) (value c.loop-k.sum) (value c.in_ok-sum.sum) (value c.get.result) (vector f.laws value c.deref.result.now c.args.i)
    c.loop-k.invariant c.in_ok-sum.ensures.exact c.get.ensures (ap (λ xs. vector f.laws value xs c.args.i) (c.deref.ensures.value ∙ sym e))

pub returns-in_err-sum-clause-wide : goal.returns-in_err-sum-clause-wide
returns-in_err-sum-clause-wide g c =
    let f = g.F.Field.field in
    let value = g.F.Field.value in
    let x = entry f.laws value c.args.x.now c.args.n in
    let y = (λ (k : ℕ). row_in f.laws value (rows_in c.args.rows.now) k c.args.i) in
    let e = item-is c.args.rows.now c.loop-k.k c.index-rows-k.result c.loop-k-test.true c.index-rows-k.is in
    on-err c.from_residual.result (IsWideDot f (length c.args.rows.now) x y)
    (dot-wide f (length c.args.rows.now) c.loop-k.k x y (value c.loop-k.sum) c.loop-k-test.true c.loop-k.invariant
    (factors-wide f (value c.loop-k.sum) (value c.get.result) (vector f.laws value c.deref.result.now c.args.i) (x c.loop-k.k) (y c.loop-k.k) c.get.ensures (ap (λ xs. vector f.laws value xs c.args.i) (c.deref.ensures.value ∙ sym e)) c.in_err-sum.ensures.wide))

pub returns-clause-exact : goal.returns-clause-exact
returns-clause-exact g c =
    let f = g.F.Field.field in
    let value = g.F.Field.value in
    let e : c.loop-k.k ≡ length c.args.rows.now = omega (arith, c.loop-k-test.false, c.loop-k.auto.k-end) in
    total-end f c.loop-k.k (length c.args.rows.now) (entry f.laws value c.args.x.now c.args.n) (λ k. row_in f.laws value (rows_in c.args.rows.now) k c.args.i) (value c.loop-k.sum) c.loop-k.invariant e
