use Rattle.std.proofs.Common.{◌≡◌, ◌<◌, ◌*◌, ◌/◌, ◌%◌, ℕ, ap, ◌∙◌, subst, length, arith}
use Rattle.lin_alg.specs.Rows.{vector}
use Rattle.lin_alg.specs.Matrix.{entry, IsWideDot}
use Rattle.lin_alg.specs.Matrices.{mul}
use Rattle.lin_alg.proofs.SquareLemmas.{on_err, row_within, column_within}
use Rattle.lin_alg.proofs.WriteLemmas.{written-set}
use Rattle.lin_alg.proofs.matrix.fill_product.Goals as goal

pub loop-p-preserved : goal.loop-p-preserved
loop-p-preserved g c =
    let f = g.F.Field.field in
    let v = g.F.Field.value in
    let a = c.args.a.now in
    let b = c.args.b.now in
    let target : ℕ → _ = λ p. mul f.laws a.cols (entry f.laws v a) (entry f.laws v b) (p / b.cols) (p % b.cols) in
    let l : c.loop-p.p < length c.loop-p.entries = omega arith in
    let ec : c.b.inside.cols ≡ b.cols = ap (λ z. z.cols) c.b.view_is in
    let e : v c.in_ok-entries.field-0 ≡ target c.loop-p.p =
    c.in_ok-entries.ensures.exact ∙ (λ z. mul f.laws a.cols (entry f.laws v a) (entry f.laws v b) (c.loop-p.p / ec z) (c.loop-p.p % ec z)) in
    written-set f v target (vector f.laws v c.args.entries.now) c.loop-p.entries c.loop-p.p c.in_ok-entries.field-0 l e c.loop-p.invariant

pub returns-in_err-entries-clause-wide : goal.returns-in_err-entries-clause-wide
returns-in_err-entries-clause-wide g c =
    let f = g.F.Field.field in
    let v = g.F.Field.value in
    let a = c.args.a.now in
    let b = c.args.b.now in
    let p : ℕ = c.loop-p.p in
    let ec : c.b.inside.cols ≡ b.cols = ap (λ z. z.cols) c.b.view_is in
    let l : p < a.rows * b.cols = omega (arith, c.loop-p-test.true, c.requires.size) in
    let w : IsWideDot f a.cols (entry f.laws v a (p / b.cols)) (λ k. entry f.laws v b k (p % b.cols)) =
    subst (λ (m : ℕ). IsWideDot f a.cols (entry f.laws v a (p / m)) (λ k. entry f.laws v b k (p % m))) ec c.in_err-entries.ensures.wide in
    on_err c.from_residual.result _ (p / b.cols, row_within a.rows b.cols p l, p % b.cols, column_within a.rows b.cols p l, w)
