use Rattle.std.proofs.Common.{◌<◌, ◌+◌, ◌*◌, ℕ, subst, arith, below_more}
use Rattle.lin_alg.specs.Matrix.{entry, IsWideDot}
use Rattle.real_form.proofs.TermLemmas.{on-err}
use Rattle.real_form.proofs.matrices.check_products.Goals as goal

pub returns-in_err-check_row-clause-wide : goal.returns-in_err-check_row-clause-wide
returns-in_err-check_row-clause-wide g c =
    let f = g.F.Field.field in
    let v = g.F.Field.value in
    let left = c.args.left.now in
    let right = c.args.right.now in
    let d = left.cols in
    let i = c.loop-p.p in
    let w = c.in_err-check_row.ensures.wide in
    let lp : i < left.rows = subst (λ (k : ℕ). i < k) c.rows-p-end.ensures.value c.loop-p-test.true in
    on-err c.from_residual.result
    ((p r j : ℕ) × (p < left.rows) × (r < c.args.count) × (j < d) × IsWideDot f d (entry f.laws v left p) (λ k. entry f.laws v right (r * d + k) j))
    (i, w.0, w.1, lp, w.2, w.3, w.4)

pub loop-p-preserved : goal.loop-p-preserved
loop-p-preserved g c p r j lp lr lj =
    let f = g.F.Field.field in
    let v = g.F.Field.value in
    let left = c.args.left.now in
    let right = c.args.right.now in
    let d = left.cols in
    below_more (λ p. (r j : ℕ) → r < c.args.count → j < d → IsWideDot f d (entry f.laws v left p) (λ k. entry f.laws v right (r * d + k) j) → ⊥) c.loop-p.p
    (λ p l r j m k. c.loop-p.invariant p r j l m k) c.in_ok-check_row.ensures.narrow p lp r j lr lj

pub returns-clause-narrow : goal.returns-clause-narrow
returns-clause-narrow g c p r j lp lr lj =
    let past = c.loop-p-test.false in
    let e = c.rows-p-end.ensures.value in
    c.loop-p.invariant p r j (omega (arith, lp, past, e)) lr lj
