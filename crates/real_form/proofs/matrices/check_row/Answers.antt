use Rattle.std.proofs.Common.{◌<◌, ◌+◌, ◌*◌, ℕ, sym, subst, arith, below_more}
use Rattle.lin_alg.specs.Matrix.{entry, IsWideDot}
use Rattle.real_form.proofs.TermLemmas.{on-err}
use Rattle.real_form.proofs.matrices.check_row.Goals as goal

pub returns-in_err-product_row-clause-wide : goal.returns-in_err-product_row-clause-wide
returns-in_err-product_row-clause-wide g c =
    let f = g.F.Field.field in
    let v = g.F.Field.value in
    let left = c.args.left.now in
    let right = c.args.right.now in
    let d = left.cols in
    let i = c.loop-r.r in
    let w = c.in_err-product_row.ensures.wide in
    let lj : w.0 < d = subst (λ (k : ℕ). w.0 < k) (sym c.requires.square) w.1 in
    on-err c.from_residual.result
    ((r j : ℕ) × (r < c.args.count) × (j < d) × IsWideDot f d (entry f.laws v left c.args.p) (λ k. entry f.laws v right (r * d + k) j))
    (i, w.0, c.loop-r-test.true, lj, subst (λ (m : ℕ). IsWideDot f d (entry f.laws v left c.args.p) (λ k. entry f.laws v right (i * m + k) w.0)) c.cols-d.ensures w.2)

pub loop-r-preserved : goal.loop-r-preserved
loop-r-preserved g c r j lr lj =
    let f = g.F.Field.field in
    let v = g.F.Field.value in
    let left = c.args.left.now in
    let right = c.args.right.now in
    let d = left.cols in
    let i = c.loop-r.r in
    below_more (λ r. (j : ℕ) → j < d → IsWideDot f d (entry f.laws v left c.args.p) (λ k. entry f.laws v right (r * d + k) j) → ⊥) i
    (λ r l j m. c.loop-r.invariant r j l m)
    (λ j m h. c.in_ok-product_row.ensures.narrow j (subst (λ (k : ℕ). j < k) c.requires.square m)
    (subst (λ (m : ℕ). IsWideDot f d (entry f.laws v left c.args.p) (λ k. entry f.laws v right (i * m + k) j)) (sym c.cols-d.ensures) h))
    r lr j lj

pub returns-clause-narrow : goal.returns-clause-narrow
returns-clause-narrow g c r j lr lj =
    let past = c.loop-r-test.false in
    c.loop-r.invariant r j (omega (arith, lr, past)) lj
