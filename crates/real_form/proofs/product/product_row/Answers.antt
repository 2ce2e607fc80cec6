use Rattle.std.proofs.Common.{◌≡◌, ◌+◌, ◌<◌, ◌≤◌, ℕ, refl, sym, ap, subst, arith}
use Rattle.lin_alg.specs.Rows.{vector}
use Rattle.lin_alg.specs.Matrix.{entry, IsWideDot}
use Rattle.real_form.proofs.TermLemmas.{total-step, total-end, dot-wide, narrow-next, narrow-end, term-moved, on-err}
use Rattle.real_form.proofs.product.product_row.Goals as goal

pub loop-k-init : goal.loop-k-init
loop-k-init g c = (λ j b. ap (λ t. t j) c.clear.ensures, λ j b k l. absurd (omega (arith, l)))

pub loop-k-preserved : goal.loop-k-preserved
loop-k-preserved g c =
    let f = g.F.Field.field in
    let v = g.F.Field.value in
    let k = c.loop-k.k in
    let x : ℕ → _ = entry f.laws v c.args.left.now c.args.p in
    let y : ℕ → ℕ → _ = λ j k. entry f.laws v c.args.right.now (c.args.first + k) j in
    let s : ℕ → _ = vector f.laws v c.loop-k.into in
    let e : v c.get.result ≡ x k = c.get.ensures in (
      λ j b. total-step f k x (y j) (s j) (vector f.laws v c.add_multiple.new.into j) (v c.get.result) (y j k) (c.loop-k.invariant.0 j b) (c.in_ok-add_multiple.ensures.exact j b) e refl,
      λ j b. narrow-next f k x (y j) (s j) (c.loop-k.invariant.0 j b)
          (λ h. c.in_ok-add_multiple.ensures.narrow j b (term-moved f (s j) (s j) (x k) (v c.get.result) (y j k) (y j k) refl (sym e) refl h)) (c.loop-k.invariant.1 j b),
    )

pub returns-in_err-add_multiple-clause-wide : goal.returns-in_err-add_multiple-clause-wide
returns-in_err-add_multiple-clause-wide g c =
    let f = g.F.Field.field in
    let v = g.F.Field.value in
    let k = c.loop-k.k in
    let d = c.args.left.now.cols in
    let x : ℕ → _ = entry f.laws v c.args.left.now c.args.p in
    let y : ℕ → ℕ → _ = λ j k. entry f.laws v c.args.right.now (c.args.first + k) j in
    let s : ℕ → _ = vector f.laws v c.loop-k.into in
    let l : k < d = subst (λ (n : ℕ). k < n) c.cols-k-end.ensures c.loop-k-test.true in
    let w = c.in_err-add_multiple.ensures.wide in
    on-err c.from_residual.result ((j : ℕ) × (j < c.args.right.now.cols) × IsWideDot f d x (y j))
    (w.0, w.1, dot-wide f d k x (y w.0) (s w.0) l (c.loop-k.invariant.0 w.0 w.1) (term-moved f (s w.0) (s w.0) (v c.get.result) (x k) (y w.0 k) (y w.0 k) refl c.get.ensures refl w.2))

pub returns-clause-exact : goal.returns-clause-exact
returns-clause-exact g c j b =
    let f = g.F.Field.field in
    let v = g.F.Field.value in
    let e : c.loop-k.k ≡ c.args.left.now.cols = omega (arith, c.loop-k-test.false, c.loop-k.auto.k-end, c.cols-k-end.ensures) in
    total-end f c.loop-k.k c.args.left.now.cols (entry f.laws v c.args.left.now c.args.p) (λ k. entry f.laws v c.args.right.now (c.args.first + k) j) (vector f.laws v c.loop-k.into j) (c.loop-k.invariant.0 j b) e

pub returns-clause-narrow : goal.returns-clause-narrow
returns-clause-narrow g c j b =
    let f = g.F.Field.field in
    let v = g.F.Field.value in
    let l : c.args.left.now.cols ≤ c.loop-k.k = subst (λ (n : ℕ). n ≤ c.loop-k.k) c.cols-k-end.ensures c.loop-k-test.false in
    narrow-end f c.loop-k.k c.args.left.now.cols (entry f.laws v c.args.left.now c.args.p) (λ k. entry f.laws v c.args.right.now (c.args.first + k) j) l (c.loop-k.invariant.1 j b)
