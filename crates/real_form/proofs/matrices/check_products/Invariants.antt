use Rattle.std.proofs.Common.{◌<◌, ◌+◌, ◌*◌, ℕ}
use Rattle.lin_alg.specs.Matrix.{entry, IsWideDot}
use Rattle.real_form.proofs.matrices.check_products.Given as goal

abbrev pub invariant-loop-p : goal.invariant-loop-p
invariant-loop-p g l =
    let f = g.F.Field.field in
    let v = g.F.Field.value in
    (p r j : ℕ) → p < l.p → r < l.count → j < l.left.cols → IsWideDot f l.left.cols (entry f.laws v l.left p) (λ k. entry f.laws v l.right (r * l.left.cols + k) j) → ⊥
