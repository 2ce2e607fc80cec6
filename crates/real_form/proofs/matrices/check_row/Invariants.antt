use Rattle.std.proofs.Common.{◌<◌, ◌+◌, ◌*◌, ℕ}
use Rattle.lin_alg.specs.Matrix.{entry, IsWideDot}
use Rattle.real_form.proofs.matrices.check_row.Given as goal

abbrev pub invariant-loop-r : goal.invariant-loop-r
invariant-loop-r g l =
    let f = g.F.Field.field in
    let v = g.F.Field.value in
    (r j : ℕ) → r < l.r → j < l.left.cols → IsWideDot f l.left.cols (entry f.laws v l.left l.p) (λ k. entry f.laws v l.right (r * l.left.cols + k) j) → ⊥
