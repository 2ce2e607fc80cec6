use Rattle.std.proofs.Common.{◌<◌, ℕ}
use Rattle.lin_alg.specs.Matrix.{entry, IsWideTerm}
use Rattle.lin_alg.specs.Rows.{vector}
use Rattle.real_form.proofs.WriteLemmas.{IsWritten}
use Rattle.real_form.proofs.product.add_multiple.Given as goal

abbrev pub invariant-loop-j : goal.invariant-loop-j
invariant-loop-j g l =
    let f = g.F.Field.field in
    let v = g.F.Field.value in
    IsWritten f v (λ j. f.laws.plus (vector f.laws v l.fn.into j) (f.laws.times (v l.x) (entry f.laws v l.right l.k j))) (vector f.laws v l.fn.into) l.into l.j
    × ((j : ℕ) → j < l.j → IsWideTerm f (vector f.laws v l.fn.into j) (v l.x) (entry f.laws v l.right l.k j) → ⊥)
