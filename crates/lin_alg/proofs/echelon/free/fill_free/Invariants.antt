use Rattle.std.proofs.Common.{◌≡◌, ℕ, map, drop}
use Rattle.lin_alg.specs.Rows.{exact_rows}
use Rattle.lin_alg.specs.Equations.{free_vector}
use Rattle.lin_alg.specs.Matrix.{entry}
use Rattle.lin_alg.proofs.echelon.free.fill_free.Given as goal

abbrev pub invariant-loop-s : goal.invariant-loop-s
invariant-loop-s g l =
    let f = g.F.Field.field in
    let v = g.F.Field.value in
    (l.basis.rows ≡ l.fn.basis.rows) × (l.basis.cols ≡ l.fn.basis.cols)
    × ((k j : ℕ) → (k ≡ l.i → ⊥) → entry f.laws v l.basis k j ≡ entry f.laws v l.fn.basis k j)
    × ((j : ℕ) → entry f.laws v l.basis l.i j ≡ free_vector f.laws (exact_rows f.laws v (drop l.s (map (λ r. (r.0, r.1.items)) l.lines))) l.c j)
