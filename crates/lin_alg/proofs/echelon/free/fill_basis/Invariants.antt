use Rattle.std.proofs.Common.{◌≡◌, ◌<◌, ◌≤◌, ℕ, map}
use Rattle.std.specs.List.{slice_index}
use Rattle.lin_alg.specs.Rows.{exact_rows}
use Rattle.lin_alg.specs.Equations.{free_vector}
use Rattle.lin_alg.specs.Matrix.{entry}
use Rattle.lin_alg.proofs.echelon.free.fill_basis.Given as goal

abbrev pub invariant-loop-i : goal.invariant-loop-i
invariant-loop-i g l =
    let f = g.F.Field.field in
    let v = g.F.Field.value in
    (l.basis.rows ≡ l.fn.basis.rows) × (l.basis.cols ≡ l.fn.basis.cols)
    × ((k : ℕ) → k < l.i → (j : ℕ) → entry f.laws v l.basis k j ≡ free_vector f.laws (exact_rows f.laws v (map (λ r. (r.0, r.1.items)) l.lines)) (slice_index l.columns k) j)
    × ((k j : ℕ) → l.i ≤ k → entry f.laws v l.basis k j ≡ f.laws.nought)
