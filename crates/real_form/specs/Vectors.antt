-- Rows as a real form holds them.
--
-- lines_of rows: rows with pivots, as lists
-- vector_at vs m: complex vector m, 0 past the end; AreLong n vs: each has n entries
use Rattle.std.specs.Prelude.{◌≡◌, ℕ, suc, zero, List, [], ◌∷◌, length, map}
use Rattle.std.specs.declared.vec.Vec.{Vec}
use Rattle.cyclo24.specs.declared.z24.Z24.{Z24}
use Rattle.cyclo24.specs.Z24.{exact_z24}
use Rattle.cyclo24.specs.ExactZ24.{ExactZ24, z24_laws}
use Rattle.lin_alg.specs.Rows.{vector}

abbrev pub lines_of : {A Z : Type 0} → List (ℕ × Vec A Z) → List (ℕ × List A)
lines_of {A} {Z} rows = map {A = ℕ × Vec A Z} {B = ℕ × List A} (λ r. (r.0, r.1.items)) rows

abbrev pub vector_at : {Z : Type 0} → List (Vec Z24 Z) → ℕ → ℕ → ExactZ24
vector_at [] m = λ _. z24_laws.nought
vector_at (v ∷ vs) zero = vector z24_laws exact_z24 v.items
vector_at (v ∷ vs) (suc m) = vector_at vs m

abbrev pub AreLong : {Z : Type 0} → ℕ → List (Vec Z24 Z) → Type 0
AreLong n [] = Unit {0}
AreLong n (v ∷ vs) = (length v.items ≡ n) × AreLong n vs
