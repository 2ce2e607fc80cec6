-- Modes of irreps that are apart.
--
-- of_irrep j ms: the modes of irrep j
-- MeetInZero f d a b: only the zero vector is in the ranges of both
-- AreAllApart f g ws: each two of the lists of weights are apart
use Rattle.std.specs.Prelude.{◌≡◌, ℕ, ◌<◌, List, [], ◌∷◌, length, nat_eq, if◌then◌else◌}
use Rattle.algebra.specs.NumberedGroup.{Group}
use Rattle.cyclo24.specs.FieldOn.{FieldOn}
use Rattle.induce.specs.Apart.{AreApart}
use Rattle.mode_project.specs.Projection.{IsInRange}
use Rattle.mode_project.specs.Modes.{vector_at}

abbrev pub of_irrep : {V : Type 0} → ℕ → List (ℕ × V) → List (ℕ × V)
of_irrep j [] = []
of_irrep j (m ∷ ms) = if nat_eq m.0 j then m ∷ of_irrep j ms else of_irrep j ms

abbrev pub MeetInZero : {K : Type 0} → FieldOn K → ℕ → (ℕ → ℕ → K) → (ℕ → ℕ → K) → Type 0
MeetInZero {K} f d a b = (v : ℕ → K) → IsInRange f d a v → IsInRange f d b v → (i : ℕ) → v i ≡ f.nought

abbrev pub AreAllApart : {K : Type 0} → FieldOn K → Group → List (ℕ → K) → Type 0
AreAllApart f g ws = (j l : ℕ) → j < l → l < length ws → AreApart f g (vector_at f ws j) (vector_at f ws l)
