-- The modes of an irrep for a direction: the reduced rows of all vectors of the range of P that each M(h) leaves as
-- they are, for the elements h of the direction's stabiliser.
--
-- IsLeftBy f s q v: M(q) v = v
-- IsLeftInRange f s w h v: v is in the range of P, and each of the elements h leaves it as it is
-- AreModesOf f s w h rs: the modes of the irrep of weights w for the stabiliser h
use Rattle.std.specs.Prelude.{◌≡◌, ℕ, ◌<◌, List}
use Rattle.cyclo24.specs.FieldOn.{FieldOn}
use Rattle.lin_alg.specs.Fixed.{IsFixedByAll}
use Rattle.lin_alg.specs.Matrices.{apply}
use Rattle.mode_project.specs.AtomSpace.{AtomSpace, size_of, matrix_of}
use Rattle.mode_project.specs.Projection.{projection, IsInRange, IsReducedFormOf}

abbrev pub IsLeftBy : {K : Type 0} → FieldOn K → AtomSpace → ℕ → (ℕ → K) → Type 0
IsLeftBy f s q v = (i : ℕ) → i < size_of s → apply f (size_of s) (matrix_of f s q) v i ≡ v i

abbrev pub IsLeftInRange : {K : Type 0} → FieldOn K → AtomSpace → (ℕ → K) → List ℕ → (ℕ → K) → Type 0
IsLeftInRange f s w h v = IsInRange f (size_of s) (projection f s w) v × IsFixedByAll (IsLeftBy f s) h v

abbrev pub AreModesOf : {K : Type 0} → FieldOn K → AtomSpace → (ℕ → K) → List ℕ → List (ℕ × (ℕ → K)) → Type 0
AreModesOf f s w h rs = IsReducedFormOf f (size_of s) (IsLeftInRange f s w h) rs
