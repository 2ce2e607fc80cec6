-- What the search for the atoms of a place takes and gives.
--
-- IsNearestOf length tolerance rest found: the remainder or that less the length, at most the tolerance, or None
-- IsAlong n tolerance x a v: v is x less a after a multiple of n, and at most the tolerance
-- IsAlongFound n tolerance x a found: such a v, or None where there is none
-- IsDisplacementFound d tolerance x a found: the displacement, or None where there is none
-- IsOnly P o i v, AreTwo P: one atom has P, with the displacement v; two atoms have it
-- IsFound P found: the one atom with P, and its displacement; or that there is none, or that there are two
-- both_of first second, found_of o i shift: what is found in two places, and at one atom
-- IsAtomBelow d tolerance x o places n: an atom of orbit o below n that x matches
-- IsAtomAt d tolerance x label orbits, IsAtomIn, IsAtomOf: an atom with this label that x matches; of orbit n; of the first n orbits
use Rattle.std.specs.Prelude.{◌≡◌, ◌⊎◌, ℕ, ◌<◌, ℤ, neg_ℤ, ◌+ℤ◌, ◌<ℤ◌, List, length, Option, Some, None, MatchOption, slice_get}
use Rattle.algebra.specs.Multiples.{IsMultiple}
use Rattle.space_ops.specs.Matrix.{Vector}
use Rattle.space_ops.specs.Op.{vector_of, shift_of}
use Rattle.wyckoff.specs.Orbit.{OrbitView}
use Rattle.wyckoff.specs.Places.{place_at}
use Rattle.distort_match.specs.declared.found.Found.{Found}
use Rattle.distort_match.specs.declared.found.Found.TheVariants.{Nothing, One, Many}
use Rattle.distort_match.specs.Matches.{IsNear, IsDisplacement}

-- at most the tolerance, and the remainder or that less the length
abbrev pub IsNearestOf : ℤ → ℤ → ℤ → Option ℤ → Type 0
IsNearestOf length tolerance rest found =
    MatchOption found ((tolerance <ℤ rest) × ((rest +ℤ neg_ℤ length) <ℤ neg_ℤ tolerance)) (λ v. ((v ≡ rest) ⊎ (v ≡ rest +ℤ neg_ℤ length)) × IsNear tolerance v)

-- one coordinate of a displacement, modulo n
abbrev pub IsAlong : ℕ → ℤ → ℤ → ℤ → ℤ → Type 0
IsAlong n tolerance x a v = IsMultiple n (v +ℤ neg_ℤ (x +ℤ neg_ℤ a)) × IsNear tolerance v

abbrev pub IsAlongFound : ℕ → ℤ → ℤ → ℤ → Option ℤ → Type 0
IsAlongFound n tolerance x a found = MatchOption found ((v : ℤ) → IsAlong n tolerance x a v → ⊥) (IsAlong n tolerance x a)

abbrev pub IsDisplacementFound : List ℕ → ℤ → Vector ℤ → Vector ℤ → Option (List ℤ) → Type 0
IsDisplacementFound d tolerance x a found =
    MatchOption found ((v : Vector ℤ) → IsDisplacement d tolerance x a v → ⊥) (λ v. IsDisplacement d tolerance x a (vector_of v) × (v ≡ shift_of (vector_of v)))

-- one atom and its displacement
pub record IsOnly (P : ℕ → ℕ → Vector ℤ → Type 0) (o i : ℕ) (v : List ℤ) : Type 0 where
  pub is : P o i (vector_of v)
  pub shaped : v ≡ shift_of (vector_of v)
  pub only : (p j : ℕ) (w : Vector ℤ) → P p j w → (p ≡ o) × (j ≡ i)

-- two atoms and their displacements
pub record AreTwo (P : ℕ → ℕ → Vector ℤ → Type 0) : Type 0 where
  pub orbit : ℕ
  pub atom : ℕ
  pub orbit' : ℕ
  pub atom' : ℕ
  pub shift : Vector ℤ
  pub shift' : Vector ℤ
  pub first : P orbit atom shift
  pub second : P orbit' atom' shift'
  pub apart : ((orbit ≡ orbit') × (atom ≡ atom')) → ⊥

abbrev pub IsFound : (ℕ → ℕ → Vector ℤ → Type 0) → Found → Type 0
IsFound P Nothing = (o i : ℕ) (v : Vector ℤ) → P o i v → ⊥
IsFound P (One o i v) = IsOnly P o i v
IsFound P Many = AreTwo P

abbrev pub both_of : Found → Found → Found
both_of Nothing second = second
both_of (One o i v) Nothing = One o i v
both_of (One o i v) (One p j w) = Many
both_of (One o i v) Many = Many
both_of Many second = Many

abbrev pub found_of : ℕ → ℕ → Option (List ℤ) → Found
found_of o i None = Nothing
found_of o i (Some v) = One o i v

-- an atom of orbit o with a number below n
abbrev pub IsAtomBelow : List ℕ → ℤ → Vector ℤ → ℕ → List (List ℤ) → ℕ → ℕ → ℕ → Vector ℤ → Type 0
IsAtomBelow d tolerance x o places n p i v = (p ≡ o) × (i < n) × IsDisplacement d tolerance x (place_at places i) v

-- atom i of orbit o, which has this label
pub record IsAtomAt (d : List ℕ) (tolerance : ℤ) (x : Vector ℤ) (label : List ℕ) (orbits : List OrbitView) (o i : ℕ) (v : Vector ℤ) : Type 0 where
  pub orbit : OrbitView
  pub is_orbit : slice_get orbits o ≡ Some orbit
  pub below : i < length orbit.places
  pub label_is : orbit.label ≡ label
  pub displaces : IsDisplacement d tolerance x (place_at orbit.places i) v

-- one of orbit n, and one of the first n orbits
abbrev pub IsAtomIn : List ℕ → ℤ → Vector ℤ → List ℕ → List OrbitView → ℕ → ℕ → ℕ → Vector ℤ → Type 0
IsAtomIn d tolerance x label orbits n o i v = (o ≡ n) × IsAtomAt d tolerance x label orbits o i v

abbrev pub IsAtomOf : List ℕ → ℤ → Vector ℤ → List ℕ → List OrbitView → ℕ → ℕ → ℕ → Vector ℤ → Type 0
IsAtomOf d tolerance x label orbits n o i v = (o < n) × IsAtomAt d tolerance x label orbits o i v
