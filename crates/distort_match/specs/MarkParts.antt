-- What the marks of the atoms are, and what their parts take and give: the displacements found so far.
--
-- mark_at marks o i, set_mark marks o i v: the displacement of atom i of orbit o, where it is found; noted
-- AreMarksFor orbits marks: one for each atom
-- IsPlaced P marks marks', IsPlaceCause P marks line error: a place matches one free atom, which is marked; why it is refused
-- AreMarked m n t marks: each place before place t of line n has marked the atom that it matches, and no other is marked
-- AreAllMarked, IsFirstFree, IsOrbitCause: the displacements of an orbit, or its first atom without one
-- AreAllShifts, IsFirstMissing, IsMissingCause: the same for all orbits
-- IsFoundInside, IsFoundTaken, IsFoundRefused: what is found is marked, or refused
use Rattle.std.specs.Prelude.{◌≡◌, ⊤, ◌⊎◌, ℕ, ◌<◌, ℤ, List, [], length, Option, Some, None, slice_get, slice_index_or, slice_set}
use Rattle.space_ops.specs.Matrix.{Vector}
use Rattle.space_ops.specs.Op.{vector_of, shift_of}
use Rattle.wyckoff.specs.Orbit.{OrbitView}
use Rattle.distort_match.specs.declared.errors.MatchError.{MatchError}
use Rattle.distort_match.specs.declared.errors.MatchError.TheVariants.{Unmatched, Ambiguous, MissingAtom, NoMemory}
use Rattle.distort_match.specs.declared.found.Found.{Found}
use Rattle.distort_match.specs.declared.found.Found.TheVariants.{Nothing, One, Many}
use Rattle.distort_match.specs.Matches.{Matching, Matches, MatchesAtom}
use Rattle.distort_match.specs.Outcomes.{IsEarlier, IsAcceptedTo}
use Rattle.distort_match.specs.FoundParts.{IsOnly, AreTwo}

-- the displacements found so far, for each orbit and atom
abbrev pub mark_at : List (List (Option (List ℤ))) → ℕ → ℕ → Option (List ℤ)
mark_at marks o i = slice_index_or (slice_index_or marks o []) i None

-- one for each atom
pub record AreMarksFor (orbits : List OrbitView) (marks : List (List (Option (List ℤ)))) : Type 0 where
  pub count : length marks ≡ length orbits
  pub atoms : (o : ℕ) (orbit : OrbitView) → slice_get orbits o ≡ Some orbit → length (slice_index_or marks o []) ≡ length orbit.places

abbrev pub set_mark : List (List (Option (List ℤ))) → ℕ → ℕ → List ℤ → List (List (Option (List ℤ)))
set_mark marks o i v = slice_set marks o (slice_set (slice_index_or marks o []) i (Some v))

-- the one atom that the place matches was free, and is marked
pub record IsPlaced (P : ℕ → ℕ → Vector ℤ → Type 0) (marks marks' : List (List (Option (List ℤ)))) : Type 0 where
  pub o : ℕ
  pub i : ℕ
  pub v : List ℤ
  pub only : IsOnly P o i v
  pub free : mark_at marks o i ≡ None
  pub is : marks' ≡ set_mark marks o i v

-- one atom that the place matches is marked
pub record IsTakenMark (P : ℕ → ℕ → Vector ℤ → Type 0) (marks : List (List (Option (List ℤ)))) : Type 0 where
  pub o : ℕ
  pub i : ℕ
  pub v : Vector ℤ
  pub is : P o i v
  pub w : List ℤ
  pub taken : mark_at marks o i ≡ Some w

-- why the place is refused
abbrev pub IsPlaceCause : (ℕ → ℕ → Vector ℤ → Type 0) → List (List (Option (List ℤ))) → ℕ → MatchError → Type 0
IsPlaceCause P marks line (Unmatched n) = (n ≡ line) × ((o i : ℕ) (v : Vector ℤ) → P o i v → ⊥)
IsPlaceCause P marks line (Ambiguous n) = (n ≡ line) × (AreTwo P ⊎ IsTakenMark P marks)
IsPlaceCause P marks line _ = ⊥

-- each place before place t of line n has marked the atom that it matches, and no other
pub record AreMarked (m : Matching) (n t : ℕ) (marks : List (List (Option (List ℤ)))) : Type 0 where
  pub accepted : IsAcceptedTo m n t
  pub marked : (o i : ℕ) (v : List ℤ) → mark_at marks o i ≡ Some v → (k : ℕ) × (u : ℕ) × IsEarlier k u n t × Matches m k u o i (vector_of v) × (v ≡ shift_of (vector_of v))
  pub free : (o i : ℕ) → mark_at marks o i ≡ None → (k u : ℕ) → IsEarlier k u n t → MatchesAtom m k u o i → ⊥

-- the displacements of an orbit are its marks
pub record AreAllMarked (marks : List (Option (List ℤ))) (n : ℕ) (shifts : List (List ℤ)) : Type 0 where
  pub count : length shifts ≡ n
  pub each : (i : ℕ) → i < n → slice_index_or marks i None ≡ Some (slice_index_or shifts i [])

-- the first atom of an orbit without a mark
pub record IsFirstFree (orbit : OrbitView) (marks : List (Option (List ℤ))) (label : List ℕ) (place : List ℤ) : Type 0 where
  pub i : ℕ
  pub below : i < length orbit.places
  pub free : slice_index_or marks i None ≡ None
  pub first : (j : ℕ) → j < i → (v : List ℤ) × (slice_index_or marks j None ≡ Some v)
  pub label_is : label ≡ orbit.label
  pub place_is : place ≡ slice_index_or orbit.places i []

abbrev pub IsOrbitCause : OrbitView → List (Option (List ℤ)) → MatchError → Type 0
IsOrbitCause orbit marks (MissingAtom label place) = IsFirstFree orbit marks label place
IsOrbitCause orbit marks NoMemory = ⊤
IsOrbitCause orbit marks _ = ⊥

-- what is found is among the marks
abbrev pub IsFoundInside : Found → List (List (Option (List ℤ))) → Type 0
IsFoundInside (One o i v) marks = (o < length marks) × (i < length (slice_index_or marks o []))
IsFoundInside _ marks = ⊤

abbrev pub IsFoundTaken : Found → List (List (Option (List ℤ))) → List (List (Option (List ℤ))) → Type 0
IsFoundTaken (One o i v) marks marks' = (mark_at marks o i ≡ None) × (marks' ≡ set_mark marks o i v)
IsFoundTaken _ marks marks' = ⊥

abbrev pub IsFoundRefused : Found → List (List (Option (List ℤ))) → ℕ → MatchError → Type 0
IsFoundRefused Nothing marks line (Unmatched n) = n ≡ line
IsFoundRefused (One o i v) marks line (Ambiguous n) = (n ≡ line) × ((w : List ℤ) × (mark_at marks o i ≡ Some w))
IsFoundRefused Many marks line (Ambiguous n) = n ≡ line
IsFoundRefused _ marks line _ = ⊥

-- all atoms are marked, and these are the marks
pub record AreAllShifts (orbits : List OrbitView) (marks : List (List (Option (List ℤ)))) (shifts : List (List (List ℤ))) : Type 0 where
  pub count : length shifts ≡ length orbits
  pub each : (o : ℕ) (orbit : OrbitView) → slice_get orbits o ≡ Some orbit → AreAllMarked (slice_index_or marks o []) (length orbit.places) (slice_index_or shifts o [])

-- the first atom without a mark
pub record IsFirstMissing (orbits : List OrbitView) (marks : List (List (Option (List ℤ)))) (label : List ℕ) (place : List ℤ) : Type 0 where
  pub o : ℕ
  pub orbit : OrbitView
  pub is_orbit : slice_get orbits o ≡ Some orbit
  pub free : IsFirstFree orbit (slice_index_or marks o []) label place
  pub first : (p i : ℕ) (earlier : OrbitView) → p < o → slice_get orbits p ≡ Some earlier → i < length earlier.places → (v : List ℤ) × (mark_at marks p i ≡ Some v)

abbrev pub IsMissingCause : List OrbitView → List (List (Option (List ℤ))) → MatchError → Type 0
IsMissingCause orbits marks (MissingAtom label place) = IsFirstMissing orbits marks label place
IsMissingCause orbits marks NoMemory = ⊤
IsMissingCause orbits marks _ = ⊥
