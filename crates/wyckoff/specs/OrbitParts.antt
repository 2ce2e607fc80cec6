-- What the parts of an orbit's code take and give.
--
-- turned_at s r x, shifted_at s t x: where listed operation r, and translation t, take a place, modulo the supercell
-- IsTurned s x r v, IsShifted s x t v: v has the coordinates of that place
-- IsFilled rows columns P d list: a list row by row, in whose row r and column c P holds
-- IsRowAdded n P d list list': one more row of n entries
-- AreDistinct list list': the members of the list, rising, each once
-- IsNumberOf places v k: place k of the list is v
-- AreNear places: coordinates of at most 100 cell edges
-- AreClosedPlaces s places: rising places, among which listed operations and translations take each of them
-- HasPlace orbits i v: orbit i has an atom in the place v
-- IsFirstWith orbits v found: the number of the first orbit that has the place v, or None
-- AreOrbitsBefore s atoms n orbits: one orbit for each of the first n lines
use Rattle.std.specs.Prelude.{◌≡◌, ℕ, ◌<◌, ◌+◌, ◌*◌, ℤ, List, [], ◌++◌, length, Option, Some, MatchOption, slice_get, slice_index_or, Contains}
use Rattle.std.specs.List.{All}
use Rattle.std.specs.declared.cmp.Ordering.TheVariants.{Less}
use Rattle.iso_text.specs.declared.sections.AtomText.{AtomText}
use Rattle.algebra.specs.Whole.{whole}
use Rattle.space_ops.specs.Matrix.{Vector, vector_sum}
use Rattle.space_ops.specs.Op.{shift_of, IsShiftWithin}
use Rattle.space_ops.specs.Words.{op_at}
use Rattle.space_ops.specs.LeastShift.{vector_cmp}
use Rattle.super_group.specs.Quotient.{SupercellGroup, translation_at}
use Rattle.wyckoff.specs.Places.{in_units, moved, reduced_place, place_at}
use Rattle.wyckoff.specs.Orbit.{OrbitView, IsOrbitOf}

-- where listed operation r takes a place, modulo the supercell
abbrev pub turned_at : SupercellGroup → ℕ → Vector ℤ → Vector ℤ
turned_at s r x = reduced_place s.d (moved (op_at s.parent.ops r) x)

-- where translation t takes a place, modulo the supercell
abbrev pub shifted_at : SupercellGroup → ℕ → Vector ℤ → Vector ℤ
shifted_at s t x = reduced_place s.d (vector_sum whole x (in_units (translation_at s.translations t)))

abbrev pub IsTurned : SupercellGroup → Vector ℤ → ℕ → List ℤ → Type 0
IsTurned s x r v = v ≡ shift_of (turned_at s r x)

abbrev pub IsShifted : SupercellGroup → Vector ℤ → ℕ → List ℤ → Type 0
IsShifted s x t v = v ≡ shift_of (shifted_at s t x)

-- row by row
pub record IsFilled {A : Type 0} (rows columns : ℕ) (P : ℕ → ℕ → A → Type 0) (d : A) (list : List A) : Type 0 where
  pub size : length list ≡ rows * columns
  pub each : (r c : ℕ) → r < rows → c < columns → P r c (slice_index_or list (r * columns + c) d)

-- one more row
pub record IsRowAdded {A : Type 0} (n : ℕ) (P : ℕ → A → Type 0) (d : A) (list list' : List A) : Type 0 where
  pub row : List A
  pub is : list' ≡ list ++ row
  pub count : length row ≡ n
  pub each : (c : ℕ) → c < n → P c (slice_index_or row c d)

-- places by their first coordinates that differ
abbrev pub IsRising : List (List ℤ) → Type 0
IsRising places = (i j : ℕ) → i < j → j < length places → vector_cmp (place_at places i) (place_at places j) ≡ Less

-- three coordinates each
abbrev pub AreShaped : List (List ℤ) → Type 0
AreShaped places = (i : ℕ) → i < length places → slice_index_or places i [] ≡ shift_of (place_at places i)

pub record AreDistinct (list list' : List (List ℤ)) : Type 0 where
  pub rising : AreShaped list → IsRising list'
  pub kept : (v : List ℤ) → Contains list v → Contains list' v
  pub only : (v : List ℤ) → Contains list' v → Contains list v

abbrev pub IsNumberOf : List (List ℤ) → List ℤ → ℕ → Type 0
IsNumberOf places v k = (k < length places) × (slice_index_or places k [] ≡ v)

abbrev pub AreNear : List (List ℤ) → Type 0
AreNear places = All (IsShiftWithin 1200000000) places

pub record AreClosedPlaces (s : SupercellGroup) (places : List (List ℤ)) : Type 0 where
  pub rising : IsRising places
  pub shaped : AreShaped places
  pub turned : (r i : ℕ) → r < length s.parent.ops → i < length places → Contains places (shift_of (turned_at s r (place_at places i)))
  pub shifted : (t i : ℕ) → t < length s.translations → i < length places → Contains places (shift_of (shifted_at s t (place_at places i)))

-- orbit i of a list has an atom in this place
pub record HasPlace (orbits : List OrbitView) (i : ℕ) (v : List ℤ) : Type 0 where
  pub orbit : OrbitView
  pub is : slice_get orbits i ≡ Some orbit
  pub has : Contains orbit.places v

abbrev pub IsFirstWith : List OrbitView → List ℤ → Option ℕ → Type 0
IsFirstWith orbits v found =
    MatchOption found ((i : ℕ) → HasPlace orbits i v → ⊥) (λ i. HasPlace orbits i v × ((k : ℕ) → k < i → HasPlace orbits k v → ⊥))

pub record AreOrbitsBefore (s : SupercellGroup) (atoms : List AtomText) (n : ℕ) (orbits : List OrbitView) : Type 0 where
  pub count : length orbits ≡ n
  pub each : (m : ℕ) (atom : AtomText) (orbit : OrbitView) → slice_get atoms m ≡ Some atom → slice_get orbits m ≡ Some orbit → IsOrbitOf s atom orbit
