-- The orbits of the atom lines of a file, or the line that is refused. Lines are numbered from 0 here.
--
-- AreOnOneOrbit s atoms i j: the place of line j is on the orbit of that of line i
-- HasTooManyAtoms s atoms j size: the orbit of line j has `size` coordinates, which pass 1,152
-- AreAccepted s atoms n: of the first n lines no two are on one orbit, and none has too many atoms
-- AreOrbitsOf s atoms orbits: one orbit for each line, in order
-- IsAtomCause s atoms error: when the lines have no orbits
use Rattle.std.specs.Prelude.{◌≡◌, ℕ, ◌<◌, ◌*◌, ⊤, ℤ, List, length, Some, slice_get}
use Rattle.iso_text.specs.declared.sections.AtomText.{AtomText}
use Rattle.space_ops.specs.Op.{vector_of}
use Rattle.super_group.specs.Quotient.{SupercellGroup}
use Rattle.wyckoff.specs.declared.orbits.AtomError.{AtomError}
use Rattle.wyckoff.specs.declared.orbits.AtomError.TheVariants.{SameSite, TooManyAtoms, NoMemory}
use Rattle.wyckoff.specs.Places.{IsOnOrbit}
use Rattle.wyckoff.specs.Orbit.{ArePlacesOf, OrbitView, IsOrbitOf}

pub record AreOnOneOrbit (s : SupercellGroup) (atoms : List AtomText) (i j : ℕ) : Type 0 where
  pub first : AtomText
  pub second : AtomText
  pub is_first : slice_get atoms i ≡ Some first
  pub is_second : slice_get atoms j ≡ Some second
  pub meets : IsOnOrbit s (vector_of first.place) (vector_of second.place)

-- three coordinates an atom
pub record HasTooManyAtoms (s : SupercellGroup) (atoms : List AtomText) (j size : ℕ) : Type 0 where
  pub atom : AtomText
  pub is : slice_get atoms j ≡ Some atom
  pub places : List (List ℤ)
  pub are : ArePlacesOf s (vector_of atom.place) places
  pub size_is : size ≡ 3 * length places
  pub many : 1152 < size

-- on the orbit of no earlier line
abbrev pub IsNewOrbit : SupercellGroup → List AtomText → ℕ → Type 0
IsNewOrbit s atoms j = (i : ℕ) → i < j → AreOnOneOrbit s atoms i j → ⊥

abbrev pub AreAccepted : SupercellGroup → List AtomText → ℕ → Type 0
AreAccepted s atoms n = (j : ℕ) → j < n → IsNewOrbit s atoms j × ((size : ℕ) → HasTooManyAtoms s atoms j size → ⊥)

pub record AreOrbitsOf (s : SupercellGroup) (atoms : List AtomText) (orbits : List OrbitView) : Type 0 where
  pub count : length orbits ≡ length atoms
  pub each : (n : ℕ) (atom : AtomText) (orbit : OrbitView) → slice_get atoms n ≡ Some atom → slice_get orbits n ≡ Some orbit → IsOrbitOf s atom orbit

-- the lines before line j are accepted, and it is on the orbit of line i, the first such line
pub record IsSameSite (s : SupercellGroup) (atoms : List AtomText) (earlier line : ℕ) : Type 0 where
  pub i : ℕ
  pub j : ℕ
  pub before : i < j
  pub accepted : AreAccepted s atoms j
  pub meets : AreOnOneOrbit s atoms i j
  pub first : (k : ℕ) → k < i → AreOnOneOrbit s atoms k j → ⊥
  pub earlier_is : earlier ≡ meets.first.line
  pub line_is : line ≡ meets.second.line

-- the lines before line j are accepted, it is on the orbit of none of them, and its own orbit is too large
pub record IsTooLarge (s : SupercellGroup) (atoms : List AtomText) (line size : ℕ) : Type 0 where
  pub j : ℕ
  pub accepted : AreAccepted s atoms j
  pub new : IsNewOrbit s atoms j
  pub large : HasTooManyAtoms s atoms j size
  pub line_is : line ≡ large.atom.line

abbrev pub IsAtomCause : SupercellGroup → List AtomText → AtomError → Type 0
IsAtomCause s atoms (SameSite earlier line) = IsSameSite s atoms earlier line
IsAtomCause s atoms (TooManyAtoms line size) = IsTooLarge s atoms line size
IsAtomCause s atoms NoMemory = ⊤
