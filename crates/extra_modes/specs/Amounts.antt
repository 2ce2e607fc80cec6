-- Lines that name atoms of a supercell, and the amounts of the atoms.
--
-- Lines, orbits and atoms are numbered from 0 here, lines of the file by their own numbers.
-- LabelledPlaces, labelled o: the label of an orbit, and the places of its atoms
-- Naming: lines that name atoms of orbits in a supercell
-- IsInPlace d x a: a place x is the place a after a translation of the supercell
-- HasAtom d orbits label x o i: atom i of orbit o has this label, and x is its place
-- Names g n o i: line n names atom i of orbit o
-- IsTaken g n o i: an earlier line names it
-- AreAccepted g n: each of the first n lines names an atom, and none that an earlier line names
-- AmountsView, amount_at v o c: the numbers of the atoms, and the amount in column c of orbit o
-- IsAmountOf g o i x: the numbers of the line that names an atom, 0 where none does
-- AreAmounts g each v: all lines are accepted, and these are the amounts, so many numbers an atom
-- IsUnmatched g line, IsAmbiguous g line, IsGatherCause g error: why there are no amounts
-- AreOrbits s orbits: the orbits of accepted atom lines
-- naming_of s orbits lines: such lines with the orbits of a quotient
-- value_line v, axial_line v: a line with one number, and one with an axial vector
use Rattle.std.specs.Prelude.{◌≡◌, ⊤, ◌⊎◌, ℕ, ◌<◌, ◌/◌, ◌%◌, ℤ, pos, List, [], ◌∷◌, length, map, Some, slice_get, slice_index_or}
use Rattle.algebra.specs.Whole.{whole}
use Rattle.iso_text.specs.declared.sections.AtomText.{AtomText}
use Rattle.iso_text.specs.declared.sections.AxialText.{AxialText}
use Rattle.iso_text.specs.declared.sections.ValueText.{ValueText}
use Rattle.space_ops.specs.Matrix.{Vector, vector_sum}
use Rattle.space_ops.specs.Op.{number_at, vector_of}
use Rattle.super_group.specs.Supercell.{IsCell}
use Rattle.super_group.specs.Quotient.{SupercellGroup}
use Rattle.wyckoff.specs.AtomLines.{AreOrbitsOf, AreAccepted as AreAcceptedAtoms}
use Rattle.wyckoff.specs.Orbit.{OrbitView}
use Rattle.wyckoff.specs.Places.{in_units, place_at}
use Rattle.extra_modes.specs.declared.amount_lines.AmountLine.{AmountLine}
use Rattle.extra_modes.specs.declared.errors.ExtraError.{ExtraError}
use Rattle.extra_modes.specs.declared.errors.ExtraError.TheVariants.{Unmatched, Ambiguous, NoMemory}

pub record LabelledPlaces : Type 0 where
  pub label : List ℕ
  pub places : List (List ℤ)

abbrev pub labelled : OrbitView → LabelledPlaces
labelled o = record { label = o.label; places = o.places }

pub record Naming : Type 0 where
  -- the multipliers of the supercell
  pub d : List ℕ
  pub orbits : List LabelledPlaces
  pub lines : List AmountLine

-- x is a after a translation of the supercell, which is in twelfths
pub record IsInPlace (d : List ℕ) (x a : Vector ℤ) : Type 0 where
  pub translation : Vector ℤ
  pub of_supercell : IsCell d translation
  pub is : x ≡ vector_sum whole a (in_units translation)

pub record HasAtom (d : List ℕ) (orbits : List LabelledPlaces) (label : List ℕ) (x : Vector ℤ) (o i : ℕ) : Type 0 where
  pub orbit : LabelledPlaces
  pub is_orbit : slice_get orbits o ≡ Some orbit
  pub below : i < length orbit.places
  pub label_is : orbit.label ≡ label
  pub place_is : IsInPlace d x (place_at orbit.places i)

pub record Names (g : Naming) (n o i : ℕ) : Type 0 where
  pub line : AmountLine
  pub is_line : slice_get g.lines n ≡ Some line
  pub atom : HasAtom g.d g.orbits line.label (vector_of line.place) o i

-- an earlier line names the atom
abbrev pub IsTaken : Naming → ℕ → ℕ → ℕ → Type 0
IsTaken g n o i = (k : ℕ) × (k < n) × Names g k o i

pub record IsAccepted (g : Naming) (n : ℕ) : Type 0 where
  pub names : (o : ℕ) × (i : ℕ) × Names g n o i
  pub new : (o i : ℕ) → Names g n o i → IsTaken g n o i → ⊥

abbrev pub AreAccepted : Naming → ℕ → Type 0
AreAccepted g n = (k : ℕ) → k < n → IsAccepted g k

pub record AmountsView : Type 0 where
  pub each : ℕ
  -- three numbers for each atom of each orbit, in units of 1/12,000,000
  pub atoms : List (List (List ℤ))

-- number a of atom i is in column i c + a, for c numbers an atom
abbrev pub amount_at : AmountsView → ℕ → ℕ → ℤ
amount_at v o c = number_at (slice_index_or (slice_index_or v.atoms o []) (c / v.each) []) (c % v.each)

abbrev pub nothing : List ℤ
nothing = pos 0 ∷ pos 0 ∷ pos 0 ∷ []

-- the numbers of the line that names the atom, or 0 where none does
abbrev pub IsAmountOf : Naming → ℕ → ℕ → List ℤ → Type 0
IsAmountOf g o i x = ((n : ℕ) × (named : Names g n o i) × (x ≡ named.line.numbers)) ⊎ (((n : ℕ) → Names g n o i → ⊥) × (x ≡ nothing))

pub record AreAmounts (g : Naming) (each : ℕ) (v : AmountsView) : Type 0 where
  pub accepted : AreAccepted g (length g.lines)
  pub each_is : v.each ≡ each
  pub orbits : length v.atoms ≡ length g.orbits
  pub atoms : (o : ℕ) (orbit : LabelledPlaces) → slice_get g.orbits o ≡ Some orbit → length (slice_index_or v.atoms o []) ≡ length orbit.places
  pub amounts : (o i : ℕ) (orbit : LabelledPlaces) → slice_get g.orbits o ≡ Some orbit → i < length orbit.places
      → IsAmountOf g o i (slice_index_or (slice_index_or v.atoms o []) i [])

-- all lines before it are accepted, and it names no atom
pub record IsUnmatched (g : Naming) (line : ℕ) : Type 0 where
  pub n : ℕ
  pub accepted : AreAccepted g n
  pub text : AmountLine
  pub is_text : slice_get g.lines n ≡ Some text
  pub none : (o i : ℕ) → Names g n o i → ⊥
  pub line_is : line ≡ text.line

-- all lines before it are accepted, and it names an atom that one of them names
pub record IsAmbiguous (g : Naming) (line : ℕ) : Type 0 where
  pub n : ℕ
  pub accepted : AreAccepted g n
  pub o : ℕ
  pub i : ℕ
  pub named : Names g n o i
  pub taken : IsTaken g n o i
  pub line_is : line ≡ named.line.line

abbrev pub IsGatherCause : Naming → ExtraError → Type 0
IsGatherCause g (Unmatched line) = IsUnmatched g line
IsGatherCause g (Ambiguous line) = IsAmbiguous g line
IsGatherCause g NoMemory = ⊤
IsGatherCause g _ = ⊥

-- a `value` line: one number
abbrev pub value_line : ValueText → AmountLine
value_line v = record { line = v.line; label = v.label; place = v.place; numbers = v.value ∷ pos 0 ∷ pos 0 ∷ [] }

-- an `axial` line: three numbers
abbrev pub axial_line : AxialText → AmountLine
axial_line v = record { line = v.line; label = v.label; place = v.place; numbers = v.value }

abbrev pub AreOrbits : SupercellGroup → List OrbitView → Type 0
AreOrbits s orbits = (atoms : List AtomText) × AreOrbitsOf s atoms orbits × AreAcceptedAtoms s atoms (length atoms)

abbrev pub naming_of : SupercellGroup → List OrbitView → List AmountLine → Naming
naming_of s orbits lines = record { d = s.d; orbits = map labelled orbits; lines = lines }
