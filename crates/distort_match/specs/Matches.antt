-- The places of listed atoms, and the atoms of the supercell that they match.
--
-- Matching: the orbits of a supercell, the listed lines with their cell, and the tolerance in units
-- IsOnGrid cell line: the place of a line is a whole number of units in the parent
-- IsPlace s cell line t x: x is place number t of a listed line
-- ListedPlace m n t: place number t of line n
-- IsDisplacement d tolerance x a v: v is x less a after a supercell translation, each coordinate at most the tolerance
-- Matches m n t o i v: place t of line n matches atom i of orbit o, which it displaces by v
-- MatchesAtom m n t o i: it matches that atom
use Rattle.std.specs.Prelude.{◌≡◌, ⊤, ℕ, ◌<◌, ℤ, neg_ℤ, ◌≤ℤ◌, List, length, Option, Some, None, slice_get}
use Rattle.algebra.specs.Whole.{whole}
use Rattle.iso_text.specs.declared.sections.AtomText.{AtomText}
use Rattle.iso_text.specs.declared.sections.CellText.{CellText}
use Rattle.space_ops.specs.Matrix.{Vector, vector_sum}
use Rattle.space_ops.specs.Op.{vector_of}
use Rattle.space_ops.specs.Words.{vector_difference}
use Rattle.super_group.specs.Supercell.{IsCell}
use Rattle.super_group.specs.Quotient.{SupercellGroup, translation_at}
use Rattle.wyckoff.specs.Orbit.{OrbitView}
use Rattle.wyckoff.specs.Places.{in_units, place_at}
use Rattle.distort_match.specs.ListedCells.{IsCombination, IsCarried}

pub record Matching : Type 0 where
  pub group : SupercellGroup
  pub orbits : List OrbitView
  pub listed : List AtomText
  -- in units of 1/12,000,000 of a cell edge
  pub tolerance : ℤ
  pub cell : Option CellText

abbrev pub IsOnGrid : Option CellText → AtomText → Type 0
IsOnGrid None line = ⊤
IsOnGrid (Some cell) line = (x : Vector ℤ) × IsCarried cell (vector_of line.place) x

-- without a cell the written place alone, with number 0; in a cell the carried place after each
-- lattice translation of the supercell that is a whole combination of the columns, by its number
abbrev pub IsPlace : SupercellGroup → Option CellText → AtomText → ℕ → Vector ℤ → Type 0
IsPlace s None line t x = (t ≡ 0) × (x ≡ vector_of line.place)
IsPlace s (Some cell) line t x =
    (t < length s.translations) × IsCombination cell (translation_at s.translations t)
    × IsCarried cell (vector_of line.place) (vector_difference x (in_units (translation_at s.translations t)))

pub record ListedPlace (m : Matching) (n t : ℕ) : Type 0 where
  pub line : AtomText
  pub is_line : slice_get m.listed n ≡ Some line
  pub x : Vector ℤ
  pub is : IsPlace m.group m.cell line t x

-- at most the tolerance in absolute value
abbrev pub IsNear : ℤ → ℤ → Type 0
IsNear tolerance c = (neg_ℤ tolerance ≤ℤ c) × (c ≤ℤ tolerance)

pub record IsDisplacement (d : List ℕ) (tolerance : ℤ) (x a v : Vector ℤ) : Type 0 where
  -- of the supercell, in twelfths
  pub translation : Vector ℤ
  pub of_supercell : IsCell d translation
  pub is : v ≡ vector_sum whole (vector_difference x a) (in_units translation)
  pub near : IsNear tolerance v.x × IsNear tolerance v.y × IsNear tolerance v.z

pub record Matches (m : Matching) (n t o i : ℕ) (v : Vector ℤ) : Type 0 where
  pub place : ListedPlace m n t
  pub orbit : OrbitView
  pub is_orbit : slice_get m.orbits o ≡ Some orbit
  pub below : i < length orbit.places
  pub label : orbit.label ≡ place.line.label
  pub displaces : IsDisplacement m.group.d m.tolerance place.x (place_at orbit.places i) v

abbrev pub MatchesAtom : Matching → ℕ → ℕ → ℕ → ℕ → Type 0
MatchesAtom m n t o i = (v : Vector ℤ) × Matches m n t o i v
