-- The displacements of the atoms of a supercell, or the line or the atom that is refused.
--
-- Lines, places, orbits and atoms are numbered from 0 here, lines of the file by their own numbers.
-- IsEarlier k u n t: the pair (k, u) stands before the pair (n, t), by the first numbers that differ
-- MatchesOne m n t: place t of line n matches one atom, and none that an earlier place matches
-- IsAcceptedTo m n t: the cell isn't bad, the first n lines are on the grid, and each place before place t of line n matches one atom of its own
-- AreShiftsOf m shifts: all lines are accepted, and each atom is displaced by the place that matches it
-- IsMatchCause m error: when there are no displacements
use Rattle.std.specs.Prelude.{◌≡◌, ⊤, ◌⊎◌, ℕ, ◌<◌, ℤ, List, [], length, Option, Some, IfSome, slice_get, slice_index_or}
use Rattle.iso_text.specs.declared.sections.AtomText.{AtomText}
use Rattle.iso_text.specs.declared.sections.CellText.{CellText}
use Rattle.space_ops.specs.Op.{vector_of, shift_of}
use Rattle.super_group.specs.Quotient.{SupercellGroup}
use Rattle.wyckoff.specs.Orbit.{OrbitView}
use Rattle.distort_match.specs.declared.errors.MatchError.{MatchError}
use Rattle.distort_match.specs.declared.errors.MatchError.TheVariants.{Unmatched, Ambiguous, MissingAtom, BadCell, OffGrid, NoMemory}
use Rattle.distort_match.specs.ListedCells.{IsBadCell}
use Rattle.distort_match.specs.Matches.{Matching, IsOnGrid, ListedPlace, Matches, MatchesAtom}

abbrev pub IsEarlier : ℕ → ℕ → ℕ → ℕ → Type 0
IsEarlier k u n t = (k < n) ⊎ ((k ≡ n) × (u < t))

-- an earlier place matches the atom
abbrev pub IsTaken : Matching → ℕ → ℕ → ℕ → ℕ → Type 0
IsTaken m n t o i = (k : ℕ) × (u : ℕ) × IsEarlier k u n t × MatchesAtom m k u o i

pub record MatchesOne (m : Matching) (n t : ℕ) : Type 0 where
  pub orbit : ℕ
  pub atom : ℕ
  pub matches : MatchesAtom m n t orbit atom
  pub only : (o i : ℕ) → MatchesAtom m n t o i → (o ≡ orbit) × (i ≡ atom)
  pub new : IsTaken m n t orbit atom → ⊥

pub record IsAcceptedTo (m : Matching) (n t : ℕ) : Type 0 where
  pub cell : IfSome m.cell (λ cell. IsBadCell m.group cell → ⊥)
  pub on_grid : (k : ℕ) (line : AtomText) → k < n → slice_get m.listed k ≡ Some line → IsOnGrid m.cell line
  pub matched : (k u : ℕ) → IsEarlier k u n t → ListedPlace m k u → MatchesOne m k u

-- all lines are accepted
abbrev pub IsAccepted : Matching → Type 0
IsAccepted m = IsAcceptedTo m (length m.listed) 0

-- the displacement of atom i of orbit o, in units
abbrev pub shift_at : List (List (List ℤ)) → ℕ → ℕ → List ℤ
shift_at shifts o i = slice_index_or (slice_index_or shifts o []) i []

-- a place matches the atom, and displaces it by v, three coordinates
abbrev pub IsShiftOf : Matching → ℕ → ℕ → List ℤ → Type 0
IsShiftOf m o i v = (n : ℕ) × (t : ℕ) × Matches m n t o i (vector_of v) × (v ≡ shift_of (vector_of v))

pub record AreShiftsOf (m : Matching) (shifts : List (List (List ℤ))) : Type 0 where
  pub accepted : IsAccepted m
  pub orbits : length shifts ≡ length m.orbits
  pub atoms : (o : ℕ) (orbit : OrbitView) → slice_get m.orbits o ≡ Some orbit → length (slice_index_or shifts o []) ≡ length orbit.places
  pub each : (o i : ℕ) (orbit : OrbitView) → slice_get m.orbits o ≡ Some orbit → i < length orbit.places → IsShiftOf m o i (shift_at shifts o i)

pub record HasBadCell (s : SupercellGroup) (listed_cell : Option CellText) (line : ℕ) : Type 0 where
  pub cell : CellText
  pub is_cell : listed_cell ≡ Some cell
  pub bad : IsBadCell s cell
  pub line_is : line ≡ cell.line

-- all before line n is accepted, and it is off the grid
pub record IsOffGrid (m : Matching) (line : ℕ) : Type 0 where
  pub n : ℕ
  pub accepted : IsAcceptedTo m n 0
  pub listed : AtomText
  pub is_listed : slice_get m.listed n ≡ Some listed
  pub off_grid : IsOnGrid m.cell listed → ⊥
  pub line_is : line ≡ listed.line

-- all before place t of line n is accepted, and it matches no atom
pub record IsUnmatched (m : Matching) (line : ℕ) : Type 0 where
  pub n : ℕ
  pub t : ℕ
  pub accepted : IsAcceptedTo m n t
  pub place : ListedPlace m n t
  pub none : (o i : ℕ) → MatchesAtom m n t o i → ⊥
  pub line_is : line ≡ place.line.line

-- it matches two atoms
pub record MatchesTwo (m : Matching) (n t : ℕ) : Type 0 where
  pub orbit : ℕ
  pub atom : ℕ
  pub orbit' : ℕ
  pub atom' : ℕ
  pub first : MatchesAtom m n t orbit atom
  pub second : MatchesAtom m n t orbit' atom'
  pub apart : ((orbit ≡ orbit') × (atom ≡ atom')) → ⊥

-- it matches one that an earlier place matches
abbrev pub MatchesTaken : Matching → ℕ → ℕ → Type 0
MatchesTaken m n t = (o : ℕ) × (i : ℕ) × MatchesAtom m n t o i × IsTaken m n t o i

-- all before place t of line n is accepted, and it matches two atoms or one that is taken
pub record IsAmbiguous (m : Matching) (line : ℕ) : Type 0 where
  pub n : ℕ
  pub t : ℕ
  pub accepted : IsAcceptedTo m n t
  pub place : ListedPlace m n t
  pub ambiguous : MatchesTwo m n t ⊎ MatchesTaken m n t
  pub line_is : line ≡ place.line.line

-- a place matches the atom
abbrev pub IsMatched : Matching → ℕ → ℕ → Type 0
IsMatched m o i = (n : ℕ) × (t : ℕ) × MatchesAtom m n t o i

-- all lines are accepted, and this is the first atom that no place matches
pub record IsMissing (m : Matching) (label : List ℕ) (place : List ℤ) : Type 0 where
  pub accepted : IsAccepted m
  pub o : ℕ
  pub i : ℕ
  pub orbit : OrbitView
  pub is_orbit : slice_get m.orbits o ≡ Some orbit
  pub below : i < length orbit.places
  pub missing : IsMatched m o i → ⊥
  pub first : (p j : ℕ) (earlier : OrbitView) → IsEarlier p j o i → slice_get m.orbits p ≡ Some earlier → j < length earlier.places → IsMatched m p j
  pub label_is : label ≡ orbit.label
  pub place_is : place ≡ slice_index_or orbit.places i []

abbrev pub IsMatchCause : Matching → MatchError → Type 0
IsMatchCause m (Unmatched line) = IsUnmatched m line
IsMatchCause m (Ambiguous line) = IsAmbiguous m line
IsMatchCause m (MissingAtom label place) = IsMissing m label place
IsMatchCause m (BadCell line) = HasBadCell m.group m.cell line
IsMatchCause m (OffGrid line) = IsOffGrid m line
IsMatchCause m NoMemory = ⊤
