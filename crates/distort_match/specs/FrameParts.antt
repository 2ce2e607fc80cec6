-- The frame of the listed places, and what its parts take and give.
--
-- IsQuotientBy n c q: q is c divided by n, or None where that is no whole number
-- IsCarriedBy rows origin y x, IsCarriedAlong, IsCarriedTo: x is rows y after the origin, for rows in twelfths; one coordinate; that place, or None where there is none
-- IsPlaceIn frame y t x: x is place number t of y in the frame
-- IsFrameOf s cell frame: the frame has the places of the lines
-- IsFrameHeld frame: its bounds
-- IsMatchingIn d orbits listed tolerance frame m: what is matched, in this frame
-- IsNumberTaken, IsNumberCause: place number t of a line is taken, or refused
use Rattle.std.specs.Prelude.{◌≡◌, ⊤, ◌↔◌, ℕ, ℤ, pos, neg_ℤ, ◌+ℤ◌, ◌*ℤ◌, List, length, Option, Some, IfSome, MatchOption, slice_get}
use Rattle.std.specs.List.{All}
use Rattle.algebra.specs.Whole.{whole}
use Rattle.iso_text.specs.declared.sections.AtomText.{AtomText}
use Rattle.iso_text.specs.declared.sections.CellText.{CellText}
use Rattle.space_ops.specs.Matrix.{Matrix, Vector, image_under, vector_sum}
use Rattle.space_ops.specs.Op.{vector_of, matrix_of, IsShiftWithin, IsRotationWithin}
use Rattle.space_ops.specs.Words.{vector_difference, cell_edges}
use Rattle.super_group.specs.Quotient.{SupercellGroup}
use Rattle.wyckoff.specs.Orbit.{OrbitView}
use Rattle.distort_match.specs.declared.errors.MatchError.{MatchError}
use Rattle.distort_match.specs.declared.frame.Frame.{Frame}
use Rattle.distort_match.specs.ListedCells.{IsBadCell}
use Rattle.distort_match.specs.Matches.{Matching, IsOnGrid, IsPlace}
use Rattle.distort_match.specs.FoundParts.{IsAtomOf}
use Rattle.distort_match.specs.MarkParts.{IsPlaced, IsPlaceCause}

-- c divided by n
abbrev pub IsQuotientBy : ℕ → ℤ → Option ℤ → Type 0
IsQuotientBy n c q = MatchOption q ((x : ℤ) → pos n *ℤ x ≡ c → ⊥) (λ x. pos n *ℤ x ≡ c)

-- one coordinate of such a place, for the row times y
abbrev pub IsCarriedAlong : ℤ → ℤ → Option ℤ → Type 0
IsCarriedAlong origin c found =
    MatchOption found ((x : ℤ) → pos 12 *ℤ (x +ℤ neg_ℤ origin) ≡ c → ⊥) (λ x. pos 12 *ℤ (x +ℤ neg_ℤ origin) ≡ c)

-- twelve times x less the origin is rows y
abbrev pub IsCarriedBy : Matrix ℤ → Vector ℤ → Vector ℤ → Vector ℤ → Type 0
IsCarriedBy rows origin y x = cell_edges (vector_difference x origin) ≡ image_under whole rows y

abbrev pub IsCarriedTo : Matrix ℤ → Vector ℤ → Vector ℤ → Option (List ℤ) → Type 0
IsCarriedTo rows origin y found = MatchOption found ((x : Vector ℤ) → IsCarriedBy rows origin y x → ⊥) (λ x. IsCarriedBy rows origin y (vector_of x))

-- x is place number t of y in the frame
abbrev pub IsPlaceIn : Frame → Vector ℤ → ℕ → Vector ℤ → Type 0
IsPlaceIn frame y t x =
    (u : List ℤ) × (slice_get frame.shifts.items t ≡ Some (Some u)) × IsCarriedBy (matrix_of frame.rows) (vector_of frame.origin) y (vector_difference x (vector_of u))

-- the frame of the listed places has the places of the lines
pub record IsFrameOf (s : SupercellGroup) (cell : Option CellText) (frame : Frame) : Type 0 where
  pub good : IfSome cell (λ c. IsBadCell s c → ⊥)
  pub near_rows : IsRotationWithin 288 frame.rows
  pub near_origin : IsShiftWithin 1200000000 frame.origin
  pub near_shifts : All (λ shift. MatchOption shift (Unit {0}) (λ u. IsShiftWithin 144000000 u)) frame.shifts.items
  pub on_grid : (line : AtomText) → IsOnGrid cell line ↔ ((x : Vector ℤ) × IsCarriedBy (matrix_of frame.rows) (vector_of frame.origin) (vector_of line.place) x)
  pub places : (line : AtomText) (t : ℕ) (x : Vector ℤ) → IsPlace s cell line t x ↔ IsPlaceIn frame (vector_of line.place) t x

-- the bounds of a frame
pub record IsFrameHeld (frame : Frame) : Type 0 where
  pub rows : IsRotationWithin 288 frame.rows
  pub origin : IsShiftWithin 1200000000 frame.origin
  pub shifts : All (λ shift. MatchOption shift ⊤ (IsShiftWithin 144000000)) frame.shifts.items

-- what is matched, in this frame
pub record IsMatchingIn (d : List ℕ) (orbits : List OrbitView) (listed : List AtomText) (tolerance : ℤ) (frame : Frame) (m : Matching) : Type 0 where
  pub d_is : m.group.d ≡ d
  pub orbits_are : m.orbits ≡ orbits
  pub listed_are : m.listed ≡ listed
  pub tolerance_is : m.tolerance ≡ tolerance
  pub frame_is : IsFrameOf m.group m.cell frame

-- place number t of a line is taken, where there is one
abbrev pub IsNumberTaken : List ℕ → ℤ → List OrbitView → List ℕ → List ℤ → Option (List ℤ) → List (List (Option (List ℤ))) → List (List (Option (List ℤ))) → Type 0
IsNumberTaken d tolerance orbits label x shift marks marks' =
    MatchOption shift (marks' ≡ marks) (λ u. IsPlaced (IsAtomOf d tolerance (vector_sum whole (vector_of x) (vector_of u)) label orbits (length orbits)) marks marks')

abbrev pub IsNumberCause : List ℕ → ℤ → List OrbitView → List ℕ → List ℤ → Option (List ℤ) → List (List (Option (List ℤ))) → ℕ → MatchError → Type 0
IsNumberCause d tolerance orbits label x shift marks line error =
    MatchOption shift ⊥ (λ u. IsPlaceCause (IsAtomOf d tolerance (vector_sum whole (vector_of x) (vector_of u)) label orbits (length orbits)) marks line error)
