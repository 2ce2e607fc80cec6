-- The report of `list`.
--
-- direction_text s dim (number, d): the lines of a direction under its number
-- listing_text format name s dim after count ds: the report on a listing, with the directions of a page
-- AreReportable s dim ds: what the program's directions have to be
use Rattle.std.specs.Prelude.{◌≡◌, ℕ, ◌/◌, ◌-◌, ◌<◌, List, [], ◌++◌, All, Option, length, flat_map, codes, decimal}
use Rattle.iso_text.specs.Lines.{line}
use Rattle.cyclo24.specs.ExactK24.{Exact24}
use Rattle.cyclo24.specs.declared.k24.K24.{K24}
use Rattle.class_list.specs.Directions.{Direction}
use Rattle.class_list.specs.Pages.{page}
use Rattle.class_list.specs.Seen.{DirectionView}
use Rattle.super_group.specs.Quotient.{SupercellGroup, order_of}
use Rattle.list_report.specs.FormText.{form_text}
use Rattle.list_report.specs.StabiliserText.{kept_lines, op_lines}

-- the first line of a direction: its number, dimension, order and index
abbrev pub direction_line : SupercellGroup → ℕ → ℕ → Direction Exact24 → List ℕ
direction_line s dim number d =
    codes "direction " ++ decimal number ++ codes " dim " ++ decimal (dim - length d.equations) ++ codes " order " ++ decimal (length d.stabiliser)
    ++ codes " index " ++ decimal (order_of s / length d.stabiliser)

-- its numbers and its form
abbrev pub direction_head : SupercellGroup → ℕ → ℕ → Direction Exact24 → List ℕ
direction_head s dim number d = line (direction_line s dim number d) (line (codes "form" ++ form_text d.equations dim) [])

-- the lines of a direction: its numbers and its form, its kept translations and its operations
abbrev pub direction_text : SupercellGroup → ℕ → ℕ × Direction Exact24 → List ℕ
direction_text s dim d = direction_head s dim d.0 d.1 ++ kept_lines s d.1.stabiliser ++ op_lines s d.1.stabiliser

-- the first lines: the irrep with its dimension, the order of the group, how many directions
abbrev pub listing_head : ℕ → List ℕ → ℕ → ℕ → ℕ → List ℕ → List ℕ
listing_head format name dim order total rest =
    line (codes "isodist " ++ decimal format ++ codes " list")
    (line (codes "irrep " ++ name ++ codes " dim " ++ decimal dim ++ codes " order " ++ decimal order) (line (codes "total " ++ decimal total) rest))

-- the report on a listing, with the directions of a page
abbrev pub listing_text : ℕ → List ℕ → SupercellGroup → ℕ → ℕ → Option ℕ → List (Direction Exact24) → List ℕ
listing_text format name s dim after count ds =
    listing_head format name dim (order_of s) (length ds) (flat_map (direction_text s dim) (page after count ds))

-- equations of this width, and stabilisers that are lists of elements, one at least
pub record AreReportable (s : SupercellGroup) (dim : ℕ) (ds : List (DirectionView K24)) : Type 0 where
  pub widths : All (λ d. d.equations.width ≡ dim) ds
  pub members : All (λ d. All (λ a. a < order_of s) d.stabiliser) ds
  pub some : All (λ d. 0 < length d.stabiliser) ds
