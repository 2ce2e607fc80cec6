-- The report of `couple`.
--
-- couple_head format a b m n order total rest: the first lines: the irreps with their dimensions, the order of the group, how many directions
-- couple_text format a b s m n after count ds: the report on a listing of pairs, with the directions of a page
use Rattle.std.specs.Prelude.{ℕ, ◌+◌, List, ◌++◌, Option, length, flat_map, codes, decimal}
use Rattle.iso_text.specs.Lines.{line}
use Rattle.cyclo24.specs.ExactK24.{Exact24}
use Rattle.class_list.specs.Directions.{Direction}
use Rattle.class_list.specs.Pages.{page}
use Rattle.super_group.specs.Quotient.{SupercellGroup, order_of}
use Rattle.list_report.specs.ListReport.{direction_text}

abbrev pub couple_head : ℕ → List ℕ → List ℕ → ℕ → ℕ → ℕ → ℕ → List ℕ → List ℕ
couple_head format a b m n order total rest =
    line (codes "isodist " ++ decimal format ++ codes " couple")
    (line (codes "irreps " ++ a ++ codes " " ++ b ++ codes " dims " ++ decimal m ++ codes " " ++ decimal n ++ codes " order " ++ decimal order)
    (line (codes "total " ++ decimal total) rest))

-- in `form` the letters run through both parts
abbrev pub couple_text : ℕ → List ℕ → List ℕ → SupercellGroup → ℕ → ℕ → ℕ → Option ℕ → List (Direction Exact24) → List ℕ
couple_text format a b s m n after count ds =
    couple_head format a b m n (order_of s) (length ds) (flat_map (direction_text s (m + n)) (page after count ds))
