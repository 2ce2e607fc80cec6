-- The pieces of a page of the report of `list`: the lines of each of its directions.
--
-- page_pieces q dim after count ds: the lines of each direction of a page
use Rattle.std.specs.Prelude.{ℕ, List, Option, map}
use Rattle.cyclo24.specs.ExactK24.{Exact24}
use Rattle.super_group.specs.Quotient.{SupercellGroup}
use Rattle.class_list.specs.Directions.{Direction}
use Rattle.class_list.specs.Pages.{page}
use Rattle.list_report.specs.ListReport.{direction_text}

-- the lines of each direction of a page
abbrev pub page_pieces : SupercellGroup → ℕ → ℕ → Option ℕ → List (Direction Exact24) → List (List ℕ)
page_pieces q dim after count ds = map (direction_text q dim) (page after count ds)
