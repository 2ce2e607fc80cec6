-- What pages of the report of `list` obey.
--
-- page_lines q dim after count ds: the lines of the directions of a page
-- both c count: the count of a page of c directions and of the page behind it
-- PagesJoin: the lines of a page, followed by those of the page behind it, are those of one page
use Rattle.std.specs.Prelude.{◌≡◌, ℕ, ◌+◌, ◌++◌, List, Option, Some, None, flat_map}
use Rattle.cyclo24.specs.ExactK24.{Exact24}
use Rattle.super_group.specs.Quotient.{SupercellGroup}
use Rattle.class_list.specs.Directions.{Direction}
use Rattle.class_list.specs.Pages.{page}
use Rattle.list_report.specs.ListReport.{direction_text}

-- the lines of the directions of a page
abbrev pub page_lines : SupercellGroup → ℕ → ℕ → Option ℕ → List (Direction Exact24) → List ℕ
page_lines q dim after count ds = flat_map (direction_text q dim) (page after count ds)

-- the count of both pages; none where the second has none
abbrev pub both : ℕ → Option ℕ → Option ℕ
both c None = None
both c (Some d) = Some (c + d)

-- the page after a with count c, and the page after a + c
abbrev pub PagesJoin : Type 0
PagesJoin =
    (q : SupercellGroup) (dim : ℕ) (ds : List (Direction Exact24)) (a c : ℕ) (count : Option ℕ) → page_lines q dim a (Some c) ds ++ page_lines q dim (a + c) count ds ≡ page_lines q dim a (both c count) ds
