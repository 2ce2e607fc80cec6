-- The report of `link`.
--
-- LinkMatrix: a link by its rows of numbers, with its rank
-- entry_text e, row_line row: a number behind a space; a row of them
-- rank_line rank n m: the rank, and both dimensions
-- link_lines link: `link none`, or the rank and the rows
-- link_head format a b order rest: the first lines: the irreps with the order of the group
-- link_text format a b order link: the whole report
use Rattle.std.specs.Prelude.{ℕ, List, [], ◌++◌, Option, Some, None, length, flat_map, codes, decimal}
use Rattle.cyclo24.specs.ExactZ24.{ExactZ24}
use Rattle.cyclo24.specs.TextZ24.{text_z24}
use Rattle.iso_text.specs.Lines.{line}

pub record LinkMatrix : Type 0 where
  pub rows : List (List ExactZ24)
  pub cols : ℕ
  pub rank : ℕ

abbrev pub entry_text : ExactZ24 → List ℕ
entry_text e = codes " " ++ text_z24 e

-- `row E .. E`
abbrev pub row_line : List ExactZ24 → List ℕ
row_line row = line (codes "row" ++ flat_map entry_text row) []

-- `link rank R dims N M`
abbrev pub rank_line : ℕ → ℕ → ℕ → List ℕ
rank_line rank n m = line (codes "link rank " ++ decimal rank ++ codes " dims " ++ decimal n ++ codes " " ++ decimal m) []

-- `link none`, or the rank and a line for each row
abbrev pub link_lines : Option LinkMatrix → List ℕ
link_lines None = line (codes "link none") []
link_lines (Some x) = rank_line x.rank (length x.rows) x.cols ++ flat_map row_line x.rows

abbrev pub link_head : ℕ → List ℕ → List ℕ → ℕ → List ℕ → List ℕ
link_head format a b order rest =
    line (codes "isodist " ++ decimal format ++ codes " link") (line (codes "irreps " ++ a ++ codes " " ++ b ++ codes " order " ++ decimal order) rest)

abbrev pub link_text : ℕ → List ℕ → List ℕ → ℕ → Option LinkMatrix → List ℕ
link_text format a b order link = link_head format a b order (link_lines link)
