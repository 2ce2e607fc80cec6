-- How the form of an order parameter direction is written: its coordinates, as in `a r3*a 0`.
--
-- terms24 x: how many terms the text of a number has
-- term_text x letter: a multiple of a letter
-- sum_text terms: terms, joined
-- coordinate_text rows w j: coordinate j of the vectors on which the rows vanish
-- form_text rows w: all w coordinates, each behind a space
use Rattle.std.specs.Prelude.{ℕ, pos, Bool, List, [], ◌∷◌, ◌++◌, map, filter, length, flat_map, Option, Some, None, not, nat_le, if◌then◌else◌, codes}
use Rattle.std.specs.List.{range_with_len}
use Rattle.std.specs.Ordering.{int_eq, is_eq}
use Rattle.cyclo24.specs.Listed.{numerators}
use Rattle.cyclo24.specs.ExactK24.{Exact24, k24_laws, k24}
use Rattle.cyclo24.specs.TextK24.{text24}
use Rattle.iso_text.specs.Cuts.{is_byte, begins}
use Rattle.list_report.specs.Letters.{pivot_row, letter_of, lettered}

-- how many of the coefficients of 1, r2, r3 and r6 aren't 0
abbrev pub terms24 : Exact24 → ℕ
terms24 x = length (filter (λ z. not (int_eq z (pos 0))) (numerators 4 x.0))

-- the two are the same number
abbrev pub is_same24 : Exact24 → Exact24 → Bool
is_same24 x y = is_eq (k24.cmp x y)

-- before a letter: nothing for 1, `-` for -1, else the number and `*`, in brackets where it has several terms
unfoldable pub factor_text : Exact24 → List ℕ
factor_text x =
    if is_same24 x k24_laws.unit then []
    else (if is_same24 x (k24_laws.neg k24_laws.unit) then codes "-"
    else (if nat_le (terms24 x) 1 then text24 x ++ codes "*" else codes "(" ++ text24 x ++ codes ")*"))

-- a multiple of a letter
abbrev pub term_text : Exact24 → ℕ → List ℕ
term_text x letter = factor_text x ++ letter ∷ []

-- a term behind another: `+` before one that doesn't begin with `-`, which is 45
abbrev pub added_text : List ℕ → List ℕ
added_text term = if begins (is_byte 45) term then term else codes "+" ++ term

-- the terms, one after the other; `0` where there are none
abbrev pub sum_text : List (List ℕ) → List ℕ
sum_text [] = codes "0"
sum_text (term ∷ terms) = term ++ flat_map added_text terms

-- minus the entries of a row that aren't 0, each with the letter of its column
abbrev pub row_terms : (ℕ → Exact24) → List (ℕ × ℕ) → List (List ℕ)
row_terms row columns = map (λ c. term_text (k24_laws.neg (row c.0)) c.1) (filter (λ c. not (k24_laws.is_nought (row c.0))) columns)

-- the sum of the terms of the row with this pivot, or the letter of a column without one
abbrev pub coordinate_of : List (ℕ × (ℕ → Exact24)) → ℕ → ℕ → Option (ℕ × (ℕ → Exact24)) → List ℕ
coordinate_of rows w j None = letter_of rows j ∷ []
coordinate_of rows w j (Some r) = sum_text (row_terms r.1 (lettered rows w))

-- coordinate j of the vectors of w entries on which the rows vanish
abbrev pub coordinate_text : List (ℕ × (ℕ → Exact24)) → ℕ → ℕ → List ℕ
coordinate_text rows w j = coordinate_of rows w j (pivot_row rows j)

-- all coordinates, each behind a space
abbrev pub form_text : List (ℕ × (ℕ → Exact24)) → ℕ → List ℕ
form_text rows w = flat_map (λ j. codes " " ++ coordinate_text rows w j) (range_with_len 0 w)
