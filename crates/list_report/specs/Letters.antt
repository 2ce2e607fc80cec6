-- The letters of the coordinates of a direction that are free: a, b, c .. in rising order.
--
-- pivot_row rows j: the row with its pivot at column j
-- free_columns rows n: the columns without a pivot among the first n
-- letter_of rows j: the letter of such a column
-- lettered rows n: such columns, each with its letter
use Rattle.std.specs.Prelude.{ℕ, ◌+◌, Bool, List, map, filter, length, find, Option, is_none, nat_eq}
use Rattle.std.specs.List.{range_with_len}

-- the row with its pivot at column j
abbrev pub pivot_row : {X : Type 0} → List (ℕ × X) → ℕ → Option (ℕ × X)
pivot_row rows j = find (λ r. nat_eq r.0 j) rows

-- no row has its pivot there
abbrev pub is_free : {X : Type 0} → List (ℕ × X) → ℕ → Bool
is_free rows j = is_none (pivot_row rows j)

-- the columns without a pivot among the first n, rising
abbrev pub free_columns : {X : Type 0} → List (ℕ × X) → ℕ → List ℕ
free_columns rows n = filter (is_free rows) (range_with_len 0 n)

-- the letter of such a column: as many behind `a`, which is 97, as there are such columns before it
abbrev pub letter_of : {X : Type 0} → List (ℕ × X) → ℕ → ℕ
letter_of rows j = 97 + length (free_columns rows j)

-- the columns without a pivot among the first n, each with its letter
abbrev pub lettered : {X : Type 0} → List (ℕ × X) → ℕ → List (ℕ × ℕ)
lettered rows n = map (λ j. (j, letter_of rows j)) (free_columns rows n)
