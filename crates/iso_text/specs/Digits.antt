-- Whole numbers and denominators as words write them.
--
-- decimal text: the number that digits write
-- digits_of most text, whole_of most text: the number of at most so many digits, the second of one at least
-- divisor_of text: one of 1, 2, 3, 4, 6, 8, 12, 24, written so
-- ratio_of most text: a whole number, and the divisor behind a `/`, where there is one
use Rattle.std.specs.Prelude.{ℕ, ◌+◌, ◌-◌, ◌*◌, Bool, List, [], ◌∷◌, length, fold, nat_le, ◌==◌, ◌&&◌, if◌then◌else◌, Option, Some, None, option_and_then}
use Rattle.std.specs.List.{list_all}
use Rattle.std.specs.Char.{is_ascii_digit}
use Rattle.std.specs.Option.{option_map}
use Rattle.iso_text.specs.Cuts.{front, back, is_byte}

-- ten times the number so far, and a digit
abbrev pub with_digit : ℕ → ℕ → ℕ
with_digit n c = 10 * n + (c - 48)

-- the number that digits write, 0 for none
abbrev pub decimal : List ℕ → ℕ
decimal text = fold with_digit 0 text

-- digits, and at most so many
abbrev pub are_digits : ℕ → List ℕ → Bool
are_digits most text = nat_le (length text) most && list_all is_ascii_digit text

-- the number of at most so many digits, 0 for none
abbrev pub digits_of : ℕ → List ℕ → Option ℕ
digits_of most text = if are_digits most text then Some (decimal text) else None

-- the number of one to so many digits
abbrev pub whole_of : ℕ → List ℕ → Option ℕ
whole_of most [] = None
whole_of most (c ∷ cs) = digits_of most (c ∷ cs)

-- a denominator that a file may write; 49 is `1`
abbrev pub divisor_of : List ℕ → Option ℕ
divisor_of [] = None
divisor_of (a ∷ []) = if a == 49 then Some 1 else (if a == 50 then Some 2 else (if a == 51 then Some 3 else (if a == 52 then Some 4 else (if a == 54 then Some 6 else (if a == 56 then Some 8 else None)))))
divisor_of (a ∷ b ∷ []) = if a == 49 && b == 50 then Some 12 else (if a == 50 && b == 52 then Some 24 else None)
divisor_of (a ∷ b ∷ c ∷ cs) = None

-- 1, or what follows a `/`
abbrev pub over_of : List ℕ → Option ℕ
over_of [] = Some 1
over_of (c ∷ cs) = divisor_of cs

-- a whole number of one to so many digits, and optionally `/` and a divisor
abbrev pub ratio_of : ℕ → List ℕ → Option (ℕ × ℕ)
ratio_of most text = option_and_then (λ n. option_map (λ d. (n, d)) (over_of (back (is_byte 47) text))) (whole_of most (front (is_byte 47) text))
