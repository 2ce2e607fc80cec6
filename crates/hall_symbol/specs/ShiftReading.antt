-- What the readers of an origin shift compute.
--
-- shift_at words: the shift that the words write, zero where there are none
use Rattle.std.specs.Prelude.{ℕ, ◌+◌, ◌-◌, ◌*◌, Bool, false, ◌==◌, ◌&&◌, nat_le, if◌then◌else◌, List, [], ◌∷◌, ℤ, pos, Option, Some, None}
use Rattle.hall_symbol.specs.Grammar.{signed_number}
use Rattle.hall_symbol.specs.Steps.{◌>>=◌}
use Rattle.hall_symbol.specs.PartReading.{sign_at}

-- the word is this byte
abbrev pub is_byte : ℕ → List ℕ → Bool
is_byte b [] = false
is_byte b (c ∷ []) = c == b
is_byte b (c ∷ d ∷ cs) = false

abbrev pub digit_in : ℕ → Option ℕ
digit_in c = if nat_le 48 c && nat_le c 57 then Some (c - 48) else None

abbrev pub at_most_twelve : ℕ → Option ℕ
at_most_twelve n = if nat_le n 12 then Some n else None

-- one or two digits of at most 12
unfoldable pub count_in : List ℕ → Option ℕ
count_in [] = None
count_in (c ∷ []) = digit_in c
count_in (c ∷ d ∷ []) =
    digit_in c >>= λ tens.
    digit_in d >>= λ ones.
    at_most_twelve (10 * tens + ones)
count_in (c ∷ d ∷ e ∷ cs) = None

unfoldable pub number_in : List ℕ → Option ℤ
number_in word =
    let sign = sign_at word in
    count_in sign.1 >>= λ n.
    Some (signed_number sign.0 n)

unfoldable pub number_at : List (List ℕ) → Option (ℤ × List (List ℕ))
number_at [] = None
number_at (w ∷ ws) = number_in w >>= λ z. Some (z, ws)

-- the last word, `)`
abbrev pub is_closed : List (List ℕ) → Bool
is_closed [] = false
is_closed (w ∷ []) = is_byte 41 w
is_closed (w ∷ v ∷ ws) = false

-- the three numbers behind `(`
unfoldable pub written_at : List (List ℕ) → Option (List ℤ)
written_at ws =
    number_at ws >>= λ p.
    number_at p.1 >>= λ q.
    number_at q.1 >>= λ r.
    if is_closed r.1 then Some (p.0 ∷ q.0 ∷ r.0 ∷ []) else None

unfoldable pub shift_at : List (List ℕ) → Option (List ℤ)
shift_at [] = Some (pos 0 ∷ pos 0 ∷ pos 0 ∷ [])
shift_at (w ∷ ws) = if is_byte 40 w then written_at ws else None
