-- The fractions, coordinates and tolerances that words write.
--
-- IsLowest z d v: v is z / d in lowest terms
-- k_fraction_of text: a fraction of a wave vector, in lowest terms
-- place_of text: a coordinate, in units of 1/12,000,000 of a cell edge
-- tolerance_of text: a coordinate from 0 to below 1/4
use Rattle.std.specs.Prelude.{◌≡◌, ◌<◌, ◌*ℤ◌, ℕ, ℤ, pos, negsuc, ◌+◌, ◌-◌, ◌*◌, ◌/◌, ◌%◌, ◌^◌, Bool, true, false, List, [], ◌∷◌, length, nat_le, nat_lt, ◌==◌, ◌&&◌, if◌then◌else◌, Option, Some, None, option_and_then, neg_ℤ}
use Rattle.std.specs.Int.{IsGcd}
use Rattle.std.specs.Int.RustNames.{unsigned_abs}
use Rattle.std.specs.Option.{option_map}
use Rattle.iso_text.specs.Cuts.{front, back, is_byte, is_sign}
use Rattle.iso_text.specs.Digits.{digits_of, whole_of, ratio_of}
use Rattle.iso_text.specs.declared.numbers.Frac.{Frac}

-- the units of a cell edge
abbrev pub edge_units : ℕ
edge_units = 12000000

-- the number with its sign; 45 is `-`
abbrev pub signed : Bool → ℕ → ℤ
signed negative n = if negative then neg_ℤ (pos n) else pos n

-- the greatest common divisor of n and a d that is 1, 2, 3, 4 or 6
abbrev pub common_divisor : ℕ → ℕ → ℕ
common_divisor n d = if n % d == 0 then d else (if d % 2 == 0 && n % 2 == 0 then 2 else (if d == 6 && n % 3 == 0 then 3 else 1))

-- n / d in lowest terms
abbrev pub lowest : Bool → ℕ → ℕ → Frac
lowest negative n d = record { num = signed negative (n / common_divisor n d); den = d / common_divisor n d }

-- v is z / d, and in lowest terms
pub record IsLowest (z : ℤ) (d : ℕ) (v : Frac) : Type 0 where
  pub same : v.num *ℤ pos d ≡ z *ℤ pos v.den
  pub positive : 0 < v.den
  pub coprime : IsGcd (unsigned_abs v.num) v.den 1

-- numerators to 24 and denominators to 6
abbrev pub k_ratio_of : Bool → ℕ × ℕ → Option Frac
k_ratio_of negative r = if nat_le r.0 24 && nat_le r.1 6 then Some (lowest negative r.0 r.1) else None

-- an optional `-`, one or two digits of at most 24, and optionally `/` and one of 1, 2, 3, 4, 6
abbrev pub k_fraction_of : List ℕ → Option Frac
k_fraction_of [] = None
k_fraction_of (c ∷ cs) = if c == 45 then option_and_then (k_ratio_of true) (ratio_of 2 cs) else option_and_then (k_ratio_of false) (ratio_of 2 (c ∷ cs))

-- the units of a fraction of at most 99
abbrev pub ratio_units : ℕ × ℕ → Option ℕ
ratio_units r = if nat_le r.0 (99 * r.1) then Some (r.0 * (edge_units / r.1)) else None

-- the units of whole edges, and of the digits behind the point, `count` of them
abbrev pub point_units : ℕ → ℕ → ℕ → ℕ
point_units edges digits count = edge_units * edges + 12 * (digits * 10 ^ (6 - count))

-- one or two digits; or up to two, the point, and up to six, one digit at least in all
abbrev pub decimal_units : List ℕ → List ℕ → Option ℕ
decimal_units edges [] = option_map (λ n. edge_units * n) (whole_of 2 edges)
decimal_units [] (c ∷ digits) = option_map (λ n. point_units 0 n (length digits)) (whole_of 6 digits)
decimal_units (e ∷ edges) (c ∷ digits) = option_and_then (λ n. option_map (λ m. point_units n m (length digits)) (digits_of 6 digits)) (whole_of 2 (e ∷ edges))

-- a text is a decimal where nothing is left from a `/` on, else a fraction
abbrev pub units_by : List ℕ → List ℕ → Option ℕ
units_by [] text = decimal_units (front (is_byte 46) text) (back (is_byte 46) text)
units_by (c ∷ over) text = option_and_then ratio_units (ratio_of 4 text)

abbrev pub units_of : List ℕ → Option ℕ
units_of text = units_by (back (is_byte 47) text) text

-- an optional sign and the units
abbrev pub place_of : List ℕ → Option ℤ
place_of [] = None
place_of (c ∷ cs) = if is_sign c then option_map (signed (c == 45)) (units_of cs) else option_map (signed false) (units_of (c ∷ cs))

-- from 0 to below a quarter of an edge
abbrev pub is_tolerance : ℤ → Bool
is_tolerance (pos n) = nat_lt n 3000000
is_tolerance (negsuc n) = false

abbrev pub tolerance_of : List ℕ → Option ℤ
tolerance_of text = option_and_then (λ t. if is_tolerance t then Some t else None) (place_of text)
