-- The numbers that words write: sums of rational multiples of units.
--
-- unit_of text, term_of text: a unit; a term without its sign
-- number_of text: 1 to 16 terms with their signs
use Rattle.std.specs.Prelude.{ℕ, Bool, false, List, [], ◌∷◌, length, nat_le, nat_lt, ◌==◌, ◌&&◌, if◌then◌else◌, Option, Some, None, option_and_then}
use Rattle.std.specs.Option.{option_map}
use Rattle.iso_text.specs.Cuts.{front, back, cut_at, is_byte, is_sign}
use Rattle.iso_text.specs.Digits.{whole_of, ratio_of}
use Rattle.iso_text.specs.Fractions.{signed}
use Rattle.iso_text.specs.declared.numbers.Term.{Term}
use Rattle.iso_text.specs.declared.numbers.Unit.{Unit}
use Rattle.iso_text.specs.declared.numbers.Unit.TheVariants.{One, Z, I, R2, R3, R6}

-- z to a power below 24
abbrev pub power_of_z : ℕ → Option Unit
power_of_z n = if nat_lt n 24 then Some (Z n) else None

-- the root of 2, 3 or 6
abbrev pub root_of : List ℕ → Option Unit
root_of (c ∷ []) = if c == 50 then Some R2 else (if c == 51 then Some R3 else (if c == 54 then Some R6 else None))
root_of _ = None

-- `z` and one or two digits below 24, `i`, `r2`, `r3` or `r6`
abbrev pub unit_of : List ℕ → Option Unit
unit_of [] = None
unit_of (c ∷ cs) = if c == 122 then option_and_then power_of_z (whole_of 2 cs) else (if c == 114 then root_of cs else (if c == 105 then just_i cs else None))
  where
    just_i : List ℕ → Option Unit
    just_i [] = Some I
    just_i (c ∷ cs) = None

-- a coefficient: one to five digits of at most 10,000, and optionally `/` and a denominator
abbrev pub coefficient_of : List ℕ → Option (ℕ × ℕ)
coefficient_of text = option_and_then (λ r. if nat_le r.0 10000 then Some (r.0, r.1) else None) (ratio_of 5 text)

-- the term of a sign, a coefficient and a unit
abbrev pub term : Bool → ℕ × ℕ → Unit → Term
term negative r unit = record { num = signed negative r.0; den = r.1; unit = unit }

-- a unit or a coefficient alone
abbrev pub alone : Bool → Option Unit → List ℕ → Option Term
alone negative (Some unit) text = Some (term negative (1, 1) unit)
alone negative None text = option_map (λ r. term negative r One) (coefficient_of text)

-- a coefficient, and the unit behind a `*`
abbrev pub product_of : Bool → List ℕ → List ℕ → Option Term
product_of negative text [] = alone negative (unit_of text) text
product_of negative text (c ∷ unit) = option_and_then (λ r. option_map (λ u. term negative r u) (unit_of unit)) (coefficient_of text)

-- a coefficient, a unit, or a coefficient, `*` and a unit
abbrev pub term_of : Bool → List ℕ → Option Term
term_of negative text = product_of negative (front (is_byte 42) text) (back (is_byte 42) text)

-- a term with an optional sign
abbrev pub signed_term_of : List ℕ → Option Term
signed_term_of [] = None
signed_term_of (c ∷ cs) = if is_sign c then term_of (c == 45) cs else term_of false (c ∷ cs)

-- each part is a term
abbrev pub terms_of : List (List ℕ) → Option (List Term)
terms_of [] = Some []
terms_of (part ∷ parts) = option_and_then (λ t. option_map (λ ts. t ∷ ts) (terms_of parts)) (signed_term_of part)

-- one to sixteen parts
abbrev pub is_count : ℕ → Bool
is_count n = nat_lt 0 n && nat_le n 16

-- the text cut before each sign is 1 to 16 terms
abbrev pub number_of : List ℕ → Option (List Term)
number_of text = if is_count (length (cut_at is_sign text)) then terms_of (cut_at is_sign text) else None
