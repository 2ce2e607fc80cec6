-- The operations that XYZ words write.
--
-- signed_part_of text: a term of a coordinate: x, y or z with a coefficient, or a shift in twelfths
-- row_of text: a coordinate, a sum of such terms, no letter and no shift twice
-- operation_of text: three coordinates joined by `,`
use Rattle.std.specs.Prelude.{ℕ, ℤ, pos, ◌*◌, ◌/◌, ◌%◌, Bool, false, List, [], ◌∷◌, nat_le, ◌==◌, ◌&&◌, if◌then◌else◌, Option, Some, None, option_and_then, is_none, unwrap_or}
use Rattle.std.specs.Option.{option_map}
use Rattle.iso_text.specs.Cuts.{front, behind, cut_at, is_byte, is_sign}
use Rattle.iso_text.specs.Digits.{ratio_of}
use Rattle.iso_text.specs.Fractions.{signed}
use Rattle.iso_text.specs.declared.operation_words.Part.{Part}
use Rattle.iso_text.specs.declared.operation_words.Part.TheVariants.{X, Y, Z, Shift}
use Rattle.iso_text.specs.declared.operation_words.Row.{Row}
use Rattle.iso_text.specs.declared.numbers.OpText.{OpText}

-- a fraction of at most 120, over 1, 2, 3, 4, 6 or 12, in twelfths
abbrev pub shift_of : Bool → ℕ × ℕ → Option Part
shift_of negative r = if nat_le r.0 120 && 12 % r.1 == 0 then Some (Shift (signed negative (r.0 * (12 / r.1)))) else None

-- x, y or z times a coefficient
abbrev pub letter_of : ℤ → ℕ → Option Part
letter_of a c = if c == 120 then Some (X a) else (if c == 121 then Some (Y a) else (if c == 122 then Some (Z a) else None))

-- a letter, or 2 or 3 and a letter
abbrev pub axis_of : Bool → List ℕ → Option Part
axis_of negative [] = None
axis_of negative (c ∷ []) = letter_of (signed negative 1) c
axis_of negative (c ∷ d ∷ []) = if c == 50 then letter_of (signed negative 2) d else (if c == 51 then letter_of (signed negative 3) d else None)
axis_of negative (c ∷ d ∷ e ∷ rest) = None

abbrev pub or_shift : Bool → Option Part → List ℕ → Option Part
or_shift negative (Some part) text = Some part
or_shift negative None text = option_and_then (shift_of negative) (ratio_of 3 text)

-- a letter with its coefficient, or a fraction
abbrev pub part_of : Bool → List ℕ → Option Part
part_of negative text = or_shift negative (axis_of negative text) text

-- such a term with an optional sign
abbrev pub signed_part_of : List ℕ → Option Part
signed_part_of [] = None
signed_part_of (c ∷ cs) = if is_sign c then part_of (c == 45) cs else part_of false (c ∷ cs)

-- nothing stands in the row yet
abbrev pub empty_row : Row
empty_row = record { x = None; y = None; z = None; shift = None }

-- the row with a term more, where its letter or a shift doesn't stand there yet
abbrev pub with_part : Row → Part → Option Row
with_part row (X a) = if is_none row.x then Some (record row { x = Some a }) else None
with_part row (Y a) = if is_none row.y then Some (record row { y = Some a }) else None
with_part row (Z a) = if is_none row.z then Some (record row { z = Some a }) else None
with_part row (Shift a) = if is_none row.shift then Some (record row { shift = Some a }) else None

-- the row with all these terms more
abbrev pub with_parts : Row → List (List ℕ) → Option Row
with_parts row [] = Some row
with_parts row (part ∷ parts) = option_and_then (λ next. with_parts next parts) (option_and_then (with_part row) (signed_part_of part))

-- one term at least, cut before the signs
abbrev pub row_of : List ℕ → Option Row
row_of [] = None
row_of (c ∷ cs) = with_parts empty_row (cut_at is_sign (c ∷ cs))

-- the coefficients of x, y and z
abbrev pub coefficients : Row → List ℤ
coefficients row = unwrap_or row.x (pos 0) ∷ unwrap_or row.y (pos 0) ∷ unwrap_or row.z (pos 0) ∷ []

abbrev pub rows : Row → Row → Row → OpText
rows a b c = record {
  rows = coefficients a ∷ coefficients b ∷ coefficients c ∷ [];
  shift = unwrap_or a.shift (pos 0) ∷ unwrap_or b.shift (pos 0) ∷ unwrap_or c.shift (pos 0) ∷ [];
}

-- three coordinates; 44 is `,`
abbrev pub operation_of : List ℕ → Option OpText
operation_of text =
    option_and_then (λ a. option_and_then (λ b. option_map (λ c. rows a b c)
    (row_of (behind (is_byte 44) (behind (is_byte 44) text))))
    (row_of (front (is_byte 44) (behind (is_byte 44) text))))
    (row_of (front (is_byte 44) text))
