-- The parts of a Hall symbol as they are written.
--
-- Spelling, text_of s: a part as it is written, and its text
-- IsSpelling s: at most one digit, and letters alone behind it
-- letters_shift letters: the sum of the letters' translations
-- part_of s: what is written, the letters added up
use Rattle.std.specs.Prelude.{◌≡◌, ℕ, zero, suc, ◌+◌, ◌≤◌, Bool, true, false, ◌==◌, ◌||◌, if◌then◌else◌, List, [], ◌∷◌, ◌++◌, Option, Some, None, ◌⊎◌, sum_by}
use Rattle.std.specs.List.{list_all}
use Rattle.hall_symbol.specs.declared.rotation.Axis.{Axis}
use Rattle.hall_symbol.specs.declared.rotation.Axis.TheVariants.{Along, Prime, DoublePrime, Star}
use Rattle.hall_symbol.specs.declared.rotation.CellAxis.TheVariants.{X, Y, Z}
use Rattle.hall_symbol.specs.declared.rotation.Order.{Order}
use Rattle.hall_symbol.specs.declared.part.Part.{Part}
use Rattle.hall_symbol.specs.Rotations.{value_of}

-- `-`, where it stands
abbrev pub sign_text : Bool → List ℕ
sign_text true = 45 ∷ []
sign_text false = []

-- the byte of N
abbrev pub order_byte : Order → ℕ
order_byte n = 48 + value_of n

-- a digit other than 0, or nothing
abbrev pub digit_text : ℕ → List ℕ
digit_text zero = []
digit_text (suc d) = (49 + d) ∷ []

-- `x`, `y`, `z`, `'`, `"` and `*`
abbrev pub axis_byte : Axis → ℕ
axis_byte (Along X) = 120
axis_byte (Along Y) = 121
axis_byte (Along Z) = 122
axis_byte Prime = 39
axis_byte DoublePrime = 34
axis_byte Star = 42

abbrev pub axis_text : Option Axis → List ℕ
axis_text None = []
axis_text (Some a) = axis_byte a ∷ []

-- `a`, `b`, `c`, `n`, `u`, `v`, `w` and `d`
abbrev pub is_letter : ℕ → Bool
is_letter c = c == 97 || (c == 98 || (c == 99 || (c == 110 || (c == 117 || (c == 118 || (c == 119 || c == 100))))))

-- Twelfths along a: a half for `a` and `n`, a quarter for `u` and `d`.
abbrev pub letter_x : ℕ → ℕ
letter_x c = if c == 97 || c == 110 then 6 else (if c == 117 || c == 100 then 3 else 0)

-- Twelfths along b: a half for `b` and `n`, a quarter for `v` and `d`.
abbrev pub letter_y : ℕ → ℕ
letter_y c = if c == 98 || c == 110 then 6 else (if c == 118 || c == 100 then 3 else 0)

-- Twelfths along c: a half for `c` and `n`, a quarter for `w` and `d`.
abbrev pub letter_z : ℕ → ℕ
letter_z c = if c == 99 || c == 110 then 6 else (if c == 119 || c == 100 then 3 else 0)

-- the sum of the letters' translations
abbrev pub letters_shift : List ℕ → List ℕ
letters_shift letters = sum_by letter_x letters ∷ sum_by letter_y letters ∷ sum_by letter_z letters ∷ []

-- a part as it is written: the digit before or behind the axis is 0 where none stands there
pub record Spelling : Type 0 where
  pub negated : Bool
  pub order : Order
  pub front : ℕ
  pub axis : Option Axis
  pub back : ℕ
  pub letters : List ℕ

-- [-] N [DIGIT] [AXIS] [DIGIT] {LETTER}
abbrev pub text_of : Spelling → List ℕ
text_of s = sign_text s.negated ++ (order_byte s.order ∷ (digit_text s.front ++ (axis_text s.axis ++ (digit_text s.back ++ s.letters))))

-- at most one digit stands, and the letters are letters
pub record IsSpelling (s : Spelling) : Type 0 where
  pub front : s.front ≤ 9
  pub back : s.back ≤ 9
  pub one_digit : (s.front ≡ 0) ⊎ (s.back ≡ 0)
  pub letters : list_all is_letter s.letters ≡ true

abbrev pub part_of : Spelling → Part
part_of s = record { negated = s.negated; order = s.order; digit = s.front + s.back; axis = s.axis; letters = letters_shift s.letters }
