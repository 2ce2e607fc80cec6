-- The printed text of an operation, as `-x+y,-x,z+2/3`.
--
-- text_of op: its three coordinates, joined by commas
-- coordinate_text row t: the letters with nonzero coefficient, then the translation; `0` where there is neither
-- term_text is_first c letter: one letter with its sign and coefficient
-- translation_text t: t twelfths with their sign in lowest terms, nothing for 0
-- common_with_twelve n: the greatest common divisor of n and 12
-- IsPrintable op: the range in which a file's words give the operation back
-- op_text_of op: the operation as a file's words give it
use Rattle.std.specs.Prelude.{ℕ, ◌/◌, ◌%◌, ◌==◌, ◌&&◌, if◌then◌else◌, Bool, true, false, ℤ, pos, negsuc, List, [], ◌++◌, codes, decimal, unsigned_abs}
use Rattle.std.specs.Ordering.{int_eq}
use Rattle.iso_text.specs.WordRanges.{IsWithin, AreThree}
use Rattle.iso_text.specs.declared.numbers.OpText.{OpText}
use Rattle.space_ops.specs.declared.op.Op.{Op}
use Rattle.space_ops.specs.Op.{number_at, row_at}

abbrev pub is_zero : ℤ → Bool
is_zero c = int_eq c (pos 0)

-- `-` before what is negative, `+` before what is positive and not first
abbrev pub sign_text : Bool → ℤ → List ℕ
sign_text true (pos n) = []
sign_text true (negsuc n) = codes "-"
sign_text false (pos n) = codes "+"
sign_text false (negsuc n) = codes "-"

-- no digit where the coefficient is 1 or -1
abbrev pub coefficient_text : ℕ → List ℕ
coefficient_text n = if n == 1 then [] else decimal n

-- nothing where the coefficient is 0
unfoldable pub term_text : Bool → ℤ → List ℕ → List ℕ
term_text is_first c letter = if is_zero c then [] else sign_text is_first c ++ coefficient_text (unsigned_abs c) ++ letter

-- the greatest divisor of twelve that divides n
abbrev pub common_with_twelve : ℕ → ℕ
common_with_twelve n =
    if n % 12 == 0 then 12 else (if n % 6 == 0 then 6 else (if n % 4 == 0 then 4 else (if n % 3 == 0 then 3 else (if n % 2 == 0 then 2 else 1))))

-- `p`, or `p/q` where q is not 1
abbrev pub fraction_text : ℕ → ℕ → List ℕ
fraction_text p q = decimal p ++ (if q == 1 then [] else codes "/" ++ decimal q)

-- t twelfths in lowest terms
unfoldable pub translation_text : ℤ → List ℕ
translation_text t =
    let n = unsigned_abs t in
    let g = common_with_twelve n in
    if is_zero t then [] else sign_text false t ++ fraction_text (n / g) (12 / g)

-- the letters x, y, z in this order
unfoldable pub letters_text : ℤ → ℤ → ℤ → List ℕ
letters_text x y z = term_text true x (codes "x") ++ term_text (is_zero x) y (codes "y") ++ term_text (is_zero x && is_zero y) z (codes "z")

-- `0` where there are no letters and no translation
unfoldable pub coordinate_text : List ℤ → ℤ → List ℕ
coordinate_text row t =
    let x = number_at row 0 in
    let y = number_at row 1 in
    let z = number_at row 2 in
    if (is_zero x && is_zero y) && (is_zero z && is_zero t) then codes "0" else letters_text x y z ++ translation_text t

-- three coordinates, joined by commas
unfoldable pub text_of : Op → List ℕ
text_of op =
    coordinate_text (row_at op.rot 0) (number_at op.shift 0) ++ codes "," ++ coordinate_text (row_at op.rot 1) (number_at op.shift 1)
    ++ codes "," ++ coordinate_text (row_at op.rot 2) (number_at op.shift 2)

-- entries from -3 to 3, and translations of at most 120 twelfths
pub record IsPrintable (op : Op) : Type 0 where
  pub rot : AreThree (AreThree (IsWithin 3)) op.rot
  pub shift : AreThree (IsWithin 120) op.shift

-- the same rows and twelfths
abbrev pub op_text_of : Op → OpText
op_text_of op = record { rows = op.rot; shift = op.shift }
