-- The text of a multiple by cases.
--
-- alone, bare, scaled: of the unit 1, a unit alone, and a multiple of a unit
-- nothing, signed: where the multiple is 0, and where it isn't
use Rattle.std.proofs.Common.{◌≡◌, ℕ, ap, ◌∙◌, sym, List, [], ◌++◌, append_assoc, Bool, true, false, nat_eq, length}
use Rattle.std.specs.Prelude.{codes, cond, ◌&&◌}
use Rattle.std.specs.Ordering.{int_eq}
use Rattle.std.specs.Int.RustNames.{unsigned_abs}
use Rattle.std.proofs.Common.{ℤ, pos, ◌/◌, append-nil}
use Rattle.cyclo24.specs.Gcd.{gcd}
use Rattle.cyclo24.specs.NumberText.{quotient_text, part_text, sign_text, signed_text}

pub alone : (n d : ℕ) (unit : List ℕ) → length unit ≡ 0 → part_text n d unit ≡ quotient_text n d
unfolding part_text
alone n d unit e = ap (λ k. cond (nat_eq k 0) (quotient_text n d) (cond (nat_eq n 1 && nat_eq d 1) unit (quotient_text n d ++ codes "*" ++ unit))) e

pub bare : (unit : List ℕ) → nat_eq (length unit) 0 ≡ false → part_text 1 1 unit ≡ unit
unfolding part_text
bare unit e = ap (λ b. cond b (quotient_text 1 1) unit) e

pub scaled : (n d : ℕ) (unit : List ℕ) → nat_eq (length unit) 0 ≡ false → (nat_eq n 1 && nat_eq d 1) ≡ false → part_text n d unit ≡ quotient_text n d ++ codes "*" ++ unit
unfolding part_text
scaled n d unit e f = (λ i. cond (e i) (quotient_text n d) (cond (f i) unit (quotient_text n d ++ codes "*" ++ unit)))

pub nothing : (s : List ℕ) (first : Bool) (d : ℕ) (z : ℤ) (unit : List ℕ) → int_eq z (pos 0) ≡ true → s ≡ s ++ signed_text first d z unit
unfolding signed_text
nothing s first d z unit e =
    let n = unsigned_abs z in
    sym (ap (λ b. s ++ cond b [] (sign_text first z ++ part_text (n / gcd n d) (d / gcd n d) unit)) e ∙ append-nil s)

-- the sign, and then the quotients by the greatest common divisor
pub signed : (s t : List ℕ) (first : Bool) (d : ℕ) (z : ℤ) (unit : List ℕ) (n k g : ℕ) → int_eq z (pos 0) ≡ false → t ≡ s ++ sign_text first z → n ≡ unsigned_abs z → k ≡ d → g ≡ gcd (unsigned_abs z) d
    → t ++ part_text (n / g) (k / g) unit ≡ s ++ signed_text first d z unit
unfolding signed_text
signed s t first d z unit n k g e f h i j =
    let m = unsigned_abs z in
    let part = part_text (m / gcd m d) (d / gcd m d) unit in
    (λ p. f p ++ part_text (h p / j p) (i p / j p) unit)
    ∙ append_assoc s (sign_text first z) part
    ∙ sym (ap (λ b. s ++ cond b [] (sign_text first z ++ part)) e)
