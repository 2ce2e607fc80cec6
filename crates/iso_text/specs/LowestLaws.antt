-- That a fraction in lowest terms is the only one of its value.
--
-- lowest-unique: two fractions in lowest terms of one value are the same
use Rattle.std.proofs.Common.{◌≡◌, ℕ, ℤ, pos, ◌*◌, ◌<◌, sym, ◌∙◌, ap}
use Rattle.std.specs.Int.RustNames.{unsigned_abs}
use Rattle.std.proofs.lemmas.Int.{unsigned_abs-mul}
use Rattle.std.proofs.lemmas.Nat.Gcd.{dvd_antisymm}
use Rattle.std.proofs.Math.IntN.{◌*ℤ◌}
use Rattle.std.proofs.Math.Nat.{mul_right_comm}
use Rattle.algebra.specs.DivisorLaws.{cancelled, divides, times_cancelled}
use Rattle.iso_text.specs.Fractions.{IsLowest}
use Rattle.iso_text.specs.declared.numbers.Frac.{Frac}

sizes : (x z : ℤ) (d b : ℕ) → x *ℤ pos d ≡ z *ℤ pos b → unsigned_abs x * d ≡ unsigned_abs z * b
sizes x z d b e = sym (unsigned_abs-mul x (pos d)) ∙ ap (λ t. unsigned_abs t) e ∙ unsigned_abs-mul z (pos b)

-- the same value, crosswise
crossed : (a b x y s d : ℕ) → 0 < d → a * d ≡ s * b → x * d ≡ s * y → a * y ≡ x * b
crossed a b x y s d some left right =
    cancelled (a * y) (x * b) d some (mul_right_comm a y d ∙ ap (λ t. t * y) left ∙ mul_right_comm s b y ∙ ap (λ t. t * b) (sym right) ∙ mul_right_comm x d b)

frac_is : (v w : Frac) → v.num ≡ w.num → v.den ≡ w.den → v ≡ w
frac_is v w num den = ap (λ t. record { num = t; den = v.den }) num ∙ ap (λ t. record { num = w.num; den = t }) den

-- two fractions in lowest terms of one value are the same
pub lowest-unique : (z : ℤ) (d : ℕ) (v w : Frac) → 0 < d → IsLowest z d v → IsLowest z d w → v ≡ w
lowest-unique z d v w some one other =
    let a = unsigned_abs v.num in
    let x = unsigned_abs w.num in
    let across : a * w.den ≡ x * v.den = crossed a v.den x w.den (unsigned_abs z) d some (sizes v.num z d v.den one.same) (sizes w.num z d w.den other.same) in
    let den : v.den ≡ w.den = dvd_antisymm (divides a v.den x w.den other.positive one.coprime across) (divides x w.den a v.den one.positive other.coprime (sym across)) in
    frac_is v w (times_cancelled v.num w.num d some (one.same ∙ ap (λ t. z *ℤ pos t) den ∙ sym other.same)) den
