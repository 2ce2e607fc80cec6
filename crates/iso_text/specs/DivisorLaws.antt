-- What `common_divisor` is: the greatest one, for denominators to 6
use Rattle.std.proofs.Common.{◌≡◌, ℕ, zero, suc, ◌%◌, ◌<◌, ◌≤◌, ◌==◌, if◌then◌else◌, refl, sym, ◌∙◌, ap, subst, arith}
use Rattle.std.specs.Int.{IsGcd}
use Rattle.std.proofs.lemmas.Nat.Gcd.{IsGcd-from_zero, IsGcd-from_mod}
use Rattle.std.proofs.Math.Nat.{one-dvd, dvd-mul_right, mod-mod_of_dvd}
use Rattle.iso_text.specs.Fractions.{common_divisor}

-- the common divisor of a number and its remainder
same_two : (n : ℕ) → common_divisor n 2 ≡ common_divisor (n % 2) 2
same_two n = ap (λ r. if r == 0 then 2 else (if r == 0 then 2 else 1)) (sym (mod-mod_of_dvd 2 {b = 2} n (dvd-mul_right 2 1)))

same_three : (n : ℕ) → common_divisor n 3 ≡ common_divisor (n % 3) 3
same_three n = ap (λ r. if r == 0 then 3 else 1) (sym (mod-mod_of_dvd 3 {b = 3} n (dvd-mul_right 3 1)))

same_four : (n : ℕ) → common_divisor n 4 ≡ common_divisor (n % 4) 4
same_four n =
    ap (λ r. if r == 0 then 4 else (if n % 2 == 0 then 2 else 1)) (sym (mod-mod_of_dvd 4 {b = 4} n (dvd-mul_right 4 1)))
    ∙ ap (λ r. if n % 4 % 4 == 0 then 4 else (if r == 0 then 2 else 1)) (sym (mod-mod_of_dvd 2 {b = 4} n (dvd-mul_right 2 2)))

same_five : (n : ℕ) → common_divisor n 5 ≡ common_divisor (n % 5) 5
same_five n = ap (λ r. if r == 0 then 5 else 1) (sym (mod-mod_of_dvd 5 {b = 5} n (dvd-mul_right 5 1)))

same_six : (n : ℕ) → common_divisor n 6 ≡ common_divisor (n % 6) 6
same_six n =
    ap (λ r. if r == 0 then 6 else (if n % 2 == 0 then 2 else (if n % 3 == 0 then 3 else 1))) (sym (mod-mod_of_dvd 6 {b = 6} n (dvd-mul_right 6 1)))
    ∙ ap (λ r. if n % 6 % 6 == 0 then 6 else (if r == 0 then 2 else (if n % 3 == 0 then 3 else 1))) (sym (mod-mod_of_dvd 2 {b = 6} n (dvd-mul_right 2 3)))
    ∙ ap (λ r. if n % 6 % 6 == 0 then 6 else (if n % 6 % 2 == 0 then 2 else (if r == 0 then 3 else 1))) (sym (mod-mod_of_dvd 3 {b = 6} n (dvd-mul_right 3 2)))

-- by Euclid's steps
with_two : (r : ℕ) → r < 2 → IsGcd 2 r (common_divisor r 2)
with_two zero small = IsGcd-from_zero 2 0 refl
with_two (suc zero) small = IsGcd-from_mod 2 1 1 (IsGcd-from_zero 1 0 refl)
with_two (suc (suc r)) small = absurd (omega arith)

with_three : (r : ℕ) → r < 3 → IsGcd 3 r (common_divisor r 3)
with_three zero small = IsGcd-from_zero 3 0 refl
with_three (suc zero) small = IsGcd-from_mod 3 1 1 (IsGcd-from_zero 1 0 refl)
with_three (suc (suc zero)) small = IsGcd-from_mod 3 2 1 (IsGcd-from_mod 2 1 1 (IsGcd-from_zero 1 0 refl))
with_three (suc (suc (suc r))) small = absurd (omega arith)

with_four : (r : ℕ) → r < 4 → IsGcd 4 r (common_divisor r 4)
with_four zero small = IsGcd-from_zero 4 0 refl
with_four (suc zero) small = IsGcd-from_mod 4 1 1 (IsGcd-from_zero 1 0 refl)
with_four (suc (suc zero)) small = IsGcd-from_mod 4 2 2 (IsGcd-from_zero 2 0 refl)
with_four (suc (suc (suc zero))) small = IsGcd-from_mod 4 3 1 (IsGcd-from_mod 3 1 1 (IsGcd-from_zero 1 0 refl))
with_four (suc (suc (suc (suc r)))) small = absurd (omega arith)

with_five : (r : ℕ) → r < 5 → IsGcd 5 r (common_divisor r 5)
with_five zero small = IsGcd-from_zero 5 0 refl
with_five (suc zero) small = IsGcd-from_mod 5 1 1 (IsGcd-from_zero 1 0 refl)
with_five (suc (suc zero)) small = IsGcd-from_mod 5 2 1 (IsGcd-from_mod 2 1 1 (IsGcd-from_zero 1 0 refl))
with_five (suc (suc (suc zero))) small = IsGcd-from_mod 5 3 1 (IsGcd-from_mod 3 2 1 (IsGcd-from_mod 2 1 1 (IsGcd-from_zero 1 0 refl)))
with_five (suc (suc (suc (suc zero)))) small = IsGcd-from_mod 5 4 1 (IsGcd-from_mod 4 1 1 (IsGcd-from_zero 1 0 refl))
with_five (suc (suc (suc (suc (suc r))))) small = absurd (omega arith)

with_six : (r : ℕ) → r < 6 → IsGcd 6 r (common_divisor r 6)
with_six zero small = IsGcd-from_zero 6 0 refl
with_six (suc zero) small = IsGcd-from_mod 6 1 1 (IsGcd-from_zero 1 0 refl)
with_six (suc (suc zero)) small = IsGcd-from_mod 6 2 2 (IsGcd-from_zero 2 0 refl)
with_six (suc (suc (suc zero))) small = IsGcd-from_mod 6 3 3 (IsGcd-from_zero 3 0 refl)
with_six (suc (suc (suc (suc zero)))) small = IsGcd-from_mod 6 4 2 (IsGcd-from_mod 4 2 2 (IsGcd-from_zero 2 0 refl))
with_six (suc (suc (suc (suc (suc zero))))) small = IsGcd-from_mod 6 5 1 (IsGcd-from_mod 5 1 1 (IsGcd-from_zero 1 0 refl))
with_six (suc (suc (suc (suc (suc (suc r)))))) small = absurd (omega arith)

from_rest : (n d : ℕ) → common_divisor n d ≡ common_divisor (n % d) d → IsGcd d (n % d) (common_divisor (n % d) d) → IsGcd n d (common_divisor n d)
from_rest n d same rest = subst (λ g. IsGcd n d g) (sym same) (IsGcd-from_mod n d (common_divisor (n % d) d) rest)

by_one : (n : ℕ) → common_divisor n 1 ≡ 1
by_one n = let none : n % 1 ≡ 0 = omega arith in ap (λ r. if r == 0 then 1 else 1) none

-- the greatest common divisor, for denominators to 6
pub common_divisor-is : (n d : ℕ) → 0 < d → d ≤ 6 → IsGcd n d (common_divisor n d)
common_divisor-is n zero some few = absurd (omega arith)
common_divisor-is n (suc zero) some few = subst (λ g. IsGcd n 1 g) (sym (by_one n)) (one-dvd n, one-dvd 1, λ e x y. y)
common_divisor-is n (suc (suc zero)) some few = from_rest n 2 (same_two n) (with_two (n % 2) (omega arith))
common_divisor-is n (suc (suc (suc zero))) some few = from_rest n 3 (same_three n) (with_three (n % 3) (omega arith))
common_divisor-is n (suc (suc (suc (suc zero)))) some few = from_rest n 4 (same_four n) (with_four (n % 4) (omega arith))
common_divisor-is n (suc (suc (suc (suc (suc zero))))) some few = from_rest n 5 (same_five n) (with_five (n % 5) (omega arith))
common_divisor-is n (suc (suc (suc (suc (suc (suc zero)))))) some few = from_rest n 6 (same_six n) (with_six (n % 6) (omega arith))
common_divisor-is n (suc (suc (suc (suc (suc (suc (suc d))))))) some few = absurd (omega arith)
