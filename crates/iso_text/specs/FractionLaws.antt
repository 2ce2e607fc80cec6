-- What `lowest` is: the fraction of a ratio in lowest terms, for denominators to 6
use Rattle.std.proofs.Common.{◌≡◌, ℕ, zero, suc, pos, neg_ℤ, ◌*◌, ◌/◌, ◌<◌, ◌≤◌, Bool, true, false, refl, sym, ◌∙◌, ap, subst, arith}
use Prim.Native.Nat.{◌∣◌}
use Rattle.std.specs.Int.{IsGcd}
use Rattle.std.specs.Int.RustNames.{unsigned_abs}
use Rattle.std.proofs.Math.IntN.{◌*ℤ◌, pos-*ℤ-pos, negsuc-*ℤ-pos, zero-*ℤ}
use Rattle.std.proofs.Math.Nat.{one-dvd, div-mul_cancel, mul-dvd-mul_right, dvd_of_mul-dvd-mul_right, pos_of_dvd_of_pos, zero-mul, mul_assoc, mul_comm}
use Rattle.iso_text.specs.Fractions.{signed, common_divisor, lowest, IsLowest}
use Rattle.iso_text.specs.DivisorLaws.{common_divisor-is}

-- numbers over their greatest common divisor
parts_coprime : (a b g : ℕ) → 0 < g → IsGcd a b g → IsGcd (a / g) (b / g) 1
parts_coprime a b g some is = (
  one-dvd (a / g),
  one-dvd (b / g),
  λ e x y.
      let over_a : e * g ∣ a = subst (λ t. e * g ∣ t) (div-mul_cancel g is.0) (mul-dvd-mul_right e x g) in
      let over_b : e * g ∣ b = subst (λ t. e * g ∣ t) (div-mul_cancel g is.1) (mul-dvd-mul_right e y g) in
      let one : g ≡ 1 * g = omega arith in
      dvd_of_mul-dvd-mul_right e some (subst (λ t. e * g ∣ t) one (is.2 (e * g) over_a over_b)),
)

part_positive : (q g d : ℕ) → q * g ≡ d → 0 < d → 0 < q
part_positive zero g d e some = absurd (omega (arith, zero-mul g))
part_positive (suc q) g d e some = omega arith

signed_times : (negative : Bool) (a b : ℕ) → signed negative a *ℤ pos b ≡ signed negative (a * b)
signed_times false a b = pos-*ℤ-pos a b
signed_times true zero b = zero-*ℤ (pos b) ∙ ap (λ t. neg_ℤ (pos t)) (sym (zero-mul b))
signed_times true (suc a) b = negsuc-*ℤ-pos a b

size_of : (negative : Bool) (a : ℕ) → unsigned_abs (signed negative a) ≡ a
size_of false a = refl
size_of true zero = refl
size_of true (suc a) = refl

crossed : (a b q r g : ℕ) → q * g ≡ a → r * g ≡ b → q * b ≡ a * r
crossed a b q r g whole_a whole_b =
    ap (λ t. q * t) (sym whole_b ∙ mul_comm r g) ∙ sym (mul_assoc q g r) ∙ ap (λ t. t * r) whole_a

-- n / d in lowest terms
pub lowest-terms : (negative : Bool) (n d : ℕ) → 0 < d → d ≤ 6 → IsLowest (signed negative n) d (lowest negative n d)
lowest-terms negative n d some few =
    let g = common_divisor n d in
    let is = common_divisor-is n d some few in
    let positive : 0 < g = pos_of_dvd_of_pos is.1 some in
    let whole_n : n / g * g ≡ n = div-mul_cancel g is.0 in
    let whole_d : d / g * g ≡ d = div-mul_cancel g is.1 in
    record {
      same = signed_times negative (n / g) d ∙ ap (λ t. signed negative t) (crossed n d (n / g) (d / g) g whole_n whole_d) ∙ sym (signed_times negative n (d / g));
      positive = part_positive (d / g) g d whole_d some;
      coprime = subst (λ t. IsGcd t (d / g) 1) (sym (size_of negative (n / g))) (parts_coprime n d g positive is);
    }
