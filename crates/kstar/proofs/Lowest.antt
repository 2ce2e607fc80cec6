-- A fraction with the least denominator of its value is in lowest terms.
use Rattle.std.proofs.Common.{◌≡◌, ℕ, zero, suc, ◌<◌, ◌≤◌, ◌*◌, ◌/◌, refl, sym, ◌∙◌, ap, ℤ, pos, negsuc, ◌*ℤ◌, neg_ℤ, unsigned_abs, [], ◌∷◌, arith}
use Prim.Native.Nat.{◌∣◌}
use Rattle.std.proofs.Math.IntN.{pos-*ℤ-pos}
use Rattle.std.proofs.Math.Nat.{one-dvd, div-mul_cancel, mul-le-mul_left, zero-mul, mul-zero}
use Rattle.algebra.specs.Whole.{whole}
use Rattle.algebra.specs.WholeLaws.{whole_ring}
use Rattle.algebra.specs.Solve.{V, exps, at}
use Rattle.algebra.specs.SolveLaws.{solve}
use Rattle.algebra.specs.DivisorLaws.{times_cancelled}
use Rattle.iso_text.specs.Fractions.{IsLowest}
use Rattle.iso_text.specs.declared.numbers.Frac.{Frac}

minus_times : (a b : ℤ) → neg_ℤ a *ℤ b ≡ neg_ℤ (a *ℤ b)
minus_times a b = solve whole whole_ring (at (pos 0) (a ∷ b ∷ [])) (exps.mul (exps.neg (V 0)) (V 1)) (exps.neg (exps.mul (V 0) (V 1))) refl

last_first : (a b c : ℤ) → (a *ℤ b) *ℤ c ≡ (a *ℤ c) *ℤ b
last_first a b c = solve whole whole_ring (at (pos 0) (a ∷ b ∷ c ∷ [])) (exps.mul (exps.mul (V 0) (V 1)) (V 2)) (exps.mul (exps.mul (V 0) (V 2)) (V 1)) refl

together : (a b c : ℤ) → a *ℤ (b *ℤ c) ≡ (a *ℤ b) *ℤ c
together a b c = solve whole whole_ring (at (pos 0) (a ∷ b ∷ c ∷ [])) (exps.mul (V 0) (exps.mul (V 1) (V 2))) (exps.mul (exps.mul (V 0) (V 1)) (V 2)) refl

quotient : (x : ℤ) (e : ℕ) → e ∣ unsigned_abs x → (y : ℤ) × (y *ℤ pos e ≡ x)
quotient (pos n) e h = (pos (n / e), pos-*ℤ-pos (n / e) e ∙ ap pos (div-mul_cancel e h))
quotient (negsuc n) e h = (neg_ℤ (pos (suc n / e)), minus_times (pos (suc n / e)) (pos e) ∙ ap neg_ℤ (pos-*ℤ-pos (suc n / e) e ∙ ap pos (div-mul_cancel e h)))

some_part : (m e b : ℕ) → m * e ≡ b → 0 < b → 0 < m
some_part zero e b h l = absurd (omega (arith, h, zero-mul e))
some_part (suc m) e b h l = omega arith

smaller : (m e b : ℕ) → m * suc (suc e) ≡ b → 0 < m → m < b
smaller m e b h l = let k : m * 2 ≤ m * suc (suc e) = mul-le-mul_left m (omega arith) in omega (arith, h, k)

module _ (z : ℤ) (d : ℕ) (f : Frac) (some : 0 < f.den) (same : f.num *ℤ pos d ≡ z *ℤ pos f.den)
    (least : (m : ℕ) → 0 < m → m < f.den → (x : ℤ) → x *ℤ pos d ≡ z *ℤ pos m → ⊥) where
  divided : (e : ℕ) → 0 < e → (y : ℤ) → y *ℤ pos e ≡ f.num → (m : ℕ) → m * e ≡ f.den → y *ℤ pos d ≡ z *ℤ pos m
  divided e l y g m h =
      times_cancelled (y *ℤ pos d) (z *ℤ pos m) e l
      (last_first y (pos d) (pos e) ∙ ap (λ t. t *ℤ pos d) g ∙ same ∙ ap (λ t. z *ℤ t) (ap pos (sym h) ∙ sym (pos-*ℤ-pos m e)) ∙ together z (pos m) (pos e))

  common : (e : ℕ) → e ∣ unsigned_abs f.num → e ∣ f.den → e ∣ 1
  common zero h k = let g : f.den / 0 * 0 ≡ f.den = div-mul_cancel 0 k in absurd (omega (arith, some, g, mul-zero (f.den / 0)))
  common (suc zero) h k = one-dvd 1
  common (suc (suc e)) h k =
      let y = quotient f.num (suc (suc e)) h in
      let m = f.den / suc (suc e) in
      let g : m * suc (suc e) ≡ f.den = div-mul_cancel (suc (suc e)) k in
      let l : 0 < m = some_part m (suc (suc e)) f.den g some in
      absurd (least m l (smaller m e f.den g l) y.0 (divided (suc (suc e)) (omega arith) y.0 y.1 m g))

  pub least-lowest : IsLowest z d f
  least-lowest = record { same = same; positive = some; coprime = (one-dvd (unsigned_abs f.num), one-dvd f.den, common) }
