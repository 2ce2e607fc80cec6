-- The exact value of a sum of terms by its coefficients over 24.
--
-- whole_member: whole numbers; unit_member: units; times-term, times-terms: 24 times a term and a sum of terms
-- terms_is, terms_reduced: what has the coefficients over 24 in lowest terms is the sum; root_reduced: the same for a power over 1
-- small_sums: what is held isn't wide
use Rattle.std.proofs.Common.{◌≡◌, ◌<◌, ◌≤◌, ◌^◌, ◌*◌, ◌/◌, ◌%◌, ℕ, zero, suc, refl, sym, ap, ◌∙◌, arith, ℤ, pos, negsuc, ◌*ℤ◌, List, [], ◌∷◌, false, le_trans, lit≤}
use Rattle.std.specs.List.{All}
use Rattle.std.specs.Int.RustNames.{unsigned_abs}
use Rattle.iso_text.specs.declared.numbers.Term.{Term}
use Rattle.iso_text.specs.declared.numbers.Unit.TheVariants.{One, Z, I, R2, R3, R6}
use Rattle.cyclo24.specs.FieldOn.{FieldOn, ones}
use Rattle.cyclo24.specs.FieldLaws.{times-nought, unit-times}
use Rattle.cyclo24.specs.Gcd.{lowest_terms}
use Rattle.algebra.specs.Whole.{whole}
use Rattle.algebra.specs.WholeLaws.{whole_ring}
use Rattle.cyclo24.specs.Numerals.{of_whole, ring_of}
use Rattle.cyclo24.specs.NumeralLaws.{ring_of_is, of-times}
use Rattle.algebra.specs.Solve.{V, Mul, at}
use Rattle.algebra.specs.SolveLaws.{solve}
use Rattle.cyclo24.specs.Four.{Four}
use Rattle.cyclo24.specs.FourNorm.{whole4, four}
use Rattle.cyclo24.specs.FourNormLaws.{four_is}
use Rattle.cyclo24.specs.Eight.{Eight, add8, num8}
use Rattle.cyclo24.specs.EightParts.{real8}
use Rattle.cyclo24.specs.EightLaws.{scaled8}
use Rattle.cyclo24.specs.EightNorm.{whole8, eight, list8}
use Rattle.cyclo24.specs.EightNormLaws.{whole8_ring, eight_is}
use Rattle.cyclo24.specs.FractionLaws.{lower}
use Rattle.cyclo24.specs.Numerators.{content_of}
use Rattle.cyclo24.specs.CommonLaws.{content_of_is}
use Rattle.cyclo24.specs.ListedLaws.{exact_ones, listed, listed-lower}
use Rattle.iso_text.specs.declared.numbers.Unit.{Unit as TermUnit}
use Rattle.cyclo24.specs.declared.whole.Whole.{Whole}
use Rattle.cyclo24.specs.declared.fraction8.Fraction8.{Fraction8}
use Rattle.cyclo24.specs.Checked.{is_wide}
use Rattle.cyclo24.specs.CheckedLaws.{below_wide}
use Rattle.cyclo24.specs.Written8.{numbers8, numerators8, eight_of, IsNarrow8}
use Rattle.cyclo24.specs.ExactMapsLaws.{exact_member, exact_member-plus, exact_member-times, exact_member-neg, exact_member-one, exact_member-zero, exact_member-low}
use Rattle.cyclo24.specs.RootsK24.{r2, r3, r6}
use Rattle.cyclo24.specs.ExactK24.{Exact24}
use Rattle.cyclo24.specs.ExactZ24.{ExactZ24, z24_laws, power, from_real}
use Rattle.cyclo24.specs.Z24Roots.{member, power8, four2, four3, four6}
use Rattle.cyclo24.specs.Z24RootsLaws.{power_is, power-6, from_real-member, power8-one, r2_member, r3_member, r6_member}
use Rattle.iso_text.specs.WordRanges.{IsTerm}
use Rattle.cyclo24.specs.Terms.{unit_value, ratio_value, term_value, terms_value, unit8, scale8, row8, factor_of, term8, terms8, AreAtMost}

ones_member : (n : ℕ) → ones z24_laws n ≡ member (num8 whole (pos n))
ones_member zero = sym (exact_member-zero whole8 eight eight_is)
ones_member (suc n) =
    (λ i. z24_laws.plus (sym (exact_member-one whole8 eight eight_is) i) (ones_member n i)) ∙ exact_member-plus whole8 eight eight_is (num8 whole (pos 1)) (num8 whole (pos n))
    ∙ ap member (sym (whole8_ring.num_suc n))

-- whole numbers
pub whole_member : (z : ℤ) → of_whole z24_laws z ≡ member (num8 whole z)
whole_member (pos n) = ones_member n
whole_member (negsuc n) = ap z24_laws.neg (ones_member (suc n)) ∙ exact_member-neg whole8 eight eight_is (num8 whole (pos (suc n)))

real_member : (x : Exact24) (a : Four ℤ) → x ≡ exact_member whole4 four four_is a → from_real x ≡ member (real8 whole a)
real_member x a e = ap from_real e ∙ from_real-member a

-- units
pub unit_member : (u : TermUnit) → unit_value u ≡ member (unit8 u)
unfolding unit8
unit_member One = sym (exact_member-one whole8 eight eight_is)
unit_member (Z n) = power_is n
unit_member I = sym power-6 ∙ power_is 6
unit_member R2 = real_member r2 four2 r2_member
unit_member R3 = real_member r3 four3 r3_member
unit_member R6 = real_member r6 four6 r6_member

-- a whole number times a member
times-member : (z : ℤ) (a : Eight ℤ) → z24_laws.times (of_whole z24_laws z) (member a) ≡ member (scale8 z a)
times-member z a = ap (λ w. z24_laws.times w (member a)) (whole_member z) ∙ exact_member-times whole8 eight eight_is (num8 whole z) a ∙ ap member (scaled8 whole whole_ring z a)

abbrev over24 : ExactZ24
over24 = of_whole z24_laws (pos 24)

whole_apart : (d : ℕ) → 0 < d → z24_laws.is_nought (of_whole z24_laws (pos d)) ≡ false
whole_apart zero p = absurd (omega arith)
whole_apart (suc n) p = exact_ones whole8 eight eight_is n

split24 : (d : ℕ) → 0 < d → 24 % d ≡ 0 → d * (24 / d) ≡ 24
split24 d p h = omega arith

-- 24 (n / d)
times-ratio : (n : ℤ) (d : ℕ) → 0 < d → 24 % d ≡ 0 → z24_laws.times over24 (ratio_value n d) ≡ of_whole z24_laws (n *ℤ pos (24 / d))
times-ratio n d p h =
    let f = z24_laws in
    let a = of_whole f (pos d) in let b = of_whole f (pos (24 / d)) in let x = of_whole f n in let i = f.inverse a in
    let s : over24 ≡ f.times a b = ap (λ k. of_whole f (pos k)) (sym (split24 d p h)) ∙ of-times f (pos d) (pos (24 / d)) in
    ap (λ w. f.times w (f.times x i)) s
    ∙ solve (ring_of f) (ring_of_is f) (at f.nought (a ∷ b ∷ x ∷ i ∷ [])) (Mul (Mul (V 0) (V 1)) (Mul (V 2) (V 3))) (Mul (Mul (V 2) (V 1)) (Mul (V 0) (V 3))) refl
    ∙ ap (f.times (f.times x b)) (f.times-inverse a (whole_apart d p)) ∙ f.times-unit (f.times x b) ∙ sym (of-times f n (pos (24 / d)))

pub times-term : (t : Term) → IsTerm t → z24_laws.times over24 (term_value t) ≡ member (term8 t)
times-term t h =
    let f = z24_laws in
    sym (f.times_assoc over24 (ratio_value t.num t.den) (unit_value t.unit)) ∙ (λ i. f.times (times-ratio t.num t.den h.positive h.divides i) (unit_member t.unit i)) ∙ times-member (factor_of t) (unit8 t.unit)

first : (t : Term) (ts : List Term) → All IsTerm (t ∷ ts) → IsTerm t
first t ts h = h zero t (omega arith)

others : (t : Term) (ts : List Term) → All IsTerm (t ∷ ts) → All IsTerm ts
others t ts h = λ k d l. h (suc k) d (omega arith)

pub times-terms : (ts : List Term) → All IsTerm ts → z24_laws.times over24 (terms_value ts) ≡ member (terms8 ts)
times-terms [] h = times-nought z24_laws over24 ∙ sym (exact_member-zero whole8 eight eight_is)
times-terms (t ∷ ts) h =
    z24_laws.times-plus over24 (term_value t) (terms_value ts) ∙ (λ i. z24_laws.plus (times-term t (first t ts h) i) (times-terms ts (others t ts h) i)) ∙ exact_member-plus whole8 eight eight_is (term8 t) (terms8 ts)

module _ {A : Type 0} (f : FieldOn A) where
  -- a factor that isn't 0 cancels
  cancel : (d x y : A) → f.is_nought d ≡ false → f.times d x ≡ f.times d y → x ≡ y
  cancel d x y a e = back x ∙ ap (f.times (f.inverse d)) e ∙ sym (back y)
    where
      back : (z : A) → z ≡ f.times (f.inverse d) (f.times d z)
      back z = sym (unit-times f z) ∙ ap (λ w. f.times w z) (sym (f.times_comm (f.inverse d) d ∙ f.times-inverse d a)) ∙ f.times_assoc (f.inverse d) d z

above23 : 0 < 24
above23 = omega arith

-- what has the list of the coefficients over 24 in lowest terms
pub terms_is : (x : ExactZ24) (ts : List Term) → All IsTerm ts → x.0 ≡ lowest_terms (list8 (terms8 ts)) 24 → x ≡ terms_value ts
terms_is x ts h e =
    cancel z24_laws over24 x (terms_value ts) (whole_apart 24 above23)
    (ap (λ w. z24_laws.times w x) (whole_member (pos 24)) ∙ exact_member-low whole8 eight eight_is (terms8 ts) 24 above23 x e ∙ sym (times-terms ts h))

-- the list of the sum
pub terms_list : (ts : List Term) → All IsTerm ts → lowest_terms (list8 (terms8 ts)) 24 ≡ (terms_value ts).0
terms_list ts h =
    let c = content_of_is whole8 eight eight_is in
    let x : ExactZ24 = (listed whole8 eight eight_is).to (lower whole8 (content_of eight) c (terms8 ts) 24 above23) in
    let e : x.0 ≡ lowest_terms (list8 (terms8 ts)) 24 = listed-lower whole8 eight eight_is (terms8 ts) 24 above23 in
    sym e ∙ ap (λ (y : ExactZ24). y.0) (terms_is x ts h e)

-- what is reduced has the list of the sum
pub terms_reduced : (r s : Fraction8) (ts : List Term) → All IsTerm ts → eight_of r ≡ terms8 ts → r.d ≡ record { n = pos 24 } → numbers8 s ≡ lowest_terms (numerators8 r) (unsigned_abs r.d.n) → numbers8 s ≡ (terms_value ts).0
terms_reduced r s ts h e d q = q ∙ (λ i. lowest_terms (list8 (e i)) (unsigned_abs (d i).n)) ∙ terms_list ts h

once : (x : Eight ℤ) → scale8 (pos 1) x ≡ x
once x = sym (scaled8 whole whole_ring (pos 1) x) ∙ whole8_ring.mul_one x

pub root_reduced : (z r s : Fraction8) (row : List ℤ) (n : ℕ) → eight_of z ≡ num8 whole (pos 0) → z.d ≡ record { n = pos 1 } → row ≡ list8 (power8 n) → eight_of r ≡ add8 whole (eight_of z) (scale8 (pos 1) (row8 row)) → r.d ≡ z.d
    → numbers8 s ≡ lowest_terms (numerators8 r) (unsigned_abs r.d.n) → numbers8 s ≡ (power n).0
root_reduced z r s row n e d w f g q =
    let c : eight_of r ≡ power8 n = f ∙ (λ i. add8 whole (e i) (scale8 (pos 1) (row8 (w i)))) ∙ whole8_ring.add_zero (scale8 (pos 1) (power8 n)) ∙ once (power8 n) in
    q ∙ (λ i. lowest_terms (list8 (c i)) (unsigned_abs ((g ∙ d) i).n)) ∙ sym (power8-one n)

-- small numbers aren't wide
small_wide : (z : ℤ) → unsigned_abs z ≤ 2 ^ 40 → is_wide z ≡ false
small_wide z h = below_wide z (le_trans (le_suc h) (lit≤ tt))
  where
    le_suc : {m n : ℕ} → m ≤ n → suc m ≤ suc n
    le_suc h = omega arith

pub small_sums : (r : Fraction8) (d : ℤ) → AreAtMost (2 ^ 40) r → r.d ≡ record { n = d } → is_wide d ≡ false → IsNarrow8 r
small_sums r d h e n = record {
  narrow0 = small_wide r.c0.n h.most0;
  narrow1 = small_wide r.c1.n h.most1;
  narrow2 = small_wide r.c2.n h.most2;
  narrow3 = small_wide r.c3.n h.most3;
  narrow4 = small_wide r.c4.n h.most4;
  narrow5 = small_wide r.c5.n h.most5;
  narrow6 = small_wide r.c6.n h.most6;
  narrow7 = small_wide r.c7.n h.most7;
  narrow = ap (λ (w : Whole). is_wide w.n) e ∙ n;
}
