-- What sums of terms that are held over 24 give.
--
-- multiple_is, multiple_most: one multiple more
-- factor_most: 24 times a fraction of a term; unit_at, row_two, row_three, row_six: the rows of the units
use Rattle.std.proofs.Common.{◌≡◌, ◌<◌, ◌≤◌, ◌+◌, ◌*◌, ◌^◌, ◌/◌, ℕ, suc, refl, sym, ap, ◌∙◌, arith, ℤ, pos, negsuc, ◌+ℤ◌, ◌*ℤ◌, List, [], ◌∷◌, length, drop, get_or, le_trans, lit≤, to_z, of_z}
use Rattle.std.specs.Prelude.{FitsSigned}
use Rattle.std.specs.Int.{w8, w128}
use Rattle.std.specs.Int.RustNames.{unsigned_abs}
use Rattle.std.proofs.lemmas.Int.{ints, to_z-of_z, unsigned_abs-mul, fits_signed_from_abs}
use Rattle.std.proofs.Math.Nat.{mul-le-mul_left, div-le_self}
use Rattle.std.proofs.Math.Seq.{drop-cons}
use Rattle.std.proofs.Math.ListN.{drop_of_length-le}
use Rattle.iso_text.specs.declared.numbers.Term.{Term}
use Rattle.iso_text.specs.declared.numbers.Unit.{Unit as TermUnit}
use Rattle.iso_text.specs.declared.numbers.Unit.TheVariants.{R2, R3, R6}
use Rattle.cyclo24.specs.declared.whole.Whole.{Whole}
use Rattle.cyclo24.specs.declared.fraction8.Fraction8.{Fraction8}
use Rattle.cyclo24.specs.Eight.{Eight, add8, num8}
use Rattle.cyclo24.specs.EightParts.{real8}
use Rattle.cyclo24.specs.EightNorm.{list8}
use Rattle.cyclo24.specs.EightNormLaws.{whole8_ring}
use Rattle.algebra.specs.Whole.{whole}
use Rattle.iso_text.specs.WordRanges.{IsTerm}
use Rattle.cyclo24.specs.Terms.{unit8, factor_of, term8, terms8, row8, scale8, AreAtMost}

small_abs : (k : ℤ) → FitsSigned w8 k → unsigned_abs k ≤ 128
small_abs k h = omega (arith, ints)

product_most : (f k : ℤ) → unsigned_abs k ≤ 128 → unsigned_abs (f *ℤ k) ≤ 128 * unsigned_abs f
product_most f k h = let e = unsigned_abs-mul f k in let m = mul-le-mul_left (unsigned_abs f) h in omega (arith, e, m)

sum_abs : (s p : ℤ) → unsigned_abs (s +ℤ p) ≤ unsigned_abs s + unsigned_abs p
sum_abs s p = omega (arith, ints)

fits128 : (z : ℤ) (n : ℕ) → unsigned_abs z ≤ n → n < 2 ^ 127 → FitsSigned w128 z
fits128 z n h k = fits_signed_from_abs w128 z (omega arith)

below : (a b : ℕ) → a ≤ 2 ^ 40 → b ≤ 128 * (2 ^ 20) → a + b ≤ 2 ^ 41
below a b h k = omega arith

pub multiple_is : (s f k : ℤ) → unsigned_abs s ≤ 2 ^ 40 → unsigned_abs f ≤ 2 ^ 20 → unsigned_abs k ≤ 128
    → to_z w128 (of_z w128 (to_z w128 (of_z w128 s) +ℤ to_z w128 (of_z w128 (to_z w128 (of_z w128 f) *ℤ to_z w128 (of_z w128 k))))) ≡ s +ℤ f *ℤ k
multiple_is s f k ms mf mk =
    let p : unsigned_abs (f *ℤ k) ≤ 128 * unsigned_abs f = product_most f k mk in
    let q : unsigned_abs (f *ℤ k) ≤ 2 ^ 27 = omega arith in
    let t : unsigned_abs (s +ℤ f *ℤ k) ≤ 2 ^ 41 = let a = sum_abs s (f *ℤ k) in omega arith in
    let es : to_z w128 (of_z w128 s) ≡ s = to_z-of_z w128 s (fits128 s (2 ^ 40) ms (lit≤ tt)) in
    let ef : to_z w128 (of_z w128 f) ≡ f = to_z-of_z w128 f (fits128 f (2 ^ 20) mf (lit≤ tt)) in
    let ek : to_z w128 (of_z w128 k) ≡ k = to_z-of_z w128 k (fits128 k 128 mk (lit≤ tt)) in
    let ep : to_z w128 (of_z w128 (f *ℤ k)) ≡ f *ℤ k = to_z-of_z w128 (f *ℤ k) (fits128 (f *ℤ k) (2 ^ 27) q (lit≤ tt)) in
    (λ i. to_z w128 (of_z w128 (es i +ℤ to_z w128 (of_z w128 (ef i *ℤ ek i)))))
    ∙ (λ i. to_z w128 (of_z w128 (s +ℤ ep i)))
    ∙ to_z-of_z w128 (s +ℤ f *ℤ k) (fits128 (s +ℤ f *ℤ k) (2 ^ 41) t (lit≤ tt))

pub multiple_most : (s f k : ℤ) → unsigned_abs k ≤ 128 → unsigned_abs (s +ℤ f *ℤ k) ≤ unsigned_abs s + 128 * unsigned_abs f
multiple_most s f k h = let a = sum_abs s (f *ℤ k) in let p = product_most f k h in omega (arith, a, p)

-- 24 / d is at most 24
pub factor_most : (t : Term) → IsTerm t → unsigned_abs (factor_of t) ≤ 240000
factor_most t h =
    let e = unsigned_abs-mul t.num (pos (24 / t.den)) in
    let q : 24 / t.den ≤ 24 = div-le_self 24 t.den in
    let m = mul-le-mul_left (unsigned_abs t.num) q in
    let n = h.numerator in omega (arith, e, m, n)

pub unit_at : (u v : TermUnit) → u ≡ v → list8 (unit8 v) ≡ list8 (unit8 u)
unit_at u v e = ap (λ w. list8 (unit8 w)) (sym e)

pub row_two : pos 0 ∷ pos 1 ∷ pos 0 ∷ pos 1 ∷ pos 0 ∷ negsuc 0 ∷ pos 0 ∷ pos 0 ∷ [] ≡ list8 (unit8 R2)
unfolding unit8 real8
row_two = refl

pub row_three : pos 0 ∷ pos 0 ∷ pos 2 ∷ pos 0 ∷ pos 0 ∷ pos 0 ∷ negsuc 0 ∷ pos 0 ∷ [] ≡ list8 (unit8 R3)
unfolding unit8 real8
row_three = refl

pub row_six : pos 0 ∷ pos 1 ∷ pos 0 ∷ pos 1 ∷ pos 0 ∷ pos 1 ∷ pos 0 ∷ negsuc 1 ∷ [] ≡ list8 (unit8 R6)
unfolding unit8 real8
row_six = refl

-- a bound on what is left of a sum
pub most_then : (n m s f : ℕ) → m ≤ s + 128 * f → s ≤ n → m ≤ n + 128 * f
most_then n m s f h k = omega arith

-- one term more
pub terms_step : (T s s' : Eight ℤ) (ts : List Term) (i : ℕ) (d : Term) → i < length ts → s' ≡ add8 whole s (term8 (get_or ts i d)) → add8 whole s (terms8 (drop i ts)) ≡ T → add8 whole s' (terms8 (drop (i + 1) ts)) ≡ T
terms_step T s s' ts i d h e g =
    let k : suc i ≡ i + 1 = omega arith in
    let t = term8 (get_or ts i d) in
    let rest = terms8 (drop (i + 1) ts) in
    let split : terms8 (drop i ts) ≡ add8 whole t rest = ap terms8 (drop-cons ts i d h ∙ ap (λ n. get_or ts i d ∷ drop n ts) k) in
    ap (λ w. add8 whole w rest) e ∙ whole8_ring.add_assoc s t rest ∙ sym (ap (add8 whole s) split) ∙ g

pub terms_end : (T s : Eight ℤ) (ts : List Term) (i : ℕ) → length ts ≤ i → add8 whole s (terms8 (drop i ts)) ≡ T → s ≡ T
terms_end T s ts i h e =
    sym (whole8_ring.add_comm s (num8 whole (pos 0)) ∙ whole8_ring.add_zero s) ∙ sym (ap (λ xs. add8 whole s (terms8 xs)) (drop_of_length-le ts h)) ∙ e

pub terms_start : (s : Eight ℤ) (ts : List Term) → s ≡ num8 whole (pos 0) → add8 whole s (terms8 ts) ≡ terms8 ts
terms_start s ts e = ap (λ w. add8 whole w (terms8 ts)) e ∙ whole8_ring.add_zero (terms8 ts)

-- with the factor and the row that calls gave
pub term_by : (s s' : Eight ℤ) (f : Whole) (row : List ℤ) (t : Term) → s' ≡ add8 whole s (scale8 f.n (row8 row)) → f ≡ record { n = factor_of t } → row ≡ list8 (unit8 t.unit) → s' ≡ add8 whole s (term8 t)
term_by s s' f row t e g h = e ∙ (λ i. add8 whole s (scale8 (g i).n (row8 (h i))))

pub at_most : (m n : ℕ) (s : Fraction8) → m ≤ n → AreAtMost m s → AreAtMost n s
at_most m n s h a = record {
  most0 = le_trans a.most0 h;
  most1 = le_trans a.most1 h;
  most2 = le_trans a.most2 h;
  most3 = le_trans a.most3 h;
  most4 = le_trans a.most4 h;
  most5 = le_trans a.most5 h;
  most6 = le_trans a.most6 h;
  most7 = le_trans a.most7 h;
}

pub bound_step : (i f : ℕ) → f ≤ 240000 → 30720000 * i + 128 * f ≤ 30720000 * (i + 1)
bound_step i f h = omega arith

pub bound_below : (i n : ℕ) → i ≤ n → n ≤ 16 → 30720000 * i ≤ 2 ^ 40
bound_below i n h k = omega arith
