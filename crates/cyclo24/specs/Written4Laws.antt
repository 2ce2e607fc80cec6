-- What the formulas on four numerators over a denominator give.
use Rattle.std.proofs.Common.{◌≡◌, ◌<◌, ◌*◌, ◌/◌, ℕ, zero, suc, sym, ap, ◌∙◌, subst, arith, rules, ℤ, pos, negsuc, [], ◌∷◌, true}
use Rattle.std.specs.Int.RustNames.{unsigned_abs}
use Prim.Native.Nat.{◌∣◌}
use Rattle.std.proofs.Math.Nat.{mul-div_cancel'}
use Rattle.cyclo24.specs.declared.whole.Whole.{Whole}
use Rattle.cyclo24.specs.declared.fraction4.Fraction4.{Fraction4}
use Rattle.cyclo24.specs.Gcd.{gcd, common, quotient, lowest_terms}
use Rattle.cyclo24.specs.CommonLaws.{over_one, lowest-one}
use Rattle.std.specs.Ordering.{int_eq}
use Rattle.std.specs.Cmp.{signed_Decides}
use Rattle.cyclo24.specs.Listed.{is_positive}
use Rattle.cyclo24.specs.ListedLaws.{positive_abs}
use Rattle.cyclo24.specs.Checked.{answer}
use Rattle.cyclo24.specs.CheckedLaws.{quotient_narrow}
use Rattle.cyclo24.specs.Written4.{numbers4, numerators4, IsNarrow4, sum_over, sum}

-- with the quotients that a call gave
pub sum_by : (f : Whole) (a b : Fraction4) (g p q : Whole) → g ≡ record { n = pos (gcd (unsigned_abs a.d.n) (unsigned_abs b.d.n)) }
    → p ≡ record { n = quotient a.d.n (unsigned_abs g.n) } → q ≡ record { n = quotient b.d.n (unsigned_abs g.n) } → answer (sum_over f a q b p) ≡ answer (sum f a b)
sum_by f a b g p q e h k =
    let over : ℤ → Whole = λ z. record { n = z } in
    let n : unsigned_abs g.n ≡ gcd (unsigned_abs a.d.n) (unsigned_abs b.d.n) = ap (λ (w : Whole). unsigned_abs w.n) e in
    let hp = h ∙ ap (λ m. over (quotient a.d.n m)) n in
    let kq = k ∙ ap (λ m. over (quotient b.d.n m)) n in
    λ i. answer (sum_over f a (kq i) b (hp i))

positive_part : (g q d : ℕ) → 0 < d → g * q ≡ d → 0 < q
positive_part g zero d p e = absurd (omega arith)
positive_part g (suc q) d p e = omega arith

positive_pos : (n : ℕ) → 0 < n → is_positive (pos n) ≡ true
positive_pos n h = search rules

pub quotient_positive : (z : ℤ) (g : ℕ) → is_positive z ≡ true → g ∣ unsigned_abs z → is_positive (quotient z g) ≡ true
quotient_positive (pos n) g h k = positive_pos (n / g) (positive_part g (n / g) n (positive_abs (pos n) h).0 (mul-div_cancel' g k))
quotient_positive (negsuc n) g h k = absurd (cc)

over : Fraction4 → ℕ → Fraction4
over r g = record { d = record { n = quotient r.d.n g }; a0 = record { n = quotient r.a0.n g }; a1 = record { n = quotient r.a1.n g }; a2 = record { n = quotient r.a2.n g }; a3 = record { n = quotient r.a3.n g } }

over_narrow : (r : Fraction4) → IsNarrow4 r → IsNarrow4 (over r (common (numerators4 r) (unsigned_abs r.d.n)))
unfolding over
over_narrow r h =
    let g = common (numerators4 r) (unsigned_abs r.d.n) in
    record {
      narrow0 = quotient_narrow r.a0.n g h.narrow0;
      narrow1 = quotient_narrow r.a1.n g h.narrow1;
      narrow2 = quotient_narrow r.a2.n g h.narrow2;
      narrow3 = quotient_narrow r.a3.n g h.narrow3;
      narrow = quotient_narrow r.d.n g h.narrow;
    }

-- what is reduced is narrow
pub reduced_narrow : (r s : Fraction4) (g : Whole) → IsNarrow4 r → g ≡ record { n = pos (common (numerators4 r) (unsigned_abs r.d.n)) }
    → s.d ≡ record { n = quotient r.d.n (unsigned_abs g.n) } → s.a0 ≡ record { n = quotient r.a0.n (unsigned_abs g.n) } → s.a1 ≡ record { n = quotient r.a1.n (unsigned_abs g.n) }
    → s.a2 ≡ record { n = quotient r.a2.n (unsigned_abs g.n) } → s.a3 ≡ record { n = quotient r.a3.n (unsigned_abs g.n) } → IsNarrow4 s
unfolding over
reduced_narrow r s g h e d a0 a1 a2 a3 =
    let n : unsigned_abs g.n ≡ common (numerators4 r) (unsigned_abs r.d.n) = ap (λ (w : Whole). unsigned_abs w.n) e in
    let parts : s ≡ over r (unsigned_abs g.n) = λ i. record { d = d i; a0 = a0 i; a1 = a1 i; a2 = a2 i; a3 = a3 i } in
    subst IsNarrow4 (sym (parts ∙ ap (over r) n)) (over_narrow r h)

-- over 1 nothing is divided
pub reduced_over_one : (r : Fraction4) → int_eq r.d.n (pos 1) ≡ true → numbers4 r ≡ lowest_terms (numerators4 r) (unsigned_abs r.d.n)
reduced_over_one r h =
    let e : r.d.n ≡ pos 1 = (signed_Decides r.d.n (pos 1)).0 h in
    ap (λ z. r.a0.n ∷ r.a1.n ∷ r.a2.n ∷ r.a3.n ∷ z ∷ []) e ∙ sym (lowest-one (numerators4 r)) ∙ ap (λ z. lowest_terms (numerators4 r) (unsigned_abs z)) (sym e)

-- nor where nothing divides all
pub reduced_by_one : (r : Fraction4) (g : Whole) → is_positive r.d.n ≡ true → g ≡ record { n = pos (common (numerators4 r) (unsigned_abs r.d.n)) } → int_eq g.n (pos 1) ≡ true → numbers4 r ≡ lowest_terms (numerators4 r) (unsigned_abs r.d.n)
reduced_by_one r g p e h =
    let one : common (numerators4 r) (unsigned_abs r.d.n) ≡ 1 = ap unsigned_abs (ap (λ (w : Whole). w.n) (sym e) ∙ (signed_Decides g.n (pos 1)).0 h) in
    ap (λ z. r.a0.n ∷ r.a1.n ∷ r.a2.n ∷ r.a3.n ∷ z ∷ []) (positive_abs r.d.n p).1 ∙ sym (over_one (numerators4 r) (unsigned_abs r.d.n) one)
