-- What the formulas on eight numerators over a denominator give.
--
-- dot_step, dot_err_times, dot_err_plus, dot_end: one product after the others
-- sum_by, reduced_narrow: sums and lowest terms by the quotients that calls gave
use Rattle.std.proofs.Common.{◌≡◌, ℕ, sym, ap, ◌∙◌, subst, pos, List, [], ◌∷◌, Ok, Err}
use Rattle.std.specs.Int.RustNames.{unsigned_abs}
use Rattle.cyclo24.specs.declared.field.Wide.{Wide}
use Rattle.cyclo24.specs.declared.whole.Whole.{Whole}
use Rattle.cyclo24.specs.declared.fraction8.Fraction8.{Fraction8}
use Rattle.cyclo24.specs.Gcd.{gcd, common, quotient}
use Rattle.cyclo24.specs.Checked.{answer, then, times, plus}
use Rattle.cyclo24.specs.CheckedLaws.{quotient_narrow, answer_then_ok, answer_then_err, answer_give}
use Rattle.cyclo24.specs.Written8.{numerators8, IsNarrow8, num, dot_from, sum_over, sum}

-- one product after the others
pub dot_step : (s p r x y : Whole) (xs ys : List Whole) → answer (times x y) ≡ Ok p → answer (plus s p) ≡ Ok r → answer (dot_from s (x ∷ xs) (y ∷ ys)) ≡ answer (dot_from r xs ys)
unfolding dot_from
dot_step s p r x y xs ys e f = answer_then_ok (times x y) (λ p. then (plus s p) (λ r. dot_from r xs ys)) p e ∙ answer_then_ok (plus s p) (λ r. dot_from r xs ys) r f

pub dot_err_times : (s x y : Whole) (w : Wide) (xs ys : List Whole) → answer (times x y) ≡ Err w → answer (dot_from s (x ∷ xs) (y ∷ ys)) ≡ Err w
unfolding dot_from
dot_err_times s x y w xs ys e = answer_then_err (times x y) (λ p. then (plus s p) (λ r. dot_from r xs ys)) w e

pub dot_err_plus : (s p x y : Whole) (w : Wide) (xs ys : List Whole) → answer (times x y) ≡ Ok p → answer (plus s p) ≡ Err w → answer (dot_from s (x ∷ xs) (y ∷ ys)) ≡ Err w
unfolding dot_from
dot_err_plus s p x y w xs ys e f = answer_then_ok (times x y) (λ p. then (plus s p) (λ r. dot_from r xs ys)) p e ∙ answer_then_err (plus s p) (λ r. dot_from r xs ys) w f

pub dot_end : (s : Whole) (ys : List Whole) → answer (dot_from s [] ys) ≡ Ok s
unfolding dot_from
dot_end s ys = answer_give s

-- with the quotients that a call gave
pub sum_by : (a b : Fraction8) (g p q : Whole) → g ≡ record { n = pos (gcd (unsigned_abs a.d.n) (unsigned_abs b.d.n)) } → p ≡ record { n = quotient a.d.n (unsigned_abs g.n) }
    → q ≡ record { n = quotient b.d.n (unsigned_abs g.n) } → answer (sum_over a q b p) ≡ answer (sum a b)
sum_by a b g p q e h k =
    let n : unsigned_abs g.n ≡ gcd (unsigned_abs a.d.n) (unsigned_abs b.d.n) = ap (λ (w : Whole). unsigned_abs w.n) e in
    let hp = h ∙ ap (λ m. num (quotient a.d.n m)) n in
    let kq = k ∙ ap (λ m. num (quotient b.d.n m)) n in
    λ i. answer (sum_over a (kq i) b (hp i))

pub over : Fraction8 → ℕ → Fraction8
over r g = record {
  d = num (quotient r.d.n g);
  c0 = num (quotient r.c0.n g);
  c1 = num (quotient r.c1.n g);
  c2 = num (quotient r.c2.n g);
  c3 = num (quotient r.c3.n g);
  c4 = num (quotient r.c4.n g);
  c5 = num (quotient r.c5.n g);
  c6 = num (quotient r.c6.n g);
  c7 = num (quotient r.c7.n g);
}

over_narrow : (r : Fraction8) → IsNarrow8 r → IsNarrow8 (over r (common (numerators8 r) (unsigned_abs r.d.n)))
unfolding over
over_narrow r h =
    let g = common (numerators8 r) (unsigned_abs r.d.n) in
    record {
      narrow0 = quotient_narrow r.c0.n g h.narrow0;
      narrow1 = quotient_narrow r.c1.n g h.narrow1;
      narrow2 = quotient_narrow r.c2.n g h.narrow2;
      narrow3 = quotient_narrow r.c3.n g h.narrow3;
      narrow4 = quotient_narrow r.c4.n g h.narrow4;
      narrow5 = quotient_narrow r.c5.n g h.narrow5;
      narrow6 = quotient_narrow r.c6.n g h.narrow6;
      narrow7 = quotient_narrow r.c7.n g h.narrow7;
      narrow = quotient_narrow r.d.n g h.narrow;
    }

-- what is reduced is narrow
pub reduced_narrow : (r s : Fraction8) (g : Whole) → IsNarrow8 r → g ≡ record { n = pos (common (numerators8 r) (unsigned_abs r.d.n)) } → s ≡ over r (unsigned_abs g.n) → IsNarrow8 s
reduced_narrow r s g h e parts =
    let n : unsigned_abs g.n ≡ common (numerators8 r) (unsigned_abs r.d.n) = ap (λ (w : Whole). unsigned_abs w.n) e in
    subst IsNarrow8 (sym (parts ∙ ap (over r) n)) (over_narrow r h)

pub over_is : (r s : Fraction8) (g : ℕ) → s.d ≡ num (quotient r.d.n g) → s.c0 ≡ num (quotient r.c0.n g) → s.c1 ≡ num (quotient r.c1.n g) → s.c2 ≡ num (quotient r.c2.n g) → s.c3 ≡ num (quotient r.c3.n g)
    → s.c4 ≡ num (quotient r.c4.n g) → s.c5 ≡ num (quotient r.c5.n g) → s.c6 ≡ num (quotient r.c6.n g) → s.c7 ≡ num (quotient r.c7.n g) → s ≡ over r g
unfolding over
over_is r s g d c0 c1 c2 c3 c4 c5 c6 c7 = λ i. record { d = d i; c0 = c0 i; c1 = c1 i; c2 = c2 i; c3 = c3 i; c4 = c4 i; c5 = c5 i; c6 = c6 i; c7 = c7 i }
