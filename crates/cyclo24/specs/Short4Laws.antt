-- What is computed on four numerators over a denominator in 64 bits.
--
-- lowest_by_one, lowest_over_one: numbers that nothing divides, or over 1, are in lowest terms
-- gcd_of_zero, common-rational, zero_over: of 0
-- rational_narrow, lowest-rational: a rational number in lowest terms
use Rattle.std.proofs.Common.{◌≡◌, ◌/◌, ◌%◌, ℕ, arith, ap, ◌∙◌, sym, ℤ, pos, [], ◌∷◌, ◌++◌, List, lit≤, true, false}
use Rattle.std.specs.Int.RustNames.{unsigned_abs}
use Rattle.cyclo24.specs.declared.whole.Whole.{Whole}
use Rattle.cyclo24.specs.declared.small.Small.{Small}
use Rattle.cyclo24.specs.Gcd.{gcd, common, quotient, lowest_terms}
use Rattle.cyclo24.specs.GcdLaws.{gcd_zero, gcd_step}
use Rattle.cyclo24.specs.CommonLaws.{over_one, lowest-one}
use Rattle.std.specs.Ordering.{int_eq}
use Rattle.std.specs.Cmp.{signed_Decides}
use Rattle.cyclo24.specs.Listed.{is_positive}
use Rattle.cyclo24.specs.ListedLaws.{positive_abs}
use Rattle.cyclo24.specs.Checked.{is_wide}
use Rattle.cyclo24.specs.CheckedLaws.{below_wide}
use Rattle.cyclo24.specs.Written4.{IsNarrow4}
use Rattle.cyclo24.specs.Short4.{rational}

-- numbers that nothing divides
pub lowest_by_one : (xs numbers : List ℤ) (d : ℤ) → common xs (unsigned_abs d) ≡ 1 → d ≡ pos (unsigned_abs d) → numbers ≡ xs ++ d ∷ [] → numbers ≡ lowest_terms xs (unsigned_abs d)
lowest_by_one xs numbers d e u n = n ∙ ap (λ z. xs ++ z ∷ []) u ∙ sym (over_one xs (unsigned_abs d) e)

pub lowest_by_whole : (xs numbers : List ℤ) (d : ℤ) (g : Small) → is_positive d ≡ true → g ≡ record { n = pos (common xs (unsigned_abs d)) } → int_eq g.n (pos 1) ≡ true → numbers ≡ xs ++ d ∷ [] → numbers ≡ lowest_terms xs (unsigned_abs d)
lowest_by_whole xs numbers d g p e h n =
    let one : common xs (unsigned_abs d) ≡ 1 = ap unsigned_abs (ap (λ (w : Small). w.n) (sym e) ∙ (signed_Decides g.n (pos 1)).0 h) in
    lowest_by_one xs numbers d one (positive_abs d p).1 n

pub lowest_over_one : (xs numbers : List ℤ) (d : ℤ) → int_eq d (pos 1) ≡ true → numbers ≡ xs ++ d ∷ [] → numbers ≡ lowest_terms xs (unsigned_abs d)
lowest_over_one xs numbers d h n =
    let e : d ≡ pos 1 = (signed_Decides d (pos 1)).0 h in
    n ∙ ap (λ z. xs ++ z ∷ []) e ∙ sym (lowest-one xs) ∙ ap (λ z. lowest_terms xs (unsigned_abs z)) (sym e)

pub gcd_of_zero : (d : ℕ) → gcd 0 d ≡ d
gcd_of_zero d = let z : 0 % d ≡ 0 = omega arith in sym (gcd_step 0 d) ∙ gcd_zero d (0 % d) z

pub common-rational : (n : ℤ) (d : ℕ) → common (rational n) d ≡ gcd (unsigned_abs n) d
common-rational n d = ap (λ k. gcd (unsigned_abs n) (gcd 0 (gcd 0 k))) (gcd_of_zero d) ∙ ap (λ k. gcd (unsigned_abs n) (gcd 0 k)) (gcd_of_zero d) ∙ ap (gcd (unsigned_abs n)) (gcd_of_zero d)

pub zero_over : (g : ℕ) → 0 / g ≡ 0
zero_over g = omega arith

-- a fraction in lowest terms, by the quotients of its numbers
pub lowest-rational : (n d : ℤ) (g p q : Small) (s t : Whole) → is_positive d ≡ true → g ≡ record { n = pos (gcd (unsigned_abs n) (unsigned_abs d)) }
    → p ≡ record { n = quotient d (unsigned_abs g.n) } → s ≡ record { n = p.n } → q ≡ record { n = quotient n (unsigned_abs g.n) } → t ≡ record { n = q.n }
    → t.n ∷ pos 0 ∷ pos 0 ∷ pos 0 ∷ s.n ∷ [] ≡ lowest_terms (rational n) (unsigned_abs d)
lowest-rational n d g p q s t h e dp ds nq nt =
    let k = gcd (unsigned_abs n) (unsigned_abs d) in
    let ge : unsigned_abs g.n ≡ k = ap (λ (w : Small). unsigned_abs w.n) e in
    let sn : s.n ≡ quotient d k = ap (λ (w : Whole). w.n) ds ∙ ap (λ (w : Small). w.n) dp ∙ ap (quotient d) ge in
    let tn : t.n ≡ quotient n k = ap (λ (w : Whole). w.n) nt ∙ ap (λ (w : Small). w.n) nq ∙ ap (quotient n) ge in
    let up : quotient d k ≡ pos (unsigned_abs d / k) = ap (λ z. quotient z k) (positive_abs d h).1 in
    let zero : pos 0 ≡ pos (0 / k) = ap pos (sym (zero_over k)) in
    (λ i. tn i ∷ zero i ∷ zero i ∷ zero i ∷ (sn ∙ up) i ∷ []) ∙ ap (λ (g : ℕ). quotient n g ∷ pos (0 / g) ∷ pos (0 / g) ∷ pos (0 / g) ∷ pos (unsigned_abs d / g) ∷ []) (sym (common-rational n (unsigned_abs d)))

-- a rational number with narrow parts is narrow
pub rational_narrow : (s t : Whole) → is_wide s.n ≡ false → is_wide t.n ≡ false → IsNarrow4 (record { d = s; a0 = t; a1 = record { n = pos 0 }; a2 = record { n = pos 0 }; a3 = record { n = pos 0 } })
rational_narrow s t h k = let zero : is_wide (pos 0) ≡ false = below_wide (pos 0) (lit≤ tt) in record { narrow0 = k; narrow1 = zero; narrow2 = zero; narrow3 = zero; narrow = h }
