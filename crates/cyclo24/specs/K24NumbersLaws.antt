-- Whole numbers and fractions as values of Q(sqrt 2, sqrt 3).
--
-- whole_list: the whole number z is z, 0, 0, 0, 1
-- parts_of x d p: the exact value of four numerators over d; ratio24: n / d times d is n
use Rattle.std.proofs.Common.{◌≡◌, ◌<◌, ℕ, suc, sym, ap, ◌∙◌, subst, arith, rules, ℤ, pos, negsuc, List, [], ◌∷◌, true, false, lit≤}
use Rattle.std.specs.Prelude.{◌<ℤ◌, FitsSigned}
use Rattle.std.proofs.Common.{to_z, of_z}
use Rattle.std.specs.Int.{w64, w128}
use Rattle.std.specs.Int.RustNames.{unsigned_abs}
use Rattle.std.proofs.lemmas.Int.{ints, to_z-of_z}
use Rattle.cyclo24.specs.declared.whole.Whole.{Whole}
use Rattle.cyclo24.specs.declared.fraction4.Fraction4.{Fraction4}
use Rattle.cyclo24.specs.Gcd.{lowest_terms}
use Rattle.cyclo24.specs.Four.{Four, num4}
use Rattle.algebra.specs.Whole.{whole}
use Rattle.cyclo24.specs.FourNorm.{whole4, four, list4}
use Rattle.cyclo24.specs.FourNormLaws.{four_is}
use Rattle.cyclo24.specs.FractionLaws.{lower}
use Rattle.cyclo24.specs.Numerators.{content_of}
use Rattle.cyclo24.specs.CommonLaws.{content_of_is, lowest-one}
use Rattle.cyclo24.specs.Listed.{is_positive}
use Rattle.cyclo24.specs.ListedLaws.{listed, listed-lower, same_exact}
use Rattle.cyclo24.specs.ExactNumerals.{ones-is, neg_ones-is, quotient-is}
use Rattle.cyclo24.specs.FractionLaws.{one_positive}
use Rattle.cyclo24.specs.Numerals.{of_whole}
use Rattle.cyclo24.specs.Checked.{is_wide}
use Rattle.cyclo24.specs.CheckedLaws.{below_wide}
use Rattle.cyclo24.specs.Written4.{numbers4, numerators4, IsNarrow4}
use Rattle.cyclo24.specs.ExactK24.{Exact24, k24_laws}
use Rattle.cyclo24.specs.K24Laws.{IsLow, exact_of, made_low, made_value}
use Rattle.cyclo24.specs.K24Numbers.{whole_numbers, whole_fraction, Passed}

pub whole_list : (z : ℤ) → whole_numbers z ≡ (of_whole k24_laws z).0
whole_list (pos n) = sym (ones-is whole4 four four_is n)
whole_list (negsuc n) = sym (neg_ones-is whole4 four four_is (suc n))

pub whole_narrow : (w d : Whole) → is_wide w.n ≡ false → is_wide d.n ≡ false → IsNarrow4 (record { d = d; a0 = w; a1 = record { n = pos 0 }; a2 = record { n = pos 0 }; a3 = record { n = pos 0 } })
whole_narrow w d h k =
    let zero : is_wide (pos 0) ≡ false = below_wide (pos 0) (lit≤ tt) in
    record { narrow0 = h; narrow1 = zero; narrow2 = zero; narrow3 = zero; narrow = k }

pub one_narrow : is_wide (pos 1) ≡ false
one_narrow = below_wide (pos 1) (lit≤ tt)

pub whole_low : (w : Whole) (z : ℤ) → w ≡ record { n = z } → IsLow (whole_fraction w)
whole_low w z e = made_low (whole_fraction w) (of_whole k24_laws z) (ap (λ (v : Whole). numbers4 (whole_fraction v)) e ∙ whole_list z)

pub whole_value : (w : Whole) (z : ℤ) → w ≡ record { n = z } → (h : IsLow (whole_fraction w)) → exact_of (whole_fraction w) h ≡ of_whole k24_laws z
whole_value w z e h = made_value (whole_fraction w) (of_whole k24_laws z) (ap (λ (v : Whole). numbers4 (whole_fraction v)) e ∙ whole_list z) h

pub positive_whole : (d : ℤ) → pos 0 <ℤ d → is_positive d ≡ true
positive_whole (pos n) h = search (rules, ints)
positive_whole (negsuc n) h = absurd (omega (arith, ints))

-- the exact value (a0 + a1 r2 + a2 r3 + a3 r6) / d
pub parts_of : Four ℤ → (d : ℕ) → 0 < d → Exact24
parts_of x d p = (listed whole4 four four_is).to (lower whole4 (content_of four) (content_of_is whole4 four four_is) x d p)

pub parts_list : (x : Four ℤ) (d : ℕ) (p : 0 < d) → lowest_terms (list4 x) d ≡ (parts_of x d p).0
unfolding parts_of
parts_list x d p = sym (listed-lower whole4 four four_is x d p)

one_ratio : (n : ℤ) → (listed whole4 four four_is).to (lower whole4 (content_of four) (content_of_is whole4 four four_is) (num4 whole n) 1 (one_positive whole4 (content_of four) (content_of_is whole4 four four_is))) ≡ of_whole k24_laws n
one_ratio n =
    let p = one_positive whole4 (content_of four) (content_of_is whole4 four four_is) in
    same_exact ((listed whole4 four four_is).to (lower whole4 (content_of four) (content_of_is whole4 four four_is) (num4 whole n) 1 p)) (of_whole k24_laws n)
    (listed-lower whole4 four four_is (num4 whole n) 1 p ∙ lowest-one (n ∷ pos 0 ∷ pos 0 ∷ pos 0 ∷ []) ∙ whole_list n)

-- n / d times d is n
pub ratio24 : (n : ℤ) (d : ℕ) (p : 0 < d) → k24_laws.times (parts_of (num4 whole n) d p) (of_whole k24_laws (pos d)) ≡ of_whole k24_laws n
unfolding parts_of
ratio24 n d p = quotient-is whole4 four four_is (num4 whole n) d p ∙ one_ratio n

pub abs_above : (d : ℤ) → pos 0 <ℤ d → 0 < unsigned_abs d
abs_above d p = omega (arith, ints)

upright_whole : (d : ℤ) → pos 0 <ℤ d → pos (unsigned_abs d) ≡ d
upright_whole d p = omega (arith, ints)

-- numbers of 64 bits that a call passes on
passed : (w : Whole) (z : ℤ) → FitsSigned w64 z → w ≡ record { n = to_z w64 (of_z w64 z) } → w.n ≡ z
passed w z h e = ap (λ (x : Whole). x.n) e ∙ to_z-of_z w64 z h

pub parts_positive : (d : ℤ) (v : Whole) → Passed v d → pos 0 <ℤ d → is_positive v.n ≡ true
parts_positive d v h p = ap is_positive (passed v d h.0 h.1) ∙ positive_whole d p

-- what a call on numbers of 64 bits makes
pub parts_numbers : (a0 a1 a2 a3 d : ℤ) (r s : Fraction4) → Passed r.a0 a0 → Passed r.a1 a1 → Passed r.a2 a2 → Passed r.a3 a3 → Passed r.d d → (p : pos 0 <ℤ d)
    → numbers4 s ≡ lowest_terms (numerators4 r) (unsigned_abs r.d.n) → numbers4 s ≡ (parts_of (record { c0 = a0; c1 = a1; c2 = a2; c3 = a3 }) (unsigned_abs d) (abs_above d p)).0
parts_numbers a0 a1 a2 a3 d r s h0 h1 h2 h3 h p l =
    let e0 = passed r.a0 a0 h0.0 h0.1 in let e1 = passed r.a1 a1 h1.0 h1.1 in let e2 = passed r.a2 a2 h2.0 h2.1 in let e3 = passed r.a3 a3 h3.0 h3.1 in let e = passed r.d d h.0 h.1 in
    l ∙ (λ i. lowest_terms (e0 i ∷ e1 i ∷ e2 i ∷ e3 i ∷ []) (unsigned_abs (e i))) ∙ parts_list (record { c0 = a0; c1 = a1; c2 = a2; c3 = a3 }) (unsigned_abs d) (abs_above d p)

pub parts_listed : (a0 a1 a2 a3 d : ℤ) (p : pos 0 <ℤ d) → (parts_of (record { c0 = a0; c1 = a1; c2 = a2; c3 = a3 }) (unsigned_abs d) (abs_above d p)).0 ≡ lowest_terms (a0 ∷ a1 ∷ a2 ∷ a3 ∷ []) (unsigned_abs d)
parts_listed a0 a1 a2 a3 d p = sym (parts_list (record { c0 = a0; c1 = a1; c2 = a2; c3 = a3 }) (unsigned_abs d) (abs_above d p))

pub ratio_value : (n d : ℤ) (p : pos 0 <ℤ d) (x : Exact24) → x.0 ≡ lowest_terms (n ∷ pos 0 ∷ pos 0 ∷ pos 0 ∷ []) (unsigned_abs d) → k24_laws.times x (of_whole k24_laws d) ≡ of_whole k24_laws n
ratio_value n d p x e =
    let q = parts_of (num4 whole n) (unsigned_abs d) (abs_above d p) in
    ap (λ y. k24_laws.times y (of_whole k24_laws d)) (same_exact x q (e ∙ parts_list (num4 whole n) (unsigned_abs d) (abs_above d p)))
    ∙ ap (λ z. k24_laws.times q (of_whole k24_laws z)) (sym (upright_whole d p))
    ∙ ratio24 n (unsigned_abs d) (abs_above d p)

pub passed_list : (n d : ℤ) (xs : List ℤ) → FitsSigned w64 n → FitsSigned w64 d → xs ≡ lowest_terms (to_z w64 (of_z w64 n) ∷ pos 0 ∷ pos 0 ∷ pos 0 ∷ []) (unsigned_abs (to_z w64 (of_z w64 d))) → xs ≡ lowest_terms (n ∷ pos 0 ∷ pos 0 ∷ pos 0 ∷ []) (unsigned_abs d)
passed_list n d xs h k e = e ∙ (λ i. lowest_terms (to_z-of_z w64 n h i ∷ pos 0 ∷ pos 0 ∷ pos 0 ∷ []) (unsigned_abs (to_z-of_z w64 d k i)))

pub passed_positive : (d : ℤ) → FitsSigned w64 d → pos 0 <ℤ d → pos 0 <ℤ to_z w64 (of_z w64 d)
passed_positive d h p = subst (λ z. pos 0 <ℤ z) (sym (to_z-of_z w64 d h)) p

-- whole numbers that a call passes on
pub passed_whole : (w : Whole) (z : ℤ) → FitsSigned w128 z → w ≡ record { n = to_z w128 (of_z w128 z) } → w ≡ record { n = z }
passed_whole w z h e = let over : ℤ → Whole = λ y. record { n = y } in e ∙ ap over (to_z-of_z w128 z h)
