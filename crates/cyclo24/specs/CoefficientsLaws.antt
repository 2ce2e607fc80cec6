-- That values are made of the numbers of their lists, and operations are the written formulas.
--
-- coefficients24, coefficients_z24: a value times its denominator
-- sum_formula, product_formula, negative_formula, inverse_formula: the operations of Q(sqrt 2, sqrt 3)
-- sum_formula8, product_formula8, negative_formula8: those of the 24th cyclotomic field
-- conj-power: the conjugate of a power
use Rattle.std.proofs.Common.{◌≡◌, ◌+◌, ◌*◌, ◌-◌, ◌%◌, ℕ, zero, suc, refl, sym, ap, ◌∙◌, arith, ℤ, pos, ◌*ℤ◌, List, [], ◌∷◌, ◌++◌, length, get_or, false}
use Rattle.std.specs.Int.RustNames.{unsigned_abs}
use Rattle.std.proofs.lemmas.Int.{ints}
use Rattle.algebra.specs.Ring.{Ops}
use Rattle.cyclo24.specs.ExactField.{Exact}
use Rattle.cyclo24.specs.Gcd.{lowest_terms}
use Rattle.cyclo24.specs.Numerators.{Numerators, IsNumerators}
use Rattle.cyclo24.specs.CommonLaws.{over_one, lowest-one}
use Rattle.cyclo24.specs.Listed.{numerators, denominator, is_exact}
use Rattle.cyclo24.specs.ListedLaws.{exact_laws, exact_is, same_exact, join-last, length-front}
use Rattle.cyclo24.specs.ExactMapsLaws.{exact_member, exact_member-is, exact_member-low, exact_member-plus, exact_member-times, exact_map-member}
use Rattle.algebra.specs.Whole.{whole}
use Rattle.algebra.specs.WholeLaws.{whole_ring}
use Rattle.cyclo24.specs.Four.{Four, add4, mul4, num4}
use Rattle.cyclo24.specs.FourLaws.{scaled, same4}
use Rattle.cyclo24.specs.FourNorm.{whole4, four}
use Rattle.cyclo24.specs.FourNormLaws.{four_is}
use Rattle.cyclo24.specs.Eight.{Eight, add8, mul8, num8}
use Rattle.cyclo24.specs.EightParts.{conj8, z8}
use Rattle.cyclo24.specs.EightLaws.{scaled8, same8}
use Rattle.cyclo24.specs.EightNorm.{whole8, eight}
use Rattle.cyclo24.specs.EightNormLaws.{eight_is, above0}
use Rattle.cyclo24.specs.Numerals.{of_whole}
use Rattle.cyclo24.specs.Sums.{total}
use Rattle.cyclo24.specs.ExactK24.{Exact24, k24_laws}
use Rattle.cyclo24.specs.ExactZ24.{ExactZ24, z24_laws, root_of_unity, power, conj}
use Rattle.cyclo24.specs.RootsK24.{r2, r3, r6}
use Rattle.cyclo24.specs.Written4.{fraction_of, numbers4, sum, product, negated}
use Rattle.cyclo24.specs.Written4Inverse.{inverse, upright}
use Rattle.cyclo24.specs.Written8 as Eights
use Rattle.cyclo24.specs.Written8Products as EightProducts
use Rattle.cyclo24.specs.Written8.{fraction8_of, numbers8}
use Rattle.cyclo24.specs.K24Laws.{IsLow, exact_of, made_low, made_value, product24, sum24, inverse24, neg_parts}
use Rattle.cyclo24.specs.K24NumbersLaws.{whole_list}
use Rattle.cyclo24.specs.SmallNumbersLaws.{whole_list8}
use Rattle.cyclo24.specs.Z24Calls.{IsLow8, exact_of8}
use Rattle.cyclo24.specs.Z24CallsLaws.{made_low8, made_value8, product_z24, sum_z24, negated_z24}
use Rattle.cyclo24.specs.Z24Roots.{member, power8, four2, four3, four6}
use Rattle.cyclo24.specs.Z24RootsLaws.{power_is, power-plus, power-mod, r2_member, r3_member, r6_member}
use Rattle.cyclo24.specs.Z24Laws.{conj-times, conj-unit, conj_linear}
use Rattle.cyclo24.specs.Coefficients.{in_roots, in_powers, numerator24, reduced4, reduced8}

module _ {R : Type 0} (o : Ops R) (m : Numerators o) (h : IsNumerators o m) where
  -- a value times its denominator is its numerators
  times-low : (x : Exact (is_exact m.count)) → (exact_laws o m h).times (exact_member o m h (o.num (unsigned_abs (denominator m.count x.0)))) x ≡ exact_member o m h (m.member (numerators m.count x.0))
  times-low x =
      let e = exact_is m.count x.0 x.1 in
      let d = unsigned_abs (denominator m.count x.0) in
      let n = numerators m.count x.0 in
      let l : x.0 ≡ lowest_terms n d = sym (join-last m.count x.0 e.size) ∙ ap (λ z. n ++ z ∷ []) e.upright ∙ sym (over_one n d e.lowest) in
      let f : m.list (m.member n) ≡ n = h.list-member n (length-front m.count x.0 e.size) in
      exact_member-low o m h (m.member n) d e.positive x (l ∙ ap (λ xs. lowest_terms xs d) (sym f))

-- Q(sqrt 2, sqrt 3)

whole24 : (z : ℤ) → of_whole k24_laws z ≡ exact_member whole4 four four_is (num4 whole z)
whole24 z = same_exact (of_whole k24_laws z) (exact_member whole4 four four_is (num4 whole z)) (sym (whole_list z) ∙ sym (exact_member-is whole4 four four_is (num4 whole z) ∙ lowest-one (z ∷ pos 0 ∷ pos 0 ∷ pos 0 ∷ [])))

front4 : (xs : List ℤ) → length xs ≡ 5 → four.member (numerators 4 xs) ≡ record { c0 = get_or xs 0 (pos 0); c1 = get_or xs 1 (pos 0); c2 = get_or xs 2 (pos 0); c3 = get_or xs 3 (pos 0) }
front4 (x0 ∷ x1 ∷ x2 ∷ x3 ∷ x4 ∷ []) p = refl
front4 [] p = absurd (omega arith)
front4 (x0 ∷ []) p = absurd (omega arith)
front4 (x0 ∷ x1 ∷ []) p = absurd (omega arith)
front4 (x0 ∷ x1 ∷ x2 ∷ []) p = absurd (omega arith)
front4 (x0 ∷ x1 ∷ x2 ∷ x3 ∷ []) p = absurd (omega arith)
front4 (x0 ∷ x1 ∷ x2 ∷ x3 ∷ x4 ∷ x5 ∷ xs) p = absurd (omega arith)

abbrev times4 : ℤ → Four ℤ → Four ℤ
times4 n x = record { c0 = n *ℤ x.c0; c1 = n *ℤ x.c1; c2 = n *ℤ x.c2; c3 = n *ℤ x.c3 }

in_four : (a b c d : ℤ) → add4 whole (add4 whole (add4 whole (num4 whole a) (mul4 whole (num4 whole b) four2)) (mul4 whole (num4 whole c) four3)) (mul4 whole (num4 whole d) four6) ≡ record { c0 = a; c1 = b; c2 = c; c3 = d }
in_four a b c d =
    (λ i. add4 whole (add4 whole (add4 whole (num4 whole a) (scaled whole whole_ring b four2 i)) (scaled whole whole_ring c four3 i)) (scaled whole whole_ring d four6 i))
    ∙ same4 (add4 whole (add4 whole (add4 whole (num4 whole a) (times4 b four2)) (times4 c four3)) (times4 d four6)) (record { c0 = a; c1 = b; c2 = c; c3 = d }) (omega (arith, ints)) (omega (arith, ints)) (omega (arith, ints)) (omega (arith, ints))

pub coefficients24 : (x : Exact24) → k24_laws.times (of_whole k24_laws (denominator 4 x.0)) x ≡ in_roots x
coefficients24 x =
    let e = exact_is 4 x.0 x.1 in
    let a = get_or x.0 0 (pos 0) in let b = get_or x.0 1 (pos 0) in let c = get_or x.0 2 (pos 0) in let d = get_or x.0 3 (pos 0) in
    let t = exact_member-times whole4 four four_is in let p = exact_member-plus whole4 four four_is in
    let one : k24_laws.times (numerator24 x 1) r2 ≡ exact_member whole4 four four_is (mul4 whole (num4 whole b) four2) = (λ i. k24_laws.times (whole24 b i) (r2_member i)) ∙ t (num4 whole b) four2 in
    let two : k24_laws.times (numerator24 x 2) r3 ≡ exact_member whole4 four four_is (mul4 whole (num4 whole c) four3) = (λ i. k24_laws.times (whole24 c i) (r3_member i)) ∙ t (num4 whole c) four3 in
    let three : k24_laws.times (numerator24 x 3) r6 ≡ exact_member whole4 four four_is (mul4 whole (num4 whole d) four6) = (λ i. k24_laws.times (whole24 d i) (r6_member i)) ∙ t (num4 whole d) four6 in
    let s1 = (λ i. k24_laws.plus (whole24 a i) (one i)) ∙ p (num4 whole a) (mul4 whole (num4 whole b) four2) in
    let s2 = (λ i. k24_laws.plus (s1 i) (two i)) ∙ p (add4 whole (num4 whole a) (mul4 whole (num4 whole b) four2)) (mul4 whole (num4 whole c) four3) in
    let s3 = (λ i. k24_laws.plus (s2 i) (three i)) ∙ p (add4 whole (add4 whole (num4 whole a) (mul4 whole (num4 whole b) four2)) (mul4 whole (num4 whole c) four3)) (mul4 whole (num4 whole d) four6) in
    ap (λ z. k24_laws.times z x) (ap (of_whole k24_laws) e.upright ∙ whole24 (pos (unsigned_abs (denominator 4 x.0))))
    ∙ times-low whole4 four four_is x
    ∙ ap (exact_member whole4 four four_is) (front4 x.0 e.size ∙ sym (in_four a b c d)) ∙ sym s3

five : (xs : List ℤ) → length xs ≡ 5 → numbers4 (fraction_of xs) ≡ xs
five (x0 ∷ x1 ∷ x2 ∷ x3 ∷ x4 ∷ []) p = refl
five [] p = absurd (omega arith)
five (x0 ∷ []) p = absurd (omega arith)
five (x0 ∷ x1 ∷ []) p = absurd (omega arith)
five (x0 ∷ x1 ∷ x2 ∷ []) p = absurd (omega arith)
five (x0 ∷ x1 ∷ x2 ∷ x3 ∷ []) p = absurd (omega arith)
five (x0 ∷ x1 ∷ x2 ∷ x3 ∷ x4 ∷ x5 ∷ xs) p = absurd (omega arith)

low24 : (x : Exact24) → IsLow (fraction_of x.0)
low24 x = made_low (fraction_of x.0) x (five x.0 (exact_is 4 x.0 x.1).size)

same24 : (x : Exact24) → exact_of (fraction_of x.0) (low24 x) ≡ x
same24 x = made_value (fraction_of x.0) x (five x.0 (exact_is 4 x.0 x.1).size) (low24 x)

pub product_formula : (x y : Exact24) → (k24_laws.times x y).0 ≡ reduced4 (product (fraction_of x.0) (fraction_of y.0)).value
product_formula x y =
    let a = fraction_of x.0 in let b = fraction_of y.0 in let v = (product a b).value in
    sym (product24 a b v (fraction_of (reduced4 v)) (low24 x) (low24 y) refl refl ∙ (λ i. (k24_laws.times (same24 x i) (same24 y i)).0))

pub sum_formula : (x y : Exact24) → (k24_laws.plus x y).0 ≡ reduced4 (sum (record { n = pos 1 }) (fraction_of x.0) (fraction_of y.0)).value
sum_formula x y =
    let a = fraction_of x.0 in let b = fraction_of y.0 in let v = (sum (record { n = pos 1 }) a b).value in
    sym (sum24 a b v (fraction_of (reduced4 v)) (low24 x) (low24 y) refl refl ∙ (λ i. (k24_laws.plus (same24 x i) (same24 y i)).0))

pub negative_formula : (x : Exact24) → (k24_laws.neg x).0 ≡ numbers4 (negated (fraction_of x.0))
negative_formula x = (λ i. (k24_laws.neg (sym (same24 x) i)).0) ∙ neg_parts (fraction_of x.0) (low24 x)

pub inverse_formula : (x : Exact24) → k24_laws.is_nought x ≡ false → (k24_laws.inverse x).0 ≡ reduced4 (upright (inverse (fraction_of x.0)).value)
inverse_formula x z =
    let a = fraction_of x.0 in let v = (inverse a).value in
    sym (inverse24 a v (upright v) (fraction_of (reduced4 (upright v))) (low24 x) (ap k24_laws.is_nought (same24 x) ∙ z) refl refl refl ∙ (λ i. (k24_laws.inverse (same24 x i)).0))

-- the 24th cyclotomic field

whole_z24 : (z : ℤ) → of_whole z24_laws z ≡ member (num8 whole z)
whole_z24 z = same_exact (of_whole z24_laws z) (member (num8 whole z)) (sym (whole_list8 z) ∙ sym (exact_member-is whole8 eight eight_is (num8 whole z) ∙ lowest-one (z ∷ pos 0 ∷ pos 0 ∷ pos 0 ∷ pos 0 ∷ pos 0 ∷ pos 0 ∷ pos 0 ∷ [])))

abbrev sum8 : ℕ → (ℕ → Eight ℤ) → Eight ℤ
sum8 zero g = num8 whole (pos 0)
sum8 (suc n) g = add8 whole (sum8 n g) (g n)

total-member : (n : ℕ) (f : ℕ → ExactZ24) (g : ℕ → Eight ℤ) → ((j : ℕ) → f j ≡ member (g j)) → total z24_laws n f ≡ member (sum8 n g)
total-member zero f g e = whole_z24 (pos 0)
total-member (suc n) f g e = (λ i. z24_laws.plus (total-member n f g e i) (e n i)) ∙ exact_member-plus whole8 eight eight_is (sum8 n g) (g n)

abbrev times8 : ℤ → Eight ℤ → Eight ℤ
times8 n x = record { c0 = n *ℤ x.c0; c1 = n *ℤ x.c1; c2 = n *ℤ x.c2; c3 = n *ℤ x.c3; c4 = n *ℤ x.c4; c5 = n *ℤ x.c5; c6 = n *ℤ x.c6; c7 = n *ℤ x.c7 }

abbrev one0 : Eight ℤ
one0 = record { c0 = pos 1; c1 = pos 0; c2 = pos 0; c3 = pos 0; c4 = pos 0; c5 = pos 0; c6 = pos 0; c7 = pos 0 }

unit0 : power8 0 ≡ one0
unfolding mul8
unit0 = refl

abbrev one1 : Eight ℤ
one1 = record { c0 = pos 0; c1 = pos 1; c2 = pos 0; c3 = pos 0; c4 = pos 0; c5 = pos 0; c6 = pos 0; c7 = pos 0 }

unit1 : power8 1 ≡ one1
unfolding mul8
unit1 = refl

abbrev one2 : Eight ℤ
one2 = record { c0 = pos 0; c1 = pos 0; c2 = pos 1; c3 = pos 0; c4 = pos 0; c5 = pos 0; c6 = pos 0; c7 = pos 0 }

unit2 : power8 2 ≡ one2
unfolding mul8
unit2 = refl

abbrev one3 : Eight ℤ
one3 = record { c0 = pos 0; c1 = pos 0; c2 = pos 0; c3 = pos 1; c4 = pos 0; c5 = pos 0; c6 = pos 0; c7 = pos 0 }

unit3 : power8 3 ≡ one3
unfolding mul8
unit3 = refl

abbrev one4 : Eight ℤ
one4 = record { c0 = pos 0; c1 = pos 0; c2 = pos 0; c3 = pos 0; c4 = pos 1; c5 = pos 0; c6 = pos 0; c7 = pos 0 }

unit4 : power8 4 ≡ one4
unfolding mul8
unit4 = refl

abbrev one5 : Eight ℤ
one5 = record { c0 = pos 0; c1 = pos 0; c2 = pos 0; c3 = pos 0; c4 = pos 0; c5 = pos 1; c6 = pos 0; c7 = pos 0 }

unit5 : power8 5 ≡ one5
unfolding mul8
unit5 = refl

abbrev one6 : Eight ℤ
one6 = record { c0 = pos 0; c1 = pos 0; c2 = pos 0; c3 = pos 0; c4 = pos 0; c5 = pos 0; c6 = pos 1; c7 = pos 0 }

unit6 : power8 6 ≡ one6
unfolding mul8
unit6 = refl

abbrev one7 : Eight ℤ
one7 = record { c0 = pos 0; c1 = pos 0; c2 = pos 0; c3 = pos 0; c4 = pos 0; c5 = pos 0; c6 = pos 0; c7 = pos 1 }

unit7 : power8 7 ≡ one7
unfolding mul8
unit7 = refl

in_eight : (g : ℕ → ℤ) → sum8 8 (λ j. times8 (g j) (power8 j)) ≡ record { c0 = g 0; c1 = g 1; c2 = g 2; c3 = g 3; c4 = g 4; c5 = g 5; c6 = g 6; c7 = g 7 }
in_eight g =
    (λ i. add8 whole (add8 whole (add8 whole (add8 whole (add8 whole (add8 whole (add8 whole (add8 whole (num8 whole (pos 0)) (times8 (g 0) (unit0 i))) (times8 (g 1) (unit1 i))) (times8 (g 2) (unit2 i))) (times8 (g 3) (unit3 i))) (times8 (g 4) (unit4 i))) (times8 (g 5) (unit5 i))) (times8 (g 6) (unit6 i))) (times8 (g 7) (unit7 i)))
    ∙ lists (g 0) (g 1) (g 2) (g 3) (g 4) (g 5) (g 6) (g 7)
  where
    lists : (a b c d e f k l : ℤ) → add8 whole (add8 whole (add8 whole (add8 whole (add8 whole (add8 whole (add8 whole (add8 whole (num8 whole (pos 0)) (times8 a one0)) (times8 b one1)) (times8 c one2)) (times8 d one3)) (times8 e one4)) (times8 f one5)) (times8 k one6)) (times8 l one7)
        ≡ record { c0 = a; c1 = b; c2 = c; c3 = d; c4 = e; c5 = f; c6 = k; c7 = l }
    lists a b c d e f k l = same8 _ _ (omega (arith, ints)) (omega (arith, ints)) (omega (arith, ints)) (omega (arith, ints)) (omega (arith, ints)) (omega (arith, ints)) (omega (arith, ints)) (omega (arith, ints))

front8 : (xs : List ℤ) → length xs ≡ 9 → eight.member (numerators 8 xs) ≡ record { c0 = get_or xs 0 (pos 0); c1 = get_or xs 1 (pos 0); c2 = get_or xs 2 (pos 0); c3 = get_or xs 3 (pos 0); c4 = get_or xs 4 (pos 0); c5 = get_or xs 5 (pos 0); c6 = get_or xs 6 (pos 0); c7 = get_or xs 7 (pos 0) }
front8 (x0 ∷ x1 ∷ x2 ∷ x3 ∷ x4 ∷ x5 ∷ x6 ∷ x7 ∷ x8 ∷ []) p = refl
front8 [] p = absurd (omega arith)
front8 (x0 ∷ []) p = absurd (omega arith)
front8 (x0 ∷ x1 ∷ []) p = absurd (omega arith)
front8 (x0 ∷ x1 ∷ x2 ∷ []) p = absurd (omega arith)
front8 (x0 ∷ x1 ∷ x2 ∷ x3 ∷ []) p = absurd (omega arith)
front8 (x0 ∷ x1 ∷ x2 ∷ x3 ∷ x4 ∷ []) p = absurd (omega arith)
front8 (x0 ∷ x1 ∷ x2 ∷ x3 ∷ x4 ∷ x5 ∷ []) p = absurd (omega arith)
front8 (x0 ∷ x1 ∷ x2 ∷ x3 ∷ x4 ∷ x5 ∷ x6 ∷ []) p = absurd (omega arith)
front8 (x0 ∷ x1 ∷ x2 ∷ x3 ∷ x4 ∷ x5 ∷ x6 ∷ x7 ∷ []) p = absurd (omega arith)
front8 (x0 ∷ x1 ∷ x2 ∷ x3 ∷ x4 ∷ x5 ∷ x6 ∷ x7 ∷ x8 ∷ x9 ∷ xs) p = absurd (omega arith)

pub coefficients_z24 : (x : ExactZ24) → z24_laws.times (of_whole z24_laws (denominator 8 x.0)) x ≡ in_powers x
coefficients_z24 x =
    let e = exact_is 8 x.0 x.1 in
    let g : ℕ → ℤ = λ j. get_or x.0 j (pos 0) in
    let t : (j : ℕ) → z24_laws.times (of_whole z24_laws (g j)) (power j) ≡ member (times8 (g j) (power8 j)) =
    λ j. (λ i. z24_laws.times (whole_z24 (g j) i) (power_is j i)) ∙ exact_member-times whole8 eight eight_is (num8 whole (g j)) (power8 j) ∙ ap member (scaled8 whole whole_ring (g j) (power8 j)) in
    ap (λ z. z24_laws.times z x) (ap (of_whole z24_laws) e.upright ∙ whole_z24 (pos (unsigned_abs (denominator 8 x.0))))
    ∙ times-low whole8 eight eight_is x
    ∙ ap member (front8 x.0 e.size ∙ sym (in_eight g)) ∙ sym (total-member 8 (λ j. z24_laws.times (of_whole z24_laws (g j)) (power j)) (λ j. times8 (g j) (power8 j)) t)

nine : (xs : List ℤ) → length xs ≡ 9 → numbers8 (fraction8_of xs) ≡ xs
nine (x0 ∷ x1 ∷ x2 ∷ x3 ∷ x4 ∷ x5 ∷ x6 ∷ x7 ∷ x8 ∷ []) p = refl
nine [] p = absurd (omega arith)
nine (x0 ∷ []) p = absurd (omega arith)
nine (x0 ∷ x1 ∷ []) p = absurd (omega arith)
nine (x0 ∷ x1 ∷ x2 ∷ []) p = absurd (omega arith)
nine (x0 ∷ x1 ∷ x2 ∷ x3 ∷ []) p = absurd (omega arith)
nine (x0 ∷ x1 ∷ x2 ∷ x3 ∷ x4 ∷ []) p = absurd (omega arith)
nine (x0 ∷ x1 ∷ x2 ∷ x3 ∷ x4 ∷ x5 ∷ []) p = absurd (omega arith)
nine (x0 ∷ x1 ∷ x2 ∷ x3 ∷ x4 ∷ x5 ∷ x6 ∷ []) p = absurd (omega arith)
nine (x0 ∷ x1 ∷ x2 ∷ x3 ∷ x4 ∷ x5 ∷ x6 ∷ x7 ∷ []) p = absurd (omega arith)
nine (x0 ∷ x1 ∷ x2 ∷ x3 ∷ x4 ∷ x5 ∷ x6 ∷ x7 ∷ x8 ∷ x9 ∷ xs) p = absurd (omega arith)

low_z24 : (x : ExactZ24) → IsLow8 (fraction8_of x.0)
low_z24 x = made_low8 (fraction8_of x.0) x (nine x.0 (exact_is 8 x.0 x.1).size)

same_z24 : (x : ExactZ24) → exact_of8 (fraction8_of x.0) (low_z24 x) ≡ x
same_z24 x = made_value8 (fraction8_of x.0) x (nine x.0 (exact_is 8 x.0 x.1).size) (low_z24 x)

pub product_formula8 : (x y : ExactZ24) → (z24_laws.times x y).0 ≡ reduced8 (EightProducts.product (fraction8_of x.0) (fraction8_of y.0)).value
product_formula8 x y =
    let a = fraction8_of x.0 in let b = fraction8_of y.0 in let v = (EightProducts.product a b).value in
    sym (product_z24 a b v (fraction8_of (reduced8 v)) (low_z24 x) (low_z24 y) refl refl ∙ (λ i. (z24_laws.times (same_z24 x i) (same_z24 y i)).0))

pub sum_formula8 : (x y : ExactZ24) → (z24_laws.plus x y).0 ≡ reduced8 (Eights.sum (fraction8_of x.0) (fraction8_of y.0)).value
sum_formula8 x y =
    let a = fraction8_of x.0 in let b = fraction8_of y.0 in let v = (Eights.sum a b).value in
    sym (sum_z24 a b v (fraction8_of (reduced8 v)) (low_z24 x) (low_z24 y) refl refl ∙ (λ i. (z24_laws.plus (same_z24 x i) (same_z24 y i)).0))

pub negative_formula8 : (x : ExactZ24) → (z24_laws.neg x).0 ≡ numbers8 (Eights.negated (fraction8_of x.0))
negative_formula8 x = (λ i. (z24_laws.neg (sym (same_z24 x) i)).0) ∙ sym (negated_z24 (fraction8_of x.0) (Eights.negated (fraction8_of x.0)) (low_z24 x) refl)

-- conjugates of powers

conj8-root : conj8 whole (z8 whole) ≡ power8 23
unfolding conj8 mul8
conj8-root = refl

conj-root : conj root_of_unity ≡ power 23
unfolding conj root_of_unity
conj-root = exact_map-member whole8 eight eight_is whole8 eight eight_is (conj8 whole) above0 conj_linear (z8 whole) ∙ ap member conj8-root ∙ sym (power_is 23)

conj-powers : (n : ℕ) → conj (power n) ≡ power (23 * n)
conj-powers zero = conj-unit
conj-powers (suc n) = let e : 23 + 23 * n ≡ 23 * suc n = omega arith in conj-times root_of_unity (power n) ∙ (λ i. z24_laws.times (conj-root i) (conj-powers n i)) ∙ sym (power-plus 23 (23 * n)) ∙ ap power e

negative_mod : (n : ℕ) → (23 * n) % 24 ≡ (24 - n % 24) % 24
negative_mod n = omega arith

pub conj-power : (n : ℕ) → conj (power n) ≡ power ((24 - n % 24) % 24)
conj-power n = conj-powers n ∙ sym (power-mod (23 * n)) ∙ ap power (negative_mod n)
