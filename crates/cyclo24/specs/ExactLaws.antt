-- What the operations of a field of exact lists give, as lists.
--
-- low n x: the denominator of an exact value as a number
-- plus-is, neg-is, times-is, inverse-is: the operations as lists in lowest terms
use Rattle.std.proofs.Common.{◌≡◌, ℕ, zero, suc, ◌*◌, ◌/◌, ◌<◌, refl, sym, ap, ◌∙◌, subst, arith, ℤ, pos, ◌+ℤ◌, ◌*ℤ◌, neg_ℤ, List, [], ◌∷◌, ◌++◌, map}
use Rattle.std.specs.Int.RustNames.{unsigned_abs}
use Rattle.std.proofs.Math.Nat.{mul-div_cancel'}
use Rattle.std.proofs.lemmas.Int.{ints}
use Rattle.algebra.specs.Ring.{Ops}
use Rattle.cyclo24.specs.ExactField.{Exact}
use Rattle.cyclo24.specs.Gcd.{gcd, common, lowest_terms}
use Rattle.cyclo24.specs.GcdLaws.{gcd_is}
use Rattle.cyclo24.specs.Fraction.{Fraction}
use Rattle.cyclo24.specs.FractionLaws.{sum_over, mul_positive, inverse_over, one_positive, above_zero}
use Rattle.cyclo24.specs.Numerators.{Numerators, IsNumerators, content_of, zip_with}
use Rattle.cyclo24.specs.CommonLaws.{content_of_is, over_one}
use Rattle.cyclo24.specs.Listed.{numerators, denominator, is_exact}
use Rattle.cyclo24.specs.ListedLaws.{listed, from-top, from-low, exact_laws, listed-lower, exact_is, length-front}

-- the denominator as a number
abbrev pub low : (n : ℕ) → List ℤ → ℕ
low n x = unsigned_abs (denominator n x)

zip-maps : (f g : ℤ → ℤ) (xs ys : List ℤ) → zip_with ◌+ℤ◌ (map f xs) (map g ys) ≡ zip_with (λ x y. f x +ℤ g y) xs ys
zip-maps f g [] ys = refl
zip-maps f g (x ∷ xs) [] = refl
zip-maps f g (x ∷ xs) (y ∷ ys) = ap (λ zs. (f x +ℤ g y) ∷ zs) (zip-maps f g xs ys)

negated-common : (xs : List ℤ) (d : ℕ) → common (map neg_ℤ xs) d ≡ common xs d
negated-common [] d = refl
negated-common (x ∷ xs) d =
    let e : unsigned_abs (neg_ℤ x) ≡ unsigned_abs x = omega (arith, ints) in
    (λ i. gcd (e i) (negated-common xs d i))

module _ {R : Type 0} (o : Ops R) (m : Numerators o) (h : IsNumerators o m) where
  front : (x : Exact (is_exact m.count)) → m.list (m.member (numerators m.count x.0)) ≡ numerators m.count x.0
  front x = h.list-member (numerators m.count x.0) (length-front m.count x.0 (exact_is m.count x.0 x.1).size)

  from_list : (x : Exact (is_exact m.count)) → m.list ((listed o m h).from x).top ≡ numerators m.count x.0
  from_list x = ap m.list (from-top o m h x) ∙ front x

  -- x / d + y / e over d (e / g), with g the greatest common divisor of d and e
  pub plus-is : (x y : Exact (is_exact m.count)) → let d = low m.count x.0 in let e = low m.count y.0 in
      ((exact_laws o m h).plus x y).0 ≡ lowest_terms (zip_with (λ a b. pos (e / gcd d e) *ℤ a +ℤ pos (d / gcd d e) *ℤ b) (numerators m.count x.0) (numerators m.count y.0)) (d * (e / gcd d e))
  plus-is x y =
      let f = (listed o m h).from x in
      let k = (listed o m h).from y in
      let d = f.low in let e = k.low in
      let g = gcd d e in
      let dp : d ≡ g * (d / g) = sym (mul-div_cancel' g (gcd_is d e).0) in
      let eq : e ≡ g * (e / g) = sym (mul-div_cancel' g (gcd_is d e).1) in
      let positive : 0 < d * (e / g) = mul_positive o (content_of m) (content_of_is o m h) d (e / g) f.positive (positive_part g (e / g) e k.positive (sym eq)) in
      let top : m.list (o.add (o.mul (o.num (e / g)) f.top) (o.mul (o.num (d / g)) k.top)) ≡ zip_with (λ a b. pos (e / g) *ℤ a +ℤ pos (d / g) *ℤ b) (numerators m.count x.0) (numerators m.count y.0) =
      h.added (o.mul (o.num (e / g)) f.top) (o.mul (o.num (d / g)) k.top)
      ∙ (λ i. zip_with ◌+ℤ◌ (h.scaled (e / g) f.top i) (h.scaled (d / g) k.top i))
      ∙ (λ i. zip_with ◌+ℤ◌ (map (λ z. pos (e / g) *ℤ z) (from_list x i)) (map (λ z. pos (d / g) *ℤ z) (from_list y i)))
      ∙ zip-maps (λ z. pos (e / g) *ℤ z) (λ z. pos (d / g) *ℤ z) (numerators m.count x.0) (numerators m.count y.0) in
      ap (λ s. ((listed o m h).to s).0) (sym (sum_over o (content_of m) (content_of_is o m h) f k g (d / g) (e / g) positive dp eq))
      ∙ listed-lower o m h (o.add (o.mul (o.num (e / g)) f.top) (o.mul (o.num (d / g)) k.top)) (d * (e / g)) positive
      ∙ ap (λ xs. lowest_terms xs (d * (e / g))) top
      ∙ by_lows d e (low m.count x.0) (low m.count y.0) (from-low o m h x) (from-low o m h y)
    where
      positive_part : (g q d : ℕ) → 0 < d → g * q ≡ d → 0 < q
      positive_part g zero d p e = absurd (omega arith)
      positive_part g (suc q) d p e = omega arith

      by_lows : (d e d' e' : ℕ) → d ≡ d' → e ≡ e'
          → lowest_terms (zip_with (λ a b. pos (e / gcd d e) *ℤ a +ℤ pos (d / gcd d e) *ℤ b) (numerators m.count x.0) (numerators m.count y.0)) (d * (e / gcd d e))
          ≡ lowest_terms (zip_with (λ a b. pos (e' / gcd d' e') *ℤ a +ℤ pos (d' / gcd d' e') *ℤ b) (numerators m.count x.0) (numerators m.count y.0)) (d' * (e' / gcd d' e'))
      by_lows d e d' e' p q = λ i. lowest_terms (zip_with (λ a b. pos (q i / gcd (p i) (q i)) *ℤ a +ℤ pos (p i / gcd (p i) (q i)) *ℤ b) (numerators m.count x.0) (numerators m.count y.0)) (p i * (q i / gcd (p i) (q i)))

  pub neg-is : (x : Exact (is_exact m.count)) → ((exact_laws o m h).neg x).0 ≡ lowest_terms (map neg_ℤ (numerators m.count x.0)) (low m.count x.0)
  neg-is x =
      let f = (listed o m h).from x in
      listed-lower o m h (o.neg f.top) f.low f.positive
      ∙ ap (λ xs. lowest_terms xs f.low) (h.negated f.top ∙ ap (map neg_ℤ) (from_list x))
      ∙ ap (λ d. lowest_terms (map neg_ℤ (numerators m.count x.0)) d) (from-low o m h x)

  -- x y / (d e)
  pub times-is : (x y : Exact (is_exact m.count))
      → ((exact_laws o m h).times x y).0 ≡ lowest_terms (m.list (o.mul (m.member (numerators m.count x.0)) (m.member (numerators m.count y.0)))) (low m.count x.0 * low m.count y.0)
  times-is x y =
      let f = (listed o m h).from x in
      let k = (listed o m h).from y in
      listed-lower o m h (o.mul f.top k.top) (f.low * k.low) (mul_positive o (content_of m) (content_of_is o m h) f.low k.low f.positive k.positive)
      ∙ (λ i. lowest_terms (m.list (o.mul (from-top o m h x i) (from-top o m h y i))) (from-low o m h x i * from-low o m h y i))

  -- d times the cofactor of x, over the size of x
  pub inverse-is : (x : Exact (is_exact m.count)) → let t = m.member (numerators m.count x.0) in
      0 < m.size t → ((exact_laws o m h).inverse x).0 ≡ lowest_terms (m.list (o.mul (o.num (low m.count x.0)) (m.cofactor t))) (m.size t)
  inverse-is x p =
      let f = (listed o m h).from x in
      let t = m.member (numerators m.count x.0) in
      let e : f.top ≡ t = from-top o m h x in
      over f (m.size f.top) (subst (λ y. 0 < m.size y) (sym e) p)
      ∙ (λ i. lowest_terms (m.list (o.mul (o.num (from-low o m h x i)) (m.cofactor (e i)))) (m.size (e i)))
    where
      over : (f : Fraction (content_of m)) (n : ℕ) → 0 < n
          → ((listed o m h).to (inverse_over o (content_of m) (content_of_is o m h) f n)).0 ≡ lowest_terms (m.list (o.mul (o.num f.low) (m.cofactor f.top))) n
      over f zero p = absurd (omega arith)
      over f (suc n) p = listed-lower o m h (o.mul (o.num f.low) (m.cofactor f.top)) (suc n) (above_zero o (content_of m) (content_of_is o m h) n)

  -- 0 and 1 over 1
  pub nought-is : (exact_laws o m h).nought.0 ≡ lowest_terms (m.list (o.num 0)) 1
  nought-is = listed-lower o m h (o.num 0) 1 (one_positive o (content_of m) (content_of_is o m h))

  pub unit-is : (exact_laws o m h).unit.0 ≡ lowest_terms (m.list (o.num 1)) 1
  unit-is = listed-lower o m h (o.num 1) 1 (one_positive o (content_of m) (content_of_is o m h))

  -- the negative keeps the denominator
  pub neg-list : (x : Exact (is_exact m.count)) → lowest_terms (map neg_ℤ (numerators m.count x.0)) (low m.count x.0) ≡ map neg_ℤ (numerators m.count x.0) ++ denominator m.count x.0 ∷ []
  neg-list x =
      let e = exact_is m.count x.0 x.1 in
      let one : common (map neg_ℤ (numerators m.count x.0)) (low m.count x.0) ≡ 1 = negated-common (numerators m.count x.0) (low m.count x.0) ∙ e.lowest in
      over_one (map neg_ℤ (numerators m.count x.0)) (low m.count x.0) one ∙ ap (λ d. map neg_ℤ (numerators m.count x.0) ++ d ∷ []) (sym e.upright)
