-- Maps of exact values by maps of their numerators.
--
-- exact_map φ k x: the exact value φ a / (k d), where x is a / d
-- exact_map-is: its list
-- exact_map-plus, exact_map-times, exact_map-nought, exact_map-unit: it respects sums and products as φ does
-- exact_map-map: one map after another; exact_map-same, exact_map-itself, plus-exact_map: equal maps
use Rattle.std.proofs.Common.{◌≡◌, ℕ, ◌*◌, ◌<◌, refl, sym, ap, ◌∙◌}
use Rattle.std.specs.Int.RustNames.{unsigned_abs}
use Rattle.algebra.specs.Ring.{Ops}
use Rattle.cyclo24.specs.ExactField.{Exact}
use Rattle.cyclo24.specs.Fraction.{Fraction}
use Rattle.cyclo24.specs.FractionLaws.{lower, sum, times, minus, one_positive, mul_positive}
use Rattle.cyclo24.specs.Numerators.{Numerators, IsNumerators, content_of}
use Rattle.cyclo24.specs.CommonLaws.{content_of_is}
use Rattle.cyclo24.specs.Gcd.{lowest_terms}
use Rattle.cyclo24.specs.Listed.{is_exact, numerators, denominator}
use Rattle.cyclo24.specs.ListedLaws.{exact_laws, listed, listed-lower, exact-lower, from-top, from-low}
use Rattle.cyclo24.specs.FractionMapsLaws.{IsLinear, mapped, mapped-sum, mapped-times, mapped-mapped, mapped-same, mapped-itself, mapped-lower, sum-mapped, mapped-zero, times-member, times-lower, sum-lower, minus-lower, times-low}

module _ {R S : Type 0} (o : Ops R) (m : Numerators o) (h : IsNumerators o m) (o' : Ops S) (m' : Numerators o') (h' : IsNumerators o' m') where
  fraction_map : (R → S) → (k : ℕ) → 0 < k → Fraction (content_of m) → Fraction (content_of m')
  fraction_map φ k p f = mapped o (content_of m) (content_of_is o m h) o' (content_of m') (content_of_is o' m' h') φ k p f

  -- φ a over k d, where x is a / d
  unfoldable pub exact_map : (R → S) → (k : ℕ) → 0 < k → Exact (is_exact m.count) → Exact (is_exact m'.count)
  exact_map φ k p x = (listed o' m' h').to (mapped o (content_of m) (content_of_is o m h) o' (content_of m') (content_of_is o' m' h') φ k p ((listed o m h).from x))

  -- its list
  pub exact_map-is : (φ : R → S) (k : ℕ) (p : 0 < k) (x : Exact (is_exact m.count)) → (exact_map φ k p x).0 ≡ lowest_terms (m'.list (φ (m.member (numerators m.count x.0)))) (k * unsigned_abs (denominator m.count x.0))
  unfolding exact_map
  exact_map-is φ k p x =
      let f = (listed o m h).from x in
      listed-lower o' m' h' (φ f.top) (k * f.low) (mul_positive o (content_of m) (content_of_is o m h) k f.low p f.positive)
      ∙ (λ i. lowest_terms (m'.list (φ (from-top o m h x i))) (k * from-low o m h x i))

  pub exact_map-plus : (φ : R → S) (k : ℕ) (p : 0 < k) → IsLinear o o' φ → (x y : Exact (is_exact m.count))
      → exact_map φ k p ((exact_laws o m h).plus x y) ≡ (exact_laws o' m' h').plus (exact_map φ k p x) (exact_map φ k p y)
  unfolding exact_map fraction_map
  exact_map-plus φ k p l x y =
      let a = listed o m h in let b = listed o' m' h' in
      let c = content_of_is o m h in let c' = content_of_is o' m' h' in
      let f = a.from x in let g = a.from y in
      ap (λ z. b.to (fraction_map φ k p z)) (a.from-to (sum o (content_of m) c f g))
      ∙ ap b.to (mapped-sum o (content_of m) c o' (content_of m') c' φ k p l f g
      ∙ sym (λ i. sum o' (content_of m') c' (b.from-to (fraction_map φ k p f) i) (b.from-to (fraction_map φ k p g) i)))

  pub exact_map-times : (φ : R → S) (p : 0 < 1) → IsLinear o o' φ → ((x y : R) → φ (o.mul x y) ≡ o'.mul (φ x) (φ y)) → (x y : Exact (is_exact m.count))
      → exact_map φ 1 p ((exact_laws o m h).times x y) ≡ (exact_laws o' m' h').times (exact_map φ 1 p x) (exact_map φ 1 p y)
  unfolding exact_map fraction_map
  exact_map-times φ p l t x y =
      let a = listed o m h in let b = listed o' m' h' in
      let c = content_of_is o m h in let c' = content_of_is o' m' h' in
      let f = a.from x in let g = a.from y in
      ap (λ z. b.to (fraction_map φ 1 p z)) (a.from-to (times o (content_of m) c f g))
      ∙ ap b.to (mapped-times o (content_of m) c o' (content_of m') c' φ p l t f g
      ∙ sym (λ i. times o' (content_of m') c' (b.from-to (fraction_map φ 1 p f) i) (b.from-to (fraction_map φ 1 p g) i)))

  -- of a whole number of the ring
  pub exact_map-lower : (φ : R → S) (k : ℕ) (p : 0 < k) → IsLinear o o' φ → (x : R) (d : ℕ) (q : 0 < d) (r : 0 < k * d)
      → exact_map φ k p ((listed o m h).to (lower o (content_of m) (content_of_is o m h) x d q)) ≡ (listed o' m' h').to (lower o' (content_of m') (content_of_is o' m' h') (φ x) (k * d) r)
  unfolding exact_map fraction_map
  exact_map-lower φ k p l x d q r =
      let a = listed o m h in let b = listed o' m' h' in
      let c = content_of_is o m h in let c' = content_of_is o' m' h' in
      ap (λ z. b.to (fraction_map φ k p z)) (a.from-to (lower o (content_of m) c x d q))
      ∙ ap b.to (mapped-lower o (content_of m) c o' (content_of m') c' φ k p l x d q r)

  pub exact_map-same : (φ ψ : R → S) (k l : ℕ) (p : 0 < k) (q : 0 < l) → IsLinear o o' φ → IsLinear o o' ψ → ((x : R) → o'.mul (o'.num l) (φ x) ≡ o'.mul (o'.num k) (ψ x))
      → (x : Exact (is_exact m.count)) → exact_map φ k p x ≡ exact_map ψ l q x
  unfolding exact_map
  exact_map-same φ ψ k l p q a b e x =
      ap (listed o' m' h').to (mapped-same o (content_of m) (content_of_is o m h) o' (content_of m') (content_of_is o' m' h') φ ψ k l p q a b e ((listed o m h).from x))

  pub plus-exact_map : (φ ψ χ : R → S) (k : ℕ) (p : 0 < k) → IsLinear o o' φ → IsLinear o o' ψ → IsLinear o o' χ → ((x : R) → χ x ≡ o'.add (φ x) (ψ x))
      → (x : Exact (is_exact m.count)) → (exact_laws o' m' h').plus (exact_map φ k p x) (exact_map ψ k p x) ≡ exact_map χ k p x
  unfolding exact_map fraction_map
  plus-exact_map φ ψ χ k p a b s e x =
      let c = content_of_is o m h in let c' = content_of_is o' m' h' in
      let f = (listed o m h).from x in let t = listed o' m' h' in
      ap t.to ((λ i. sum o' (content_of m') c' (t.from-to (fraction_map φ k p f) i) (t.from-to (fraction_map ψ k p f) i))
      ∙ sum-mapped o (content_of m) c o' (content_of m') c' φ ψ χ k p a b s e f)

  pub exact_map-zero : (φ : R → S) (k : ℕ) (p : 0 < k) → IsLinear o o' φ → ((x : R) → φ x ≡ o'.num 0) → (x : Exact (is_exact m.count)) → exact_map φ k p x ≡ (exact_laws o' m' h').nought
  unfolding exact_map
  exact_map-zero φ k p l e x = ap (listed o' m' h').to (mapped-zero o (content_of m) (content_of_is o m h) o' (content_of m') (content_of_is o' m' h') φ k p l e ((listed o m h).from x))

module _ {R S T : Type 0} (o : Ops R) (m : Numerators o) (h : IsNumerators o m) (o' : Ops S) (m' : Numerators o') (h' : IsNumerators o' m') (o'' : Ops T) (m'' : Numerators o'') (h'' : IsNumerators o'' m'') where
  -- one map after another
  pub exact_map-map : (φ : R → S) (ψ : S → T) (k l : ℕ) (p : 0 < k) (q : 0 < l) (r : 0 < l * k) → IsLinear o o' φ → IsLinear o' o'' ψ → IsLinear o o'' (λ x. ψ (φ x)) → (x : Exact (is_exact m.count))
      → exact_map o' m' h' o'' m'' h'' ψ l q (exact_map o m h o' m' h' φ k p x) ≡ exact_map o m h o'' m'' h'' (λ x. ψ (φ x)) (l * k) r x
  unfolding exact_map
  exact_map-map φ ψ k l p q r a b s x =
      let f = (listed o m h).from x in
      let c = content_of_is o m h in let c' = content_of_is o' m' h' in let c'' = content_of_is o'' m'' h'' in
      ap (λ z. (listed o'' m'' h'').to (mapped o' (content_of m') c' o'' (content_of m'') c'' ψ l q z)) ((listed o' m' h').from-to (mapped o (content_of m) c o' (content_of m') c' φ k p f))
      ∙ ap (listed o'' m'' h'').to (mapped-mapped o (content_of m) c o' (content_of m') c' o'' (content_of m'') c'' φ ψ k l p q r a b s f)

module _ {R : Type 0} (o : Ops R) (m : Numerators o) (h : IsNumerators o m) where
  pub exact_map-itself : (p : 0 < 1) (x : Exact (is_exact m.count)) → exact_map o m h o m h (λ y. y) 1 p x ≡ x
  unfolding exact_map
  exact_map-itself p x = ap (listed o m h).to (mapped-itself o (content_of m) (content_of_is o m h) p ((listed o m h).from x)) ∙ (listed o m h).to-from x

  -- a member of the ring
  unfoldable pub exact_member : R → Exact (is_exact m.count)
  exact_member a = (listed o m h).to (lower o (content_of m) (content_of_is o m h) a 1 (one_positive o (content_of m) (content_of_is o m h)))

  pub exact_member-is : (a : R) → (exact_member a).0 ≡ lowest_terms (m.list a) 1
  unfolding exact_member
  exact_member-is a = listed-lower o m h a 1 (one_positive o (content_of m) (content_of_is o m h))

  pub times-exact_member : (a : R) (p : 0 < 1) → IsLinear o o (λ x. o.mul a x) → (x : Exact (is_exact m.count))
      → (exact_laws o m h).times (exact_member a) x ≡ exact_map o m h o m h (λ y. o.mul a y) 1 p x
  unfolding exact_map exact_member
  times-exact_member a p l x =
      let c = content_of_is o m h in let f = (listed o m h).from x in
      ap (λ z. (listed o m h).to (times o (content_of m) c z f)) ((listed o m h).from-to (lower o (content_of m) c a 1 (one_positive o (content_of m) c)))
      ∙ ap (listed o m h).to (times-member o (content_of m) c a (one_positive o (content_of m) c) p l f)

  pub exact_member-times : (a b : R) → (exact_laws o m h).times (exact_member a) (exact_member b) ≡ exact_member (o.mul a b)
  unfolding exact_member
  exact_member-times a b =
      let c = content_of_is o m h in let t = listed o m h in let one = one_positive o (content_of m) c in
      let f = lower o (content_of m) c a 1 one in let g = lower o (content_of m) c b 1 one in
      ap t.to ((λ i. times o (content_of m) c (t.from-to f i) (t.from-to g i)) ∙ times-lower o (content_of m) c a b one)

  -- d times an exact value with the list of a / d
  pub exact_member-low : (a : R) (d : ℕ) (q : 0 < d) (x : Exact (is_exact m.count)) → x.0 ≡ lowest_terms (m.list a) d → (exact_laws o m h).times (exact_member (o.num d)) x ≡ exact_member a
  unfolding exact_member
  exact_member-low a d q x e =
      let c = content_of_is o m h in let t = listed o m h in let one = one_positive o (content_of m) c in
      ap ((exact_laws o m h).times (exact_member (o.num d))) (exact-lower o m h a d q x e)
      ∙ ap t.to ((λ i. times o (content_of m) c (t.from-to (lower o (content_of m) c (o.num d) 1 one) i) (t.from-to (lower o (content_of m) c a d q) i)) ∙ times-low o (content_of m) c a d one q)

  pub exact_member-plus : (a b : R) → (exact_laws o m h).plus (exact_member a) (exact_member b) ≡ exact_member (o.add a b)
  unfolding exact_member
  exact_member-plus a b =
      let c = content_of_is o m h in let t = listed o m h in let one = one_positive o (content_of m) c in
      let f = lower o (content_of m) c a 1 one in let g = lower o (content_of m) c b 1 one in
      ap t.to ((λ i. sum o (content_of m) c (t.from-to f i) (t.from-to g i)) ∙ sum-lower o (content_of m) c a b one)

  pub exact_member-neg : (a : R) → (exact_laws o m h).neg (exact_member a) ≡ exact_member (o.neg a)
  unfolding exact_member
  exact_member-neg a =
      let c = content_of_is o m h in let t = listed o m h in let one = one_positive o (content_of m) c in
      let f = lower o (content_of m) c a 1 one in
      ap t.to (ap (minus o (content_of m) c) (t.from-to f) ∙ minus-lower o (content_of m) c a one)

  pub exact_member-one : exact_member (o.num 1) ≡ (exact_laws o m h).unit
  unfolding exact_member
  exact_member-one = refl

  pub exact_member-zero : exact_member (o.num 0) ≡ (exact_laws o m h).nought
  unfolding exact_member
  exact_member-zero = refl

module _ {R S : Type 0} (o : Ops R) (m : Numerators o) (h : IsNumerators o m) (o' : Ops S) (m' : Numerators o') (h' : IsNumerators o' m') where
  -- of a member of the ring
  pub exact_map-member : (φ : R → S) (p : 0 < 1) → IsLinear o o' φ → (a : R) → exact_map o m h o' m' h' φ 1 p (exact_member o m h a) ≡ exact_member o' m' h' (φ a)
  unfolding exact_member
  exact_map-member φ p l a = exact_map-lower o m h o' m' h' φ 1 p l a 1 (one_positive o (content_of m) (content_of_is o m h)) (one_positive o' (content_of m') (content_of_is o' m' h'))
