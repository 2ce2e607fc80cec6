-- The convolution of weights of induced representations is 0 at every element where it is 0 at the identity.
--
-- IsRingMap f h φ: φ respects sums, products and 0; map-.., sum-total: what it makes of sums
-- decides: the same of numbers that are characters plus their conjugates, by a map into a field that has both
use Rattle.std.proofs.Common.{◌≡◌, ℕ, suc, zero, ◌<◌, false, refl, sym, ◌∙◌, ap, subst, [], ◌∷◌}
use Rattle.algebra.specs.NumberedGroup.{Group, IsGroup}
use Rattle.algebra.specs.Solve.{V, Add, Mul, at}
use Rattle.algebra.specs.SolveLaws.{solve}
use Rattle.cyclo24.specs.FieldOn.{FieldOn, ones}
use Rattle.cyclo24.specs.Numerals.{ring_of}
use Rattle.cyclo24.specs.NumeralLaws.{ring_of_is}
use Rattle.cyclo24.specs.Sums.{total}
use Rattle.cyclo24.specs.TotalLaws.{total-same, total-plus}
use Rattle.lin_alg.specs.Matrices.{trace, convolution, IsRepresentation}
use Rattle.char_orth.proofs.ConvolutionLemmas.{HasCount, characters-count, count-plus, count-nought}

-- φ respects sums, products and 0
pub record IsRingMap {K L : Type 0} (f : FieldOn K) (h : FieldOn L) (φ : K → L) : Type 0 where
  pub of_nought : φ f.nought ≡ h.nought
  pub of_plus : (x y : K) → φ (f.plus x y) ≡ h.plus (φ x) (φ y)
  pub of_times : (x y : K) → φ (f.times x y) ≡ h.times (φ x) (φ y)

module _ {K L : Type 0} (f : FieldOn K) (h : FieldOn L) (φ : K → L) where
  -- where φ respects sums and 0
  pub sum-total : φ f.nought ≡ h.nought → ((x y : K) → φ (f.plus x y) ≡ h.plus (φ x) (φ y)) → (n : ℕ) (x : ℕ → K) → φ (total f n x) ≡ total h n (λ k. φ (x k))
  sum-total z s zero x = z
  sum-total z s (suc n) x = s (total f n x) (x n) ∙ ap (λ y. h.plus y (φ (x n))) (sum-total z s n x)

module _ {K L : Type 0} (f : FieldOn K) (h : FieldOn L) (φ : K → L) (map : IsRingMap f h φ) where
  pub map-total : (n : ℕ) (x : ℕ → K) → φ (total f n x) ≡ total h n (λ k. φ (x k))
  map-total = sum-total f h φ map.of_nought map.of_plus

  pub map-products : (n : ℕ) (x y : ℕ → K) → φ (total f n (λ k. f.times (x k) (y k))) ≡ total h n (λ k. h.times (φ (x k)) (φ (y k)))
  map-products n x y = map-total n (λ k. f.times (x k) (y k)) ∙ total-same h n _ _ (λ k l. map.of_times (x k) (y k))

  map-representation : (g : Group) (d : ℕ) (m : ℕ → ℕ → ℕ → K) → IsRepresentation f g d m → IsRepresentation h g d (λ q i j. φ (m q i j))
  map-representation g d m r a b la lb i j li lj = ap φ (r a b la lb i j li lj) ∙ map-products d (λ k. m a i k) (λ k. m b k j)

  map-trace : (n : ℕ) (m : ℕ → ℕ → ℕ → K) (q : ℕ) → φ (trace f n (m q)) ≡ trace h n (λ i j. φ (m q i j))
  map-trace n m q = map-total n (λ i. m q i i)

  map-convolution : (g : Group) (w u : ℕ → K) (p : ℕ) → φ (convolution f g w u p) ≡ convolution h g (λ q. φ (w q)) (λ q. φ (u q)) p
  map-convolution g w u p = map-products g.order w (λ q. u (g.product (g.inverse q) p))

module _ {L : Type 0} (h : FieldOn L) (g : Group) where
  -- functions that are equal on the group
  pub convolution-same : IsGroup g → (w u x y : ℕ → L) → ((q : ℕ) → q < g.order → w q ≡ x q) → ((q : ℕ) → q < g.order → u q ≡ y q) → (p : ℕ) → p < g.order
      → convolution h g w u p ≡ convolution h g x y p
  convolution-same law w u x y d e p lp =
      total-same h g.order _ _ (λ q lq t. h.times (d q lq t) (e (g.product (g.inverse q) p) (law.product_below (g.inverse q) p (law.inverse_below q lq) lp) t))

  -- (a + b) (c + d)
  expanded : (a b c d : L) → h.times (h.plus a b) (h.plus c d) ≡ h.plus (h.plus (h.times a c) (h.times a d)) (h.plus (h.times b c) (h.times b d))
  expanded a b c d =
      solve (ring_of h) (ring_of_is h) (at h.nought (a ∷ b ∷ c ∷ d ∷ [])) (Mul (Add (V 0) (V 1)) (Add (V 2) (V 3)))
      (Add (Add (Mul (V 0) (V 2)) (Mul (V 0) (V 3))) (Add (Mul (V 1) (V 2)) (Mul (V 1) (V 3)))) refl

  convolution-plus : (a b c d : ℕ → L) (p : ℕ)
      → convolution h g (λ q. h.plus (a q) (b q)) (λ q. h.plus (c q) (d q)) p
      ≡ h.plus (h.plus (convolution h g a c p) (convolution h g a d p)) (h.plus (convolution h g b c p) (convolution h g b d p))
  convolution-plus a b c d p =
      let r : ℕ → ℕ = λ q. g.product (g.inverse q) p in
      let ac : ℕ → L = λ q. h.times (a q) (c (r q)) in
      let ad : ℕ → L = λ q. h.times (a q) (d (r q)) in
      let bc : ℕ → L = λ q. h.times (b q) (c (r q)) in
      let bd : ℕ → L = λ q. h.times (b q) (d (r q)) in
      total-same h g.order _ _ (λ q l. expanded (a q) (b q) (c (r q)) (d (r q)))
      ∙ total-plus h g.order (λ q. h.plus (ac q) (ad q)) (λ q. h.plus (bc q) (bd q))
      ∙ (λ t. h.plus (total-plus h g.order ac ad t) (total-plus h g.order bc bd t))

-- conjugation c of a field where no sum of ones is 0, and two representations over it
module _ {L : Type 0} (h : FieldOn L) (char : (n : ℕ) → h.is_nought (ones h (suc n)) ≡ false) (c : L → L) (conjugates : IsRingMap h h c) (g : Group) (law : IsGroup g)
    (n m : ℕ) (D E : ℕ → ℕ → ℕ → L) (rd : IsRepresentation h g n D) (re : IsRepresentation h g m E) where
  abbrev traces : ℕ → (ℕ → ℕ → ℕ → L) → ℕ → L
  traces d M q = trace h d (M q)

  abbrev χ : ℕ → L
  χ = traces n D

  abbrev ψ : ℕ → L
  ψ = traces m E

  -- conjugates of numbers and of matrices
  abbrev bar : (ℕ → L) → ℕ → L
  bar x q = c (x q)

  abbrev bars : (ℕ → ℕ → ℕ → L) → ℕ → ℕ → ℕ → L
  bars M q i j = c (M q i j)

  bars-trace : (d : ℕ) (M : ℕ → ℕ → ℕ → L) → traces d (bars M) ≡ bar (traces d M)
  bars-trace d M = λ t q. sym (map-trace h h c conjugates d M q) t

  abbrev at_each : (ℕ → L) → (ℕ → L) → ℕ → L
  at_each a b = convolution h g a b

  -- of the characters and of their conjugates
  counts : HasCount h g law (λ p. h.plus (h.plus (at_each χ ψ p) (at_each χ (bar ψ) p)) (h.plus (at_each (bar χ) ψ p) (at_each (bar χ) (bar ψ) p)))
  counts =
      let sd = map-representation h h c conjugates g n D rd in
      let se = map-representation h h c conjugates g m E re in
      let x = characters-count h g law n m D E rd re in
      let y : HasCount h g law (at_each χ (bar ψ)) = subst (λ (z : ℕ → L). HasCount h g law (at_each χ z)) (bars-trace m E) (characters-count h g law n m D (bars E) rd se) in
      let z : HasCount h g law (at_each (bar χ) ψ) = subst (λ (z : ℕ → L). HasCount h g law (at_each z ψ)) (bars-trace n D) (characters-count h g law n m (bars D) E sd re) in
      let w : HasCount h g law (at_each (bar χ) (bar ψ)) =
      subst (λ (z : ℕ → L). HasCount h g law (at_each z (bar ψ))) (bars-trace n D)
      (subst (λ (z : ℕ → L). HasCount h g law (at_each (traces n (bars D)) z)) (bars-trace m E) (characters-count h g law n m (bars D) (bars E) sd se)) in
      count-plus h g law (λ p. h.plus (at_each χ ψ p) (at_each χ (bar ψ) p)) (λ p. h.plus (at_each (bar χ) ψ p) (at_each (bar χ) (bar ψ) p))
      (count-plus h g law (at_each χ ψ) (at_each χ (bar ψ)) x y) (count-plus h g law (at_each (bar χ) ψ) (at_each (bar χ) (bar ψ)) z w)

  -- numbers plus their conjugates
  abbrev both : (ℕ → L) → ℕ → L
  both x q = h.plus (x q) (c (x q))

  both-decide : at_each (both χ) (both ψ) 0 ≡ h.nought → (p : ℕ) → p < g.order → at_each (both χ) (both ψ) p ≡ h.nought
  both-decide z p l =
      let e = convolution-plus h g χ (bar χ) ψ (bar ψ) in
      e p ∙ count-nought h g law char _ counts (sym (e 0) ∙ z) p l

  -- numbers of a field K that are characters plus their conjugates
  module _ {K : Type 0} (f : FieldOn K) (φ : K → L) (into : IsRingMap f h φ) (back : L → K) (from : (x : K) → back (φ x) ≡ x) (w u : ℕ → K)
      (left : (q : ℕ) → q < g.order → φ (w q) ≡ both χ q) (right : (q : ℕ) → q < g.order → φ (u q) ≡ both ψ q) where
    moved : (p : ℕ) → p < g.order → φ (convolution f g w u p) ≡ convolution h g (both χ) (both ψ) p
    moved p l = map-convolution f h φ into g w u p ∙ convolution-same h g law (λ q. φ (w q)) (λ q. φ (u q)) (both χ) (both ψ) left right p l

    pub decides : convolution f g w u 0 ≡ f.nought → (p : ℕ) → p < g.order → convolution f g w u p ≡ f.nought
    decides z p l =
        let first : convolution h g (both χ) (both ψ) 0 ≡ h.nought = sym (moved 0 law.identity_below) ∙ ap φ z ∙ into.of_nought in
        sym (from (convolution f g w u p)) ∙ ap back (moved p l ∙ both-decide first p l ∙ sym into.of_nought) ∙ from f.nought
