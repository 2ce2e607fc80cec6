-- The character of q^-1 is the conjugate of that of q: Serre, Linear Representations of Finite Groups, 2.1.
--
-- IsDefinite h c: a sum of numbers times their conjugates is 0 only where each is
-- conjugate-character: over such a field, by the form that is the sum over q of D(q)* D(q)
use Rattle.std.proofs.Common.{◌≡◌, ℕ, ◌+◌, ◌*◌, ◌/◌, ◌%◌, ◌<◌, sym, ◌∙◌, ap}
use Rattle.std.proofs.lemmas.Nat.{div-mul-add, mod-mul-add}
use Rattle.algebra.specs.NumberedGroup.{Group, IsGroup}
use Rattle.algebra.specs.NumberedGroupLaws.{product-inverse, product-identity}
use Rattle.algebra.specs.Sums.{IsRenumbering}
use Rattle.cyclo24.specs.FieldOn.{FieldOn}
use Rattle.cyclo24.specs.FieldLaws.{times-nought}
use Rattle.cyclo24.specs.Sums.{total}
use Rattle.cyclo24.specs.SumLaws.{all-nought, renumbered, total-rows}
use Rattle.cyclo24.specs.TotalLaws.{total-same, total-times, times-total, total-swap}
use Rattle.lin_alg.specs.Matrices.{mul, apply, trace, unit_entry, AreEqualBelow, IsRepresentation}
use Rattle.char_orth.proofs.ConvolutionLemmas.{pair-below}
use Rattle.char_orth.proofs.InverseLemmas.{apply-product, mul-assoc, mul-left, mul-right, unit-apply, HasNoKernel, HasNoLeftKernel, trace-carried}
use Rattle.char_orth.proofs.WeightLemmas.{IsRingMap, map-total, map-products}

-- a sum of numbers times their conjugates is 0 only where each is
abbrev pub IsDefinite : {L : Type 0} → FieldOn L → (L → L) → Type 0
IsDefinite {L} h c = (n : ℕ) (y : ℕ → L) → total h n (λ k. h.times (c (y k)) (y k)) ≡ h.nought → (k : ℕ) → k < n → y k ≡ h.nought

-- q goes to q a
by-right : (g : Group) (law : IsGroup g) (a : ℕ) → a < g.order → IsRenumbering g.order (λ q. g.product q a) (λ q. g.product q (g.inverse a))
by-right g law a la =
    let m = law.inverse_below a la in
    record {
      below = λ q l. law.product_below q a l la;
      back-below = λ q l. law.product_below q (g.inverse a) l m;
      back = λ q l. law.product_assoc q a (g.inverse a) l la m ∙ ap (g.product q) (product-inverse g law a la) ∙ product-identity g law q l;
      forth = λ q l. law.product_assoc q (g.inverse a) a l m la ∙ ap (g.product q) (law.inverse-product a la) ∙ product-identity g law q l;
    }

module _ {L : Type 0} (h : FieldOn L) where
  -- products with sums of matrices
  sum-mul : (n d : ℕ) (M : ℕ → ℕ → ℕ → L) (b : ℕ → ℕ → L) (i j : ℕ) → mul h d (λ x y. total h n (λ q. M q x y)) b i j ≡ total h n (λ q. mul h d (M q) b i j)
  sum-mul n d M b i j = total-same h d _ _ (λ k l. sym (times-total h n (b k j) (λ q. M q i k))) ∙ total-swap h d n (λ k q. h.times (M q i k) (b k j))

  mul-sum : (n d : ℕ) (a : ℕ → ℕ → L) (M : ℕ → ℕ → ℕ → L) (i j : ℕ) → mul h d a (λ x y. total h n (λ q. M q x y)) i j ≡ total h n (λ q. mul h d a (M q) i j)
  mul-sum n d a M i j = total-same h d _ _ (λ k l. sym (total-times h n (a i k) (λ q. M q k j))) ∙ total-swap h d n (λ k q. h.times (a i k) (M q k j))

module _ {L : Type 0} (h : FieldOn L) (c : L → L) (conjugates : IsRingMap h h c) (twice : (x : L) → c (c x) ≡ x) (definite : IsDefinite h c) (g : Group) (law : IsGroup g)
    (n : ℕ) (D : ℕ → ℕ → ℕ → L) (r : IsRepresentation h g n D) (one : AreEqualBelow n (D 0) (unit_entry h)) where
  -- the conjugate transpose
  abbrev adjoint : (ℕ → ℕ → L) → ℕ → ℕ → L
  adjoint a i j = c (a j i)

  -- (a b)* = b* a*
  adjoint-mul : (a b : ℕ → ℕ → L) (i j : ℕ) → adjoint (mul h n a b) i j ≡ mul h n (adjoint b) (adjoint a) i j
  adjoint-mul a b i j = map-products h h c conjugates n (λ k. a j k) (λ k. b k i) ∙ total-same h n _ _ (λ k l. h.times_comm (c (a j k)) (c (b k i)))

  adjoint-product : (q p : ℕ) → q < g.order → p < g.order → AreEqualBelow n (adjoint (D (g.product q p))) (mul h n (adjoint (D p)) (adjoint (D q)))
  adjoint-product q p lq lp i j li lj = ap c (r q p lq lp j i lj li) ∙ adjoint-mul (D q) (D p) i j

  abbrev square : ℕ → ℕ → ℕ → L
  square q = mul h n (adjoint (D q)) (D q)

  -- the sum over q of D(q)* D(q)
  abbrev H : ℕ → ℕ → L
  H i j = total h g.order (λ q. square q i j)

  -- it is its own conjugate transpose
  own-adjoint : (i j : ℕ) → c (H i j) ≡ H j i
  own-adjoint i j =
      map-total h h c conjugates g.order (λ q. square q i j)
      ∙ total-same h g.order _ _ (λ q l. adjoint-mul (adjoint (D q)) (D q) j i ∙ total-same h n _ _ (λ k m. ap (h.times (c (D q k j))) (twice (D q k i))))

  -- D(p)* H = H D(p^-1)
  carried : (p : ℕ) → p < g.order → AreEqualBelow n (mul h n (adjoint (D p)) H) (mul h n H (D (g.inverse p)))
  carried p lp i j li lj =
      let s = g.inverse p in
      let ls = law.inverse_below p lp in
      let F : ℕ → L = λ q. mul h n (adjoint (D (g.product q p))) (D q) i j in
      mul-sum h g.order n (adjoint (D p)) square i j
      ∙ total-same h g.order _ F (λ q lq.
      sym (mul-assoc h n (adjoint (D p)) (adjoint (D q)) (D q) i j)
      ∙ sym (mul-left h n (adjoint (D (g.product q p))) (mul h n (adjoint (D p)) (adjoint (D q))) (D q) (adjoint-product q p lq lp) i j li lj))
      ∙ sym (renumbered h g.order _ _ (by-right g law s ls) F)
      ∙ total-same h g.order _ _ (λ q lq.
      let e : g.product (g.product q s) p ≡ q = law.product_assoc q s p lq ls lp ∙ ap (g.product q) (law.inverse-product p lp) ∙ product-identity g law q lq in
      ap (λ z. mul h n (adjoint (D z)) (D (g.product q s)) i j) e
      ∙ mul-right h n (adjoint (D q)) (D (g.product q s)) (mul h n (D q) (D s)) (r q s lq ls) i j li lj
      ∙ sym (mul-assoc h n (adjoint (D q)) (D q) (D s) i j))
      ∙ sym (sum-mul h g.order n square (D s) i j)

  module _ (v : ℕ → L) where
    -- the value of H at v and v is the sum over q of that of the unit form at D(q) v
    abbrev image : ℕ → ℕ → L
    image q = apply h n (D q) v

    abbrev form : L
    form = total h n (λ i. h.times (c (v i)) (apply h n H v i))

    one-square : (q : ℕ) → total h n (λ i. h.times (c (v i)) (apply h n (square q) v i)) ≡ total h n (λ k. h.times (c (image q k)) (image q k))
    one-square q =
        total-same h n _ _ (λ i l.
        ap (h.times (c (v i))) (apply-product h n (adjoint (D q)) (D q) v i)
        ∙ sym (total-times h n (c (v i)) (λ k. h.times (c (D q k i)) (image q k)))
        ∙ total-same h n _ _ (λ k m. sym (h.times_assoc (c (v i)) (c (D q k i)) (image q k)) ∙ ap (λ x. h.times x (image q k)) (h.times_comm (c (v i)) (c (D q k i)))))
        ∙ total-swap h n n (λ i k. h.times (h.times (c (D q k i)) (c (v i))) (image q k))
        ∙ total-same h n _ _ (λ k m.
        times-total h n (image q k) (λ i. h.times (c (D q k i)) (c (v i)))
        ∙ ap (λ x. h.times x (image q k)) (sym (map-products h h c conjugates n (λ i. D q k i) v)))

    form-is : form ≡ total h g.order (λ q. total h n (λ k. h.times (c (image q k)) (image q k)))
    form-is =
        total-same h n _ _ (λ i l. ap (h.times (c (v i))) (sum-apply i) ∙ sym (total-times h g.order (c (v i)) (λ q. apply h n (square q) v i)))
        ∙ total-swap h n g.order (λ i q. h.times (c (v i)) (apply h n (square q) v i))
        ∙ total-same h g.order _ _ (λ q l. one-square q)
      where
        sum-apply : (i : ℕ) → apply h n H v i ≡ total h g.order (λ q. apply h n (square q) v i)
        sum-apply i = sum-mul h g.order n square (λ k j. v k) i 0

    form-nought : form ≡ h.nought → (k : ℕ) → k < n → v k ≡ h.nought
    form-nought z k l =
        let y : ℕ → L = λ a. image (a / n) (a % n) in
        let flat : total h (g.order * n) (λ a. h.times (c (y a)) (y a)) ≡ h.nought =
        total-rows h g.order n (λ a. h.times (c (y a)) (y a))
        ∙ total-same h g.order _ _ (λ q lq. total-same h n _ _ (λ k l t.
        h.times (c (image (div-mul-add q n k l t) (mod-mul-add q n k l t))) (image (div-mul-add q n k l t) (mod-mul-add q n k l t))))
        ∙ sym form-is ∙ z in
        sym (unit-apply h n v k l)
        ∙ total-same h n _ _ (λ j m. ap (λ x. h.times x (v j)) (sym (one k j l m)))
        ∙ sym (λ t. image (div-mul-add 0 n k l t) (mod-mul-add 0 n k l t))
        ∙ definite (g.order * n) y flat (0 * n + k) (pair-below g.order n 0 k law.identity_below l)

  no-kernel : HasNoKernel h n H
  no-kernel v e = form-nought v (all-nought h n _ (λ i l. ap (h.times (c (v i))) (e i l) ∙ times-nought h (c (v i))))

  no-left-kernel : HasNoLeftKernel h n H
  no-left-kernel v e i l =
      sym (twice (v i))
      ∙ ap c (no-kernel (λ k. c (v k)) (λ j m.
      total-same h n _ _ (λ k o. h.times_comm (H j k) (c (v k)) ∙ ap (h.times (c (v k))) (sym (own-adjoint k j)))
      ∙ sym (map-products h h c conjugates n v (λ k. H k j)) ∙ ap c (e j m) ∙ conjugates.of_nought) i l)
      ∙ conjugates.of_nought

  -- the character of q^-1 is the conjugate of that of q
  pub conjugate-character : (q : ℕ) → q < g.order → trace h n (D (g.inverse q)) ≡ c (trace h n (D q))
  conjugate-character q l =
      sym (trace-carried h n H no-kernel no-left-kernel (adjoint (D q)) (D (g.inverse q)) (carried q l))
      ∙ sym (map-total h h c conjugates n (λ i. D q i i))
