-- Averages whose rows are some of the first tell all.
--
-- moved-average: an average by the entries of L(q) and R(q^-1) and all averages
-- zero-spread: where each row is reached from the first k, and the averages in these are zero, all are
use Rattle.std.proofs.Common.{◌≡◌, ℕ, ◌<◌, inl, inr, sym, ◌∙◌, ap}
use Rattle.algebra.specs.NumberedGroup.{Group, IsGroup}
use Rattle.algebra.specs.NumberedGroupLaws.{product-inverse, product-identity, cancel}
use Rattle.algebra.specs.Sums.{IsRenumbering}
use Rattle.cyclo24.specs.FieldOn.{FieldOn}
use Rattle.cyclo24.specs.FieldLaws.{nought-times, times-nought}
use Rattle.cyclo24.specs.Sums.{total}
use Rattle.cyclo24.specs.SumLaws.{all-nought, renumbered}
use Rattle.cyclo24.specs.TotalLaws.{total-same, total-times, times-total, total-swap}
use Rattle.lin_alg.specs.EquationLaws.{dec}
use Rattle.couple.specs.Links.{Pair, IsPair, IsZero, average}
use Rattle.couple.specs.LinkLaws.{average-entry}
use Rattle.couple.specs.AddedRows.{ReachesFirst}

-- s goes to s q
by-right : (g : Group) (h : IsGroup g) (q : ℕ) → q < g.order → IsRenumbering g.order (λ s. g.product s q) (λ s. g.product s (g.inverse q))
by-right g h q l =
    let r = g.inverse q in
    let lr = h.inverse_below q l in
    record {
      below = λ s m. h.product_below s q m l;
      back-below = λ s m. h.product_below s r m lr;
      back = λ s m. h.product_assoc s q r m l lr ∙ ap (g.product s) (product-inverse g h q l) ∙ product-identity g h s m;
      forth = λ s m. h.product_assoc s r q m lr l ∙ ap (g.product s) (h.inverse-product q l) ∙ product-identity g h s m;
    }

-- (s q)^-1 = q^-1 s^-1
inverse-product-of : (g : Group) (h : IsGroup g) (s q : ℕ) → s < g.order → q < g.order → g.inverse (g.product s q) ≡ g.product (g.inverse q) (g.inverse s)
inverse-product-of g h s q ls lq =
    let sq = g.product s q in
    let lsq = h.product_below s q ls lq in
    let r = g.inverse q in
    let lr = h.inverse_below q lq in
    let t = g.inverse s in
    let lt = h.inverse_below s ls in
    let lrt = h.product_below r t lr lt in
    cancel g h sq (g.inverse sq) (g.product r t) lsq (h.inverse_below sq lsq) lrt
    (product-inverse g h sq lsq
    ∙ sym (h.product_assoc s q (g.product r t) ls lq lrt
    ∙ ap (g.product s) (sym (h.product_assoc q r t lq lr lt) ∙ ap (λ z. g.product z t) (product-inverse g h q lq) ∙ h.identity-product t lt)
    ∙ product-inverse g h s ls))

module _ {K : Type 0} (f : FieldOn K) where
  -- (a b)(c d) = (b c)(a d)
  four : (a b c d : K) → f.times (f.times a b) (f.times c d) ≡ f.times (f.times b c) (f.times a d)
  four a b c d =
      ap (λ x. f.times x (f.times c d)) (f.times_comm a b) ∙ f.times_assoc b a (f.times c d)
      ∙ ap (f.times b) (sym (f.times_assoc a c d) ∙ ap (λ x. f.times x d) (f.times_comm a c) ∙ f.times_assoc c a d)
      ∙ sym (f.times_assoc b c (f.times a d))

  -- a product of two sums
  product-sums : (n m : ℕ) (a b : ℕ → K) → f.times (total f n a) (total f m b) ≡ total f n (λ x. total f m (λ y. f.times (a x) (b y)))
  product-sums n m a b = sym (times-total f n (total f m b) a) ∙ total-same f n _ _ (λ x l. sym (total-times f m (a x) b))

  module _ (p : Pair K) (h : IsPair f p) where
    abbrev L : ℕ → ℕ → ℕ → K
    L = p.left

    abbrev R : ℕ → ℕ → ℕ → K
    R q = p.right (p.group.inverse q)

    pub moved-average : (q i j a b : ℕ) → q < p.group.order → i < p.rows → j < p.cols → a < p.rows → b < p.cols →
        average f p i j a b ≡ total f p.rows (λ x. total f p.cols (λ y. f.times (f.times (L q x i) (R q j y)) (average f p x y a b)))
    moved-average q i j a b lq li lj la lb =
        let g : ℕ → K = λ s. f.times (L s a i) (R s j b) in
        let c : ℕ → ℕ → K = λ x y. f.times (L q x i) (R q j y) in
        let d : ℕ → ℕ → ℕ → K = λ s x y. f.times (L s a x) (R s y b) in
        let lr = h.group.inverse_below q lq in
        average-entry f p i j a b li lj
        ∙ sym (renumbered f p.group.order _ _ (by-right p.group h.group q lq) g)
        ∙ total-same f p.group.order _ (λ s. total f p.rows (λ x. total f p.cols (λ y. f.times (c x y) (d s x y))))
        (λ s l.
        (λ t. f.times (h.left s q l lq a i la li t)
        ((ap (λ z. p.right z j b) (inverse-product-of p.group h.group s q l lq) ∙ h.right (p.group.inverse q) (p.group.inverse s) lr (h.group.inverse_below s l) j b lj lb) t))
        ∙ product-sums p.rows p.cols (λ x. f.times (L s a x) (L q x i)) (λ y. f.times (R q j y) (R s y b))
        ∙ total-same f p.rows _ _ (λ x m. total-same f p.cols _ _ (λ y n. four (L s a x) (L q x i) (R q j y) (R s y b))))
        ∙ total-swap f p.group.order p.rows (λ s x. total f p.cols (λ y. f.times (c x y) (d s x y)))
        ∙ total-same f p.rows _ _ (λ x m.
        total-swap f p.group.order p.cols (λ s y. f.times (c x y) (d s x y))
        ∙ total-same f p.cols _ _ (λ y n.
        total-times f p.group.order (c x y) (λ s. d s x y)
        ∙ ap (f.times (c x y)) (sym (average-entry f p x y a b m n))))

    pub zero-spread : (k : ℕ) → ((i : ℕ) → i < p.rows → ReachesFirst f p k i) → ((i j : ℕ) → i < k → i < p.rows → j < p.cols → IsZero f p (average f p i j)) →
        (i j : ℕ) → i < p.rows → j < p.cols → IsZero f p (average f p i j)
    zero-spread k reach z i j li lj a b la lb =
        let r = reach i li in
        moved-average r.0 i j a b r.1 li lj la lb
        ∙ all-nought f p.rows _ (λ x m. all-nought f p.cols _ (λ y n. elim (dec x k) [
          | inl l ↦ ap (f.times (f.times (L r.0 x i) (R r.0 j y))) (z x y l m n a b la lb) ∙ times-nought f (f.times (L r.0 x i) (R r.0 j y))
          | inr l ↦
              ap (λ t. f.times (f.times t (R r.0 j y)) (average f p x y a b)) (r.2 x l m)
              ∙ ap (λ t. f.times t (average f p x y a b)) (nought-times f (R r.0 j y)) ∙ nought-times f (average f p x y a b)
        ]))
