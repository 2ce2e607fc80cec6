-- The form of two vectors that sums, over all elements q of a group, the products of the entries of M(q) u and M(q) v.
--
-- apply-vectors, apply-total, apply-plus, apply-weighted: a matrix times equal vectors, times sums, and a sum of matrices times a vector
-- form-plus, form-same: the form of a sum, and of equal vectors
-- product-nought: the product of two sums of matrices whose weights have no convolution
-- symmetric: P is symmetric in the form where the weights are even
-- positive: only the zero vector has the form 0 with itself, over a field where a sum of squares is zero only where each is
-- cross-nought: vectors of the ranges of apart projections have the form 0
use Rattle.std.proofs.Common.{◌≡◌, ℕ, ◌+◌, ◌*◌, ◌/◌, ◌%◌, ◌<◌, refl, sym, ◌∙◌, ap, if◌then◌else◌}
use Rattle.algebra.specs.NumberedGroup.{Group, IsGroup}
use Rattle.algebra.specs.NumberedGroupLaws.{product-inverse, product-identity, product-back, back-product}
use Rattle.algebra.specs.Sums.{IsRenumbering}
use Rattle.cyclo24.specs.FieldOn.{FieldOn}
use Rattle.cyclo24.specs.FieldLaws.{times-nought, nought-times, unit-times, plus-times}
use Rattle.cyclo24.specs.Sums.{total, IsReal}
use Rattle.cyclo24.specs.SumLaws.{all-nought, one-term, total-rows, renumbered}
use Rattle.cyclo24.specs.TotalLaws.{total-same, total-plus, total-times, times-total, total-swap}
use Rattle.lin_alg.specs.EquationLaws.{eq-self, eq-other}
use Rattle.lin_alg.specs.Matrices.{apply, weighted, convolution, unit_entry, AreEqualBelow, IsRepresentation}
use Rattle.induce.specs.Apart.{IsEven}
use Rattle.mode_project.specs.AtomSpaceLaws.{row-at, number-at, column-below}
use Rattle.mode_project.specs.ProjectionLaws.{apply-product}

module _ (g : Group) (h : IsGroup g) where
  by-left : (a : ℕ) → a < g.order → IsRenumbering g.order (g.product a) (g.product (g.inverse a))
  by-left a l = record {
    below = λ b m. h.product_below a b l m;
    back-below = λ b m. h.product_below (g.inverse a) b (h.inverse_below a l) m;
    back = λ b m. back-product g h a b l m;
    forth = λ b m. product-back g h a b l m;
  }

  right-back : (a b : ℕ) → a < g.order → b < g.order → g.product (g.product b a) (g.inverse a) ≡ b
  right-back a b l m = h.product_assoc b a (g.inverse a) m l (h.inverse_below a l) ∙ ap (g.product b) (product-inverse g h a l) ∙ product-identity g h b m

  right-forth : (a b : ℕ) → a < g.order → b < g.order → g.product (g.product b (g.inverse a)) a ≡ b
  right-forth a b l m = h.product_assoc b (g.inverse a) a m (h.inverse_below a l) l ∙ ap (g.product b) (h.inverse-product a l) ∙ product-identity g h b m

  by-right : (a : ℕ) → a < g.order → IsRenumbering g.order (λ b. g.product b a) (λ b. g.product b (g.inverse a))
  by-right a l = record {
    below = λ b m. h.product_below b a m l;
    back-below = λ b m. h.product_below b (g.inverse a) m (h.inverse_below a l);
    back = λ b m. right-back a b l m;
    forth = λ b m. right-forth a b l m;
  }

  twice-inverse : (a : ℕ) → a < g.order → g.inverse (g.inverse a) ≡ a
  twice-inverse a l =
      let m = h.inverse_below a l in
      let n = h.inverse_below (g.inverse a) m in
      sym (product-identity g h (g.inverse (g.inverse a)) n) ∙ ap (g.product (g.inverse (g.inverse a))) (sym (h.inverse-product a l)) ∙ back-product g h (g.inverse a) a m l

  by-inverse : IsRenumbering g.order g.inverse g.inverse
  by-inverse = record { below = h.inverse_below; back-below = h.inverse_below; back = twice-inverse; forth = twice-inverse }

module _ {K : Type 0} (f : FieldOn K) where
  times-past : (x y z : K) → f.times x (f.times y z) ≡ f.times y (f.times x z)
  times-past x y z = sym (f.times_assoc x y z) ∙ ap (λ w. f.times w z) (f.times_comm x y) ∙ f.times_assoc y x z

  pub apply-vectors : (d : ℕ) (a : ℕ → ℕ → K) (u v : ℕ → K) → ((k : ℕ) → k < d → u k ≡ v k) → (i : ℕ) → apply f d a u i ≡ apply f d a v i
  apply-vectors d a u v e i = total-same f d _ _ (λ k l. ap (f.times (a i k)) (e k l))

  pub apply-plus : (d : ℕ) (a : ℕ → ℕ → K) (u v : ℕ → K) (i : ℕ) → apply f d a (λ k. f.plus (u k) (v k)) i ≡ f.plus (apply f d a u i) (apply f d a v i)
  apply-plus d a u v i = total-same f d _ _ (λ k l. f.times-plus (a i k) (u k) (v k)) ∙ total-plus f d (λ k. f.times (a i k) (u k)) (λ k. f.times (a i k) (v k))

  pub apply-total : (n d : ℕ) (a : ℕ → ℕ → K) (w : ℕ → K) (x : ℕ → ℕ → K) (i : ℕ)
      → apply f d a (λ k. total f n (λ q. f.times (w q) (x q k))) i ≡ total f n (λ q. f.times (w q) (apply f d a (x q) i))
  apply-total n d a w x i =
      total-same f d _ _ (λ k l. sym (total-times f n (a i k) (λ q. f.times (w q) (x q k))))
      ∙ total-swap f d n (λ k q. f.times (a i k) (f.times (w q) (x q k)))
      ∙ total-same f n _ _ (λ q l. total-same f d _ _ (λ k m. times-past (a i k) (w q) (x q k)) ∙ total-times f d (w q) (λ k. f.times (a i k) (x q k)))

  pub apply-weighted : (n d : ℕ) (w : ℕ → K) (m : ℕ → ℕ → ℕ → K) (u : ℕ → K) (i : ℕ) → apply f d (weighted f n w m) u i ≡ total f n (λ q. f.times (w q) (apply f d (m q) u i))
  apply-weighted n d w m u i =
      total-same f d _ _ (λ k l. sym (times-total f n (u k) (λ q. f.times (w q) (m q i k))))
      ∙ total-swap f d n (λ k q. f.times (f.times (w q) (m q i k)) (u k))
      ∙ total-same f n _ _ (λ q l. total-same f d _ _ (λ k lk. f.times_assoc (w q) (m q i k) (u k)) ∙ total-times f d (w q) (λ k. f.times (m q i k) (u k)))

  module _ (g : Group) (h : IsGroup g) (d : ℕ) (m : ℕ → ℕ → ℕ → K) (r : IsRepresentation f g d m) where
    abbrev n : ℕ
    n = g.order

    -- M(q) u
    abbrev image : ℕ → (ℕ → K) → ℕ → K
    image q u = apply f d (m q) u

    abbrev P : (ℕ → K) → (ℕ → K) → ℕ → K
    P w u = apply f d (weighted f n w m) u

    image-twice : (a b : ℕ) → a < n → b < n → (v : ℕ → K) (i : ℕ) → i < d → image (g.product a b) v i ≡ image a (image b v) i
    image-twice a b la lb v i li = total-same f d _ _ (λ k lk. ap (λ x. f.times x (v k)) (r a b la lb i k li lk)) ∙ apply-product f d (m a) (m b) v i

    -- M(a) P v, with b = a^-1 p
    image-weighted : (u : ℕ → K) (a : ℕ) → a < n → (v : ℕ → K) (i : ℕ) → i < d → image a (P u v) i ≡ total f n (λ p. f.times (u (g.product (g.inverse a) p)) (image p v i))
    image-weighted u a la v i li =
        let s = g.inverse a in
        apply-vectors d (m a) (P u v) (λ k. total f n (λ b. f.times (u b) (image b v k))) (λ k lk. apply-weighted n d u m v k) i
        ∙ apply-total n d (m a) u (λ b. image b v) i
        ∙ total-same f n _ _ (λ b lb. ap (f.times (u b)) (sym (image-twice a b la lb v i li)))
        ∙ sym (renumbered f n (g.product s) (g.product (g.inverse s)) (by-left g h s (h.inverse_below a la)) (λ b. f.times (u b) (image (g.product a b) v i)))
        ∙ total-same f n _ _ (λ p lp. ap (λ x. f.times (u (g.product s p)) (image x v i)) (product-back g h a p la lp))

    -- the product of two projections, by the convolution of their weights
    pub product-nought : (w u : ℕ → K) → ((p : ℕ) → p < n → convolution f g w u p ≡ f.nought) → (v : ℕ → K) (i : ℕ) → i < d → P w (P u v) i ≡ f.nought
    product-nought w u z v i li =
        apply-weighted n d w m (P u v) i
        ∙ total-same f n _ _ (λ a la. ap (f.times (w a)) (image-weighted u a la v i li) ∙ sym (total-times f n (w a) (λ p. f.times (u (g.product (g.inverse a) p)) (image p v i))))
        ∙ total-swap f n n (λ a p. f.times (w a) (f.times (u (g.product (g.inverse a) p)) (image p v i)))
        ∙ all-nought f n _ (λ p lp.
        total-same f n _ _ (λ a la. sym (f.times_assoc (w a) (u (g.product (g.inverse a) p)) (image p v i)))
        ∙ times-total f n (image p v i) (λ a. f.times (w a) (u (g.product (g.inverse a) p)))
        ∙ ap (λ x. f.times x (image p v i)) (z p lp) ∙ nought-times f (image p v i))

    -- the form
    abbrev pub form : (ℕ → K) → (ℕ → K) → K
    form u v = total f n (λ q. total f d (λ i. f.times (image q u i) (image q v i)))

    form-comm : (u v : ℕ → K) → form u v ≡ form v u
    form-comm u v = total-same f n _ _ (λ q lq. total-same f d _ _ (λ i li. f.times_comm (image q u i) (image q v i)))

    pub form-same : (u u' v v' : ℕ → K) → ((i : ℕ) → i < d → u i ≡ u' i) → ((i : ℕ) → i < d → v i ≡ v' i) → form u v ≡ form u' v'
    form-same u u' v v' e k = total-same f n _ _ (λ q lq. total-same f d _ _ (λ i li t. f.times (apply-vectors d (m q) u u' e i t) (apply-vectors d (m q) v v' k i t)))

    pub form-plus : (u x v : ℕ → K) → form (λ i. f.plus (u i) (x i)) v ≡ f.plus (form u v) (form x v)
    form-plus u x v =
        total-same f n _ _ (λ q lq.
        total-same f d _ _ (λ i li. ap (λ z. f.times z (image q v i)) (apply-plus d (m q) u x i) ∙ plus-times f (image q u i) (image q x i) (image q v i))
        ∙ total-plus f d (λ i. f.times (image q u i) (image q v i)) (λ i. f.times (image q x i) (image q v i)))
        ∙ total-plus f n (λ q. total f d (λ i. f.times (image q u i) (image q v i))) (λ q. total f d (λ i. f.times (image q x i) (image q v i)))

    form-nought : (u v : ℕ → K) → ((i : ℕ) → i < d → v i ≡ f.nought) → form u v ≡ f.nought
    form-nought u v z =
        all-nought f n _ (λ q lq. all-nought f d _ (λ i li.
        ap (f.times (image q u i)) (all-nought f d _ (λ k lk. ap (f.times (m q i k)) (z k lk) ∙ times-nought f (m q i k))) ∙ times-nought f (image q u i)))

    pub nought-form : (u v : ℕ → K) → ((i : ℕ) → i < d → u i ≡ f.nought) → form u v ≡ f.nought
    nought-form u v z = form-comm u v ∙ form-nought v u z

    form-total : (w : ℕ → K) (x : ℕ → ℕ → K) (v : ℕ → K) → form (λ k. total f n (λ q. f.times (w q) (x q k))) v ≡ total f n (λ q. f.times (w q) (form (x q) v))
    form-total w x v =
        total-same f n _ _ (λ p lp.
        total-same f d _ _ (λ i li.
        ap (λ z. f.times z (image p v i)) (apply-total n d (m p) w x i)
        ∙ sym (times-total f n (image p v i) (λ q. f.times (w q) (image p (x q) i)))
        ∙ total-same f n _ _ (λ q lq. f.times_assoc (w q) (image p (x q) i) (image p v i)))
        ∙ total-swap f d n (λ i q. f.times (w q) (f.times (image p (x q) i) (image p v i)))
        ∙ total-same f n _ _ (λ q lq. total-times f d (w q) (λ i. f.times (image p (x q) i) (image p v i))))
        ∙ total-swap f n n (λ p q. f.times (w q) (total f d (λ i. f.times (image p (x q) i) (image p v i))))
        ∙ total-same f n _ _ (λ q lq. total-times f n (w q) (λ p. total f d (λ i. f.times (image p (x q) i) (image p v i))))

    form-weighted : (w u v : ℕ → K) → form (P w u) v ≡ total f n (λ q. f.times (w q) (form (image q u) v))
    form-weighted w u v =
        form-same (P w u) (λ k. total f n (λ q. f.times (w q) (image q u k))) v v (λ i li. apply-weighted n d w m u i) (λ i li. refl) ∙ form-total w (λ q. image q u) v

    -- each M(p) keeps the form: that of M(p) u and v is that of u and M(p^-1) v
    form-moved : (p : ℕ) → p < n → (u v : ℕ → K) → form (image p u) v ≡ form u (image (g.inverse p) v)
    form-moved p lp u v =
        let s = g.inverse p in
        let ls = h.inverse_below p lp in
        let G : ℕ → K = λ x. total f d (λ i. f.times (image x u i) (image (g.product x s) v i)) in
        total-same f n _ (λ q. G (g.product q p)) (λ q lq. total-same f d _ _ (λ i li t. f.times (sym (image-twice q p lq lp u i li) t) (image (sym (right-back g h p q lp lq) t) v i)))
        ∙ renumbered f n (λ q. g.product q p) (λ q. g.product q s) (by-right g h p lp) G
        ∙ total-same f n _ _ (λ q lq. total-same f d _ _ (λ i li. ap (f.times (image q u i)) (image-twice q s lq ls v i li)))

    pub symmetric : (w : ℕ → K) → IsEven g w → (u v : ℕ → K) → form (P w u) v ≡ form u (P w v)
    symmetric w even u v =
        form-weighted w u v
        ∙ total-same f n _ _ (λ q lq t. f.times (sym (even q lq) t) (form-moved q lq u v t))
        ∙ renumbered f n g.inverse g.inverse (by-inverse g h) (λ q. f.times (w q) (form u (image q v)))
        ∙ total-same f n _ _ (λ q lq. ap (f.times (w q)) (form-comm u (image q v)))
        ∙ sym (form-weighted w v u) ∙ form-comm (P w v) u

    pub positive : IsReal f → AreEqualBelow d (m 0) (unit_entry f) → (v : ℕ → K) → form v v ≡ f.nought → (i : ℕ) → i < d → v i ≡ f.nought
    positive real unit v z i li =
        let G : ℕ → K = λ t. image (t / d) v (t % d) in
        let at : (q k : ℕ) → k < d → G (q * d + k) ≡ image q v k = λ q k lk t. image (row-at d q k lk t) v (number-at d q k lk t) in
        let squares : total f (n * d) (λ t. f.times (G t) (G t)) ≡ f.nought =
        total-rows f n d (λ t. f.times (G t) (G t))
        ∙ total-same f n _ _ (λ q lq. total-same f d _ _ (λ k lk t. f.times (at q k lk t) (at q k lk t))) ∙ z in
        let own : f.times (unit_entry f i i) (v i) ≡ v i = ap (λ b. f.times (if b then f.unit else f.nought) (v i)) (eq-self i) ∙ unit-times f (v i) in
        let first : image 0 v i ≡ v i =
        total-same f d _ _ (λ k lk. ap (λ x. f.times x (v k)) (unit i k li lk))
        ∙ one-term f d i (λ k. f.times (unit_entry f i k) (v k)) li (λ k lk o. ap (λ b. f.times (if b then f.unit else f.nought) (v k)) (eq-other i k (λ e. o (sym e))) ∙ nought-times f (v k))
        ∙ own in
        sym first ∙ sym (at 0 i li) ∙ real (n * d) G squares (0 * d + i) (column-below n d 0 i h.identity_below li)

    -- vectors of the ranges of two projections that are apart
    pub cross-nought : (w u : ℕ → K) → IsEven g w → ((p : ℕ) → p < n → convolution f g w u p ≡ f.nought)
        → (x a y c : ℕ → K) → ((i : ℕ) → i < d → x i ≡ P w a i) → ((i : ℕ) → i < d → y i ≡ P u c i) → form x y ≡ f.nought
    cross-nought w u even z x a y c ex ey =
        form-same x (P w a) y (P u c) ex ey ∙ symmetric w even a (P u c) ∙ form-nought a (P w (P u c)) (λ i li. product-nought w u z c i li)
