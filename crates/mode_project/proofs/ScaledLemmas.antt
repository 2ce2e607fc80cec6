-- What projections of scaled weights obey.
--
-- range-scaled: P multiplies each vector of its range by the scale
-- trace-rank: the trace of P is the scale times the rank
-- rank-by-trace: so equal multiples tell the rank
use Rattle.std.proofs.Common.{◌≡◌, ℕ, suc, zero, ◌+◌, ◌<◌, inl, inr, true, false, refl, sym, ◌∙◌, ap, arith, List, [], ◌∷◌, length}
use Rattle.algebra.specs.NumberedGroup.{Group, IsGroup}
use Rattle.algebra.specs.NumberedGroupLaws.{product-back, back-product}
use Rattle.algebra.specs.Sums.{IsRenumbering}
use Rattle.cyclo24.specs.ExactField.{ExactField, Value}
use Rattle.cyclo24.specs.FieldOn.{FieldOn, ones}
use Rattle.cyclo24.specs.FieldLaws.{nought-times, unit-times, plus-times, plus-cancel, less-back}
use Rattle.cyclo24.specs.Sums.{total}
use Rattle.cyclo24.specs.SumLaws.{renumbered}
use Rattle.cyclo24.specs.TotalLaws.{total-same, total-plus, total-nought, total-times, times-total, total-swap}
use Rattle.lin_alg.specs.Matrices.{mul, apply, weighted, trace, IsRepresentation}
use Rattle.lin_alg.specs.Reduced.{ArePast, IsReduced, PivotsBelow}
use Rattle.lin_alg.specs.InsertLaws.{span-rows, rows-mono}
use Rattle.lin_alg.specs.SpanLaws.{order, less-at, in_span-less}
use Rattle.lin_alg.specs.Spans.{row_vectors, less, IsInSpan, HasRows}
use Rattle.mode_project.specs.Projection.{IsInRange, column_of, IsReducedFormOf}
use Rattle.mode_project.specs.ProjectionLaws.{left-product, apply-product, column-in-range, column-inside}
use Rattle.mode_project.specs.Scaled.{IsScale}

-- p goes to a^-1 p
by-left : (g : Group) (h : IsGroup g) (a : ℕ) → a < g.order → IsRenumbering g.order (λ p. g.product (g.inverse a) p) (λ q. g.product a q)
by-left g h a la =
    let ls = h.inverse_below a la in
    record {
      below = λ p l. h.product_below (g.inverse a) p ls l;
      back-below = λ q l. h.product_below a q la l;
      back = λ p l. product-back g h a p la l;
      forth = λ q l. back-product g h a q la l;
    }

module _ {K : Type 0} (f : FieldOn K) (g : Group) (h : IsGroup g) (d : ℕ) (m : ℕ → ℕ → ℕ → K) (r : IsRepresentation f g d m) (w : ℕ → K) where
  -- P b = sum of w(a) M(a) b
  sum-product : (b : ℕ → ℕ → K) (i j : ℕ) → mul f d (weighted f g.order w m) b i j ≡ total f g.order (λ a. f.times (w a) (mul f d (m a) b i j))
  sum-product b i j =
      total-same f d _ _ (λ k l. sym (times-total f g.order (b k j) (λ a. f.times (w a) (m a i k))))
      ∙ total-swap f d g.order (λ k a. f.times (f.times (w a) (m a i k)) (b k j))
      ∙ total-same f g.order _ _ (λ a la. total-same f d _ _ (λ k l. f.times_assoc (w a) (m a i k) (b k j)) ∙ total-times f d (w a) (λ k. f.times (m a i k) (b k j)))

  -- M(a) P = sum of w(a^-1 p) M(p)
  left-moved : (a : ℕ) → a < g.order → (i j : ℕ) → i < d → j < d
      → mul f d (m a) (weighted f g.order w m) i j ≡ total f g.order (λ p. f.times (w (g.product (g.inverse a) p)) (m p i j))
  left-moved a la i j li lj =
      left-product f g h d m r w a la i j li lj
      ∙ sym (renumbered f g.order _ _ (by-left g h a la) (λ q. f.times (w q) (m (g.product a q) i j)))
      ∙ total-same f g.order _ _ (λ p lp. ap (λ z. f.times (w (g.product (g.inverse a) p)) (m z i j)) (product-back g h a p la lp))

  -- P P = x P
  pub square-scaled : (x : K) → IsScale f g w x → (i j : ℕ) → i < d → j < d
      → mul f d (weighted f g.order w m) (weighted f g.order w m) i j ≡ f.times x (weighted f g.order w m i j)
  square-scaled x s i j li lj =
      sum-product (weighted f g.order w m) i j
      ∙ total-same f g.order _ _ (λ a la. ap (f.times (w a)) (left-moved a la i j li lj) ∙ sym (total-times f g.order (w a) (λ p. f.times (w (g.product (g.inverse a) p)) (m p i j))))
      ∙ total-swap f g.order g.order (λ a p. f.times (w a) (f.times (w (g.product (g.inverse a) p)) (m p i j)))
      ∙ total-same f g.order _ _ (λ p lp.
      total-same f g.order _ _ (λ a la. sym (f.times_assoc (w a) (w (g.product (g.inverse a) p)) (m p i j)))
      ∙ times-total f g.order (m p i j) (λ a. f.times (w a) (w (g.product (g.inverse a) p)))
      ∙ ap (λ z. f.times z (m p i j)) (s.square p lp)
      ∙ f.times_assoc x (w p) (m p i j))
      ∙ total-times f g.order x (λ p. f.times (w p) (m p i j))

module _ {K : Type 0} (f : FieldOn K) where
  -- the sum over the rows of a form
  abbrev pub added : ((ℕ × (ℕ → K)) → K) → List (ℕ × (ℕ → K)) → K
  added g [] = f.nought
  added g (r ∷ rs) = f.plus (g r) (added g rs)

  added-total : (d : ℕ) (g : ℕ → (ℕ × (ℕ → K)) → K) (rs : List (ℕ × (ℕ → K))) → total f d (λ j. added (g j) rs) ≡ added (λ r. total f d (λ j. g j r)) rs
  added-total d g [] = total-nought f d
  added-total d g (r ∷ rs) = total-plus f d (λ j. g j r) (λ j. added (g j) rs) ∙ ap (f.plus (total f d (λ j. g j r))) (added-total d g rs)

  added-same : (x : K) (rs : List (ℕ × (ℕ → K))) → added (λ _. x) rs ≡ total f (length rs) (λ _. x)
  added-same x [] = refl
  added-same x (r ∷ rs) = ap (f.plus x) (added-same x rs) ∙ f.plus_comm x (total f (length rs) (λ _. x))

  -- rows with later pivots see the same entries
  past-same : (p : ℕ) (u v : ℕ → K) (k : ℕ) → ((j : ℕ) → p < j → u j ≡ v j) → (rs : List (ℕ × (ℕ → K))) → ArePast f p rs
      → added (λ r. f.times (u r.0) (r.1 k)) rs ≡ added (λ r. f.times (v r.0) (r.1 k)) rs
  past-same p u v k e [] a = refl
  past-same p u v k e (r ∷ rs) a = λ t. f.plus (f.times (e r.0 a.0 t) (r.1 k)) (past-same p u v k e rs a.2 t)

  -- a member is the sum of the rows, each times the entry at its pivot
  expanded : (rs : List (ℕ × (ℕ → K))) → IsReduced f rs → (v : ℕ → K) → IsInSpan f (row_vectors rs) v → (k : ℕ) → v k ≡ added (λ r. f.times (v r.0) (r.1 k)) rs
  expanded [] r v h k = h k
  expanded (b ∷ rs) r v h k =
      let c = v b.0 in
      let u = less f v c b.1 in
      let rest : u k ≡ added (λ r. f.times (u r.0) (r.1 k)) rs = expanded rs r.2 u (in_span-less f b rs v r.0 r.1 h) k in
      let later = past-same b.0 u v k (λ j past. less-at f v c b.1 j (r.0.1 j past)) rs r.1 in
      sym (less-back f (v k) c (b.1 k)) ∙ f.plus_comm (u k) (f.times c (b.1 k)) ∙ ap (f.plus (f.times c (b.1 k))) (rest ∙ later)

  module _ (d : ℕ) (P : ℕ → ℕ → K) (x : K) (sq : (i j : ℕ) → i < d → j < d → mul f d P P i j ≡ f.times x (P i j)) where
    pub range-scaled : (v : ℕ → K) → IsInRange f d P v → (i : ℕ) → i < d → apply f d P v i ≡ f.times x (v i)
    range-scaled v h i l =
        let u = h.1.0 in
        total-same f d _ _ (λ k m. ap (f.times (P i k)) (h.1.1 k m))
        ∙ sym (apply-product f d P P u i)
        ∙ total-same f d _ _ (λ k m. ap (λ z. f.times z (u k)) (sq i k l m) ∙ f.times_assoc x (P i k) (u k))
        ∙ total-times f d x (λ k. f.times (P i k) (u k))
        ∙ ap (f.times x) (sym (h.1.1 i l))

    -- at its pivot, P times a row is the scale
    rows-scaled : (rs : List (ℕ × (ℕ → K))) → IsReduced f rs → PivotsBelow d rs → HasRows (IsInRange f d P) (row_vectors rs)
        → added (λ r. total f d (λ j. f.times (column_of f d P j r.0) (r.1 j))) rs ≡ added (λ _. x) rs
    rows-scaled [] r b h = refl
    rows-scaled (y ∷ rs) r b h =
        let own : total f d (λ j. f.times (column_of f d P j y.0) (y.1 j)) ≡ x =
        total-same f d _ _ (λ j l. ap (λ z. f.times z (y.1 j)) (column-inside f d P j y.0 b.0))
        ∙ range-scaled y.1 h.0 y.0 b.0 ∙ ap (f.times x) r.0.0 ∙ f.times-unit x in
        λ t. f.plus (own t) (rows-scaled rs r.2 b.1 h.1 t)

    pub trace-rank : (rs : List (ℕ × (ℕ → K))) → IsReducedFormOf f d (IsInRange f d P) rs → trace f d P ≡ total f (length rs) (λ _. x)
    trace-rank rs h =
        let inside = rows-mono f (IsInSpan f (row_vectors rs)) (IsInRange f d P) (λ v k. (h.spans v).0 k) (row_vectors rs) (span-rows f (row_vectors rs)) in
        total-same f d _ _ (λ j l. sym (column-inside f d P j j l) ∙ expanded rs h.form.reduced (column_of f d P j) ((h.spans (column_of f d P j)).1 (column-in-range f d P j l)) j)
        ∙ added-total d (λ j r. f.times (column_of f d P j r.0) (r.1 j)) rs
        ∙ rows-scaled rs h.form.reduced h.form.pivots inside
        ∙ added-same x rs

module _ (f : ExactField) where
  many : (x : Value f) (n : ℕ) → total f.laws n (λ _. x) ≡ f.laws.times (ones f.laws n) x
  many x zero = sym (nought-times f.laws x)
  many x (suc n) =
      ap (λ y. f.laws.plus y x) (many x n)
      ∙ f.laws.plus_comm (f.laws.times (ones f.laws n) x) x
      ∙ ap (λ y. f.laws.plus y (f.laws.times (ones f.laws n) x)) (sym (unit-times f.laws x))
      ∙ sym (plus-times f.laws f.laws.unit (ones f.laws n) x)

  ones-apart : (a k : ℕ) → ones f.laws a ≡ ones f.laws (a + suc k) → ⊥
  ones-apart zero k e =
      let s : zero + suc k ≡ suc k = omega arith in
      let t : true ≡ false = sym f.laws.is_nought-nought ∙ ap f.laws.is_nought (e ∙ ap (ones f.laws) s) ∙ f.characteristic_zero k in cc
  ones-apart (suc a) k e =
      let s : suc a + suc k ≡ suc (a + suc k) = omega arith in
      ones-apart a k (plus-cancel f.laws (ones f.laws a) (ones f.laws (a + suc k)) f.laws.unit
      (f.laws.plus_comm (ones f.laws a) f.laws.unit ∙ e ∙ ap (ones f.laws) s ∙ f.laws.plus_comm f.laws.unit (ones f.laws (a + suc k))))

  ones-same : (a b : ℕ) → ones f.laws a ≡ ones f.laws b → a ≡ b
  ones-same a b e =
      elim (order a b) [
        | inl l ↦ let k = gap a b l in absurd (ones-apart a k.0 (e ∙ ap (ones f.laws) k.1))
        | inr (inl h) ↦ h
        | inr (inr l) ↦ let k = gap b a l in absurd (ones-apart b k.0 (sym e ∙ ap (ones f.laws) k.1))
      ]
    where
      gap : (a b : ℕ) → a < b → (k : ℕ) × (b ≡ a + suc k)
      gap zero zero l = absurd (omega arith)
      gap zero (suc b) l = (b, omega arith)
      gap (suc a) zero l = absurd (omega arith)
      gap (suc a) (suc b) l = let m : a < b = omega arith in let k = gap a b m in let e : b ≡ a + suc k.0 = k.1 in (k.0, omega (arith, e))

  -- as many times the same number that isn't 0
  pub rank-by-trace : (x : Value f) (a b : ℕ) → f.laws.is_nought x ≡ false → total f.laws a (λ _. x) ≡ total f.laws b (λ _. x) → a ≡ b
  rank-by-trace x a b n e =
      let back : (y : Value f) → f.laws.times (f.laws.times y x) (f.laws.inverse x) ≡ y =
      λ y. f.laws.times_assoc y x (f.laws.inverse x) ∙ ap (f.laws.times y) (f.laws.times-inverse x n) ∙ f.laws.times-unit y in
      ones-same a b (sym (back (ones f.laws a)) ∙ ap (λ y. f.laws.times y (f.laws.inverse x)) (sym (many x a) ∙ e ∙ many x b) ∙ back (ones f.laws b))
