-- What projections obey.
--
-- projection-commutes: P commutes with each M(q)
-- other-column: a column of P for another atom, from images of those for the first atom
-- cut-inside, cut-past, column-inside, column-past: the entries of vectors that are cut
-- range-columns: the range of a matrix is the span of its columns
use Rattle.std.proofs.Common.{◌≡◌, ℕ, suc, zero, ◌+◌, ◌*◌, ◌<◌, ◌≤◌, inl, inr, refl, sym, ◌∙◌, ap, subst, arith, nat_eq, lt-ltb, le-ltb, if◌then◌else◌}
use Rattle.algebra.specs.NumberedGroup.{Group, IsGroup}
use Rattle.algebra.specs.NumberedGroupLaws.{product-inverse, product-identity, product-back, back-product}
use Rattle.algebra.specs.Sums.{IsRenumbering}
use Rattle.cyclo24.specs.FieldOn.{FieldOn}
use Rattle.cyclo24.specs.FieldLaws.{times-nought}
use Rattle.cyclo24.specs.Numerals.{of_whole}
use Rattle.cyclo24.specs.Sums.{total}
use Rattle.cyclo24.specs.SumLaws.{one-term, total-rows, renumbered, all-nought}
use Rattle.cyclo24.specs.TotalLaws.{total-same, total-plus, total-times, times-total, total-swap}
use Rattle.lin_alg.specs.EquationLaws.{dec, eq-other, dot-unit}
use Rattle.lin_alg.specs.Equations.{unit_vector}
use Rattle.lin_alg.specs.InsertLaws.{span-least}
use Rattle.lin_alg.specs.Matrices.{mul, apply, weighted, AreEqualBelow, IsRepresentation, IsClassFunction}
use Rattle.lin_alg.specs.Solving.{combination, plain_rows}
use Rattle.lin_alg.specs.SpanLaws.{funext}
use Rattle.lin_alg.specs.Spans.{less, IsInSpan, IsSubspace, HasRows, AreSame}
use Rattle.mode_project.specs.AtomSpace.{AtomSpace, size_of, matrix_of, IsAtomSpace}
use Rattle.mode_project.specs.AtomSpaceLaws.{matrices-multiply, matrix-unit, entry-at, column-below}
use Rattle.mode_project.specs.Projection.{projection, IsInRange, cut, column_of}

-- q goes to p q p^-1
pub by-conjugation : (g : Group) (h : IsGroup g) (p : ℕ) → p < g.order → IsRenumbering g.order (λ q. g.product (g.product p q) (g.inverse p)) (λ q. g.product (g.product (g.inverse p) q) p)
by-conjugation g h p lp =
    let s = g.inverse p in
    let ls = h.inverse_below p lp in
    record {
      below = λ q l. h.product_below (g.product p q) s (h.product_below p q lp l) ls;
      back-below = λ q l. h.product_below (g.product s q) p (h.product_below s q ls l) lp;
      back = λ q l.
          ap (λ z. g.product (g.product s z) p) (h.product_assoc p q s lp l ls)
          ∙ ap (λ z. g.product z p) (back-product g h p (g.product q s) lp (h.product_below q s l ls))
          ∙ h.product_assoc q s p l ls lp ∙ ap (g.product q) (h.inverse-product p lp) ∙ product-identity g h q l;
      forth = λ q l.
          ap (λ z. g.product (g.product p z) s) (h.product_assoc s q p ls l lp)
          ∙ ap (λ z. g.product z s) (product-back g h p (g.product q p) lp (h.product_below q p l lp))
          ∙ h.product_assoc q p s l lp ls ∙ ap (g.product q) (product-inverse g h p lp) ∙ product-identity g h q l;
    }

-- (p q p^-1) p = p q
conjugate-product : (g : Group) (h : IsGroup g) (p q : ℕ) → p < g.order → q < g.order → g.product (g.product (g.product p q) (g.inverse p)) p ≡ g.product p q
conjugate-product g h p q lp lq =
    let pq = g.product p q in
    let l = h.product_below p q lp lq in
    h.product_assoc pq (g.inverse p) p l (h.inverse_below p lp) lp ∙ ap (g.product pq) (h.inverse-product p lp) ∙ product-identity g h pq l

module _ {K : Type 0} (f : FieldOn K) where
  -- x (y z) = y (x z)
  times-past : (x y z : K) → f.times x (f.times y z) ≡ f.times y (f.times x z)
  times-past x y z = sym (f.times_assoc x y z) ∙ ap (λ w. f.times w z) (f.times_comm x y) ∙ f.times_assoc y x z

  -- (a b) v = a (b v)
  pub apply-product : (d : ℕ) (a b : ℕ → ℕ → K) (v : ℕ → K) (i : ℕ) → apply f d (mul f d a b) v i ≡ apply f d a (apply f d b v) i
  apply-product d a b v i =
      total-same f d _ _ (λ k l. sym (times-total f d (v k) (λ j. f.times (a i j) (b j k))))
      ∙ total-swap f d d (λ k j. f.times (f.times (a i j) (b j k)) (v k))
      ∙ total-same f d _ _ (λ j l. total-same f d _ _ (λ k m. f.times_assoc (a i j) (b j k) (v k)) ∙ total-times f d (a i j) (λ k. f.times (b j k) (v k)))

  -- (a b) c = a (b c)
  mul-assoc : (d : ℕ) (a b c : ℕ → ℕ → K) (i j : ℕ) → mul f d (mul f d a b) c i j ≡ mul f d a (mul f d b c) i j
  mul-assoc d a b c i j = apply-product d a b (λ k. c k j) i

  apply-same : (d : ℕ) (a b : ℕ → ℕ → K) (v : ℕ → K) (i : ℕ) → AreEqualBelow d a b → i < d → apply f d a v i ≡ apply f d b v i
  apply-same d a b v i e l = total-same f d _ _ (λ k m. ap (λ x. f.times x (v k)) (e i k l m))

  module _ (g : Group) (h : IsGroup g) (d : ℕ) (m : ℕ → ℕ → ℕ → K) (r : IsRepresentation f g d m) where
    -- P M(p) = sum of w(q) M(q p)
    right-product : (w : ℕ → K) (p : ℕ) → p < g.order → (i j : ℕ) → i < d → j < d
        → mul f d (weighted f g.order w m) (m p) i j ≡ total f g.order (λ q. f.times (w q) (m (g.product q p) i j))
    right-product w p lp i j li lj =
        total-same f d _ _ (λ k l. sym (times-total f g.order (m p k j) (λ q. f.times (w q) (m q i k))))
        ∙ total-swap f d g.order (λ k q. f.times (f.times (w q) (m q i k)) (m p k j))
        ∙ total-same f g.order _ _ (λ q lq. total-same f d _ _ (λ k l. f.times_assoc (w q) (m q i k) (m p k j)) ∙ total-times f d (w q) (λ k. f.times (m q i k) (m p k j))
        ∙ ap (f.times (w q)) (sym (r q p lq lp i j li lj)))

    -- M(p) P = sum of w(q) M(p q)
    pub left-product : (w : ℕ → K) (p : ℕ) → p < g.order → (i j : ℕ) → i < d → j < d
        → mul f d (m p) (weighted f g.order w m) i j ≡ total f g.order (λ q. f.times (w q) (m (g.product p q) i j))
    left-product w p lp i j li lj =
        total-same f d _ _ (λ k l. sym (total-times f g.order (m p i k) (λ q. f.times (w q) (m q k j))))
        ∙ total-swap f d g.order (λ k q. f.times (m p i k) (f.times (w q) (m q k j)))
        ∙ total-same f g.order _ _ (λ q lq. total-same f d _ _ (λ k l. times-past (m p i k) (w q) (m q k j)) ∙ total-times f d (w q) (λ k. f.times (m p i k) (m q k j))
        ∙ ap (f.times (w q)) (sym (r p q lp lq i j li lj)))

    -- P commutes with each M(p) where the weights are a class function
    commutes : (w : ℕ → K) → IsClassFunction g w → (p : ℕ) → p < g.order → AreEqualBelow d (mul f d (weighted f g.order w m) (m p)) (mul f d (m p) (weighted f g.order w m))
    commutes w c p lp i j li lj =
        right-product w p lp i j li lj
        ∙ sym (renumbered f g.order _ _ (by-conjugation g h p lp) (λ q. f.times (w q) (m (g.product q p) i j)))
        ∙ total-same f g.order _ _ (λ q lq. λ t. f.times (c q p lq lp t) (m (conjugate-product g h p q lp lq t) i j))
        ∙ sym (left-product w p lp i j li lj)

  module _ (s : AtomSpace) (law : IsAtomSpace s) (w : ℕ → K) (class : IsClassFunction s.group w) where
    abbrev d : ℕ
    d = size_of s

    abbrev P : ℕ → ℕ → K
    P = projection f s w

    matrices-commute : (q : ℕ) → q < s.group.order → AreEqualBelow d (mul f d P (matrix_of f s q)) (mul f d (matrix_of f s q) P)
    matrices-commute = commutes s.group law.group d (matrix_of f s) (matrices-multiply f s law) w class

    pub projection-commutes : (q : ℕ) → q < s.group.order → (v : ℕ → K) (i : ℕ) → i < d → apply f d P (apply f d (matrix_of f s q) v) i ≡ apply f d (matrix_of f s q) (apply f d P v) i
    projection-commutes q lq v i l =
        sym (apply-product d P (matrix_of f s q) v i) ∙ apply-same d _ _ v i (matrices-commute q lq) l ∙ apply-product d (matrix_of f s q) P v i

    -- P = P M(0)
    by-unit : (r j : ℕ) → j < d → P r j ≡ mul f d P (matrix_of f s 0) r j
    by-unit r j l =
        sym (dot-unit f d (P r) j l)
        ∙ total-same f d _ _ (λ k m. ap (f.times (P r k)) (sym (matrix-unit f s law k j m l)))

    pub other-column : (q i a r : ℕ) → q < s.group.order → i < s.atoms → a < s.each → r < d → s.image q 0 ≡ i
        → P r (i * s.each + a) ≡ total f s.each (λ b. f.times (of_whole f (s.turn (s.group.inverse q) b a)) (apply f d (matrix_of f s q) (column_of f d P b) r))
    other-column q i a r lq li la lr e =
        let c = s.each in
        let p = s.group.inverse q in
        let lp = law.group.inverse_below q lq in
        let j = i * c + a in
        let lj : j < d = column-below s.atoms c i a li la in
        let X : ℕ → ℕ → K = mul f d P (matrix_of f s q) in
        let back : s.image p i ≡ 0 = ap (s.image p) (sym e) ∙ law.images.back q 0 lq law.some in
        let entry : (m b : ℕ) → b < c → matrix_of f s p (m * c + b) j ≡ (if nat_eq m 0 then of_whole f (s.turn p b a) else f.nought) =
        λ m b lb. entry-at f s p m b i a lb la ∙ ap (λ z. if nat_eq m z then of_whole f (s.turn p b a) else f.nought) back in
        let term : (m : ℕ) → K = λ m. total f c (λ b. f.times (X r (m * c + b)) (matrix_of f s p (m * c + b) j)) in
        let first : (b : ℕ) → b < c → 0 * c + b < d = λ b lb. column-below s.atoms c 0 b law.some lb in
        by-unit r j lj
        ∙ total-same f d _ _ (λ k l. ap (f.times (P r k))
        (ap (λ z. matrix_of f s z k j) (sym (product-inverse s.group law.group q lq)) ∙ matrices-multiply f s law q p lq lp k j l lj))
        ∙ sym (mul-assoc d P (matrix_of f s q) (matrix_of f s p) r j)
        ∙ total-rows f s.atoms c (λ k. f.times (X r k) (matrix_of f s p k j))
        ∙ one-term f s.atoms 0 term law.some
        (λ m l n. all-nought f c _ (λ b lb. ap (f.times (X r (m * c + b))) (entry m b lb ∙ ap (λ t. if t then of_whole f (s.turn p b a) else f.nought) (eq-other m 0 n)) ∙ times-nought f (X r (m * c + b))))
        ∙ total-same f c _ _ (λ b lb.
        let z : 0 * c + b ≡ b = omega arith in
        ap (f.times (X r (0 * c + b))) (entry 0 b lb)
        ∙ f.times_comm (X r (0 * c + b)) (of_whole f (s.turn p b a))
        ∙ ap (f.times (of_whole f (s.turn p b a)))
        (matrices-commute q lq r (0 * c + b) lr (first b lb)
        ∙ total-same f d _ _ (λ k l. ap (f.times (matrix_of f s q r k)) (sym (ap (λ t. if t then P k (0 * c + b) else f.nought) (lt-ltb k d l))))
        ∙ ap (λ k. apply f d (matrix_of f s q) (column_of f d P k) r) z))

  -- the entries of a vector that is cut
  pub cut-inside : (d : ℕ) (v : ℕ → K) (i : ℕ) → i < d → cut f d v i ≡ v i
  cut-inside d v i l = ap (λ t. if t then v i else f.nought) (lt-ltb i d l)

  pub cut-past : (d : ℕ) (v : ℕ → K) (i : ℕ) → d ≤ i → cut f d v i ≡ f.nought
  cut-past d v i l = ap (λ t. if t then v i else f.nought) (le-ltb i d l)

  module _ (d : ℕ) (a : ℕ → ℕ → K) where
    pub column-inside : (k i : ℕ) → i < d → column_of f d a k i ≡ a i k
    column-inside k i l = ap (λ t. if t then a i k else f.nought) (lt-ltb i d l)

    pub column-past : (k i : ℕ) → d ≤ i → column_of f d a k i ≡ f.nought
    column-past k i l = ap (λ t. if t then a i k else f.nought) (le-ltb i d l)

    pub range-subspace : IsSubspace f (IsInRange f d a)
    range-subspace = record {
      has_nought = (λ j l. refl, ((λ _. f.nought), λ i l. sym (all-nought f d _ (λ k m. times-nought f (a i k)))));
      has_plus = λ v w h k. (
        λ j l. (λ t. f.plus (h.0 j l t) (k.0 j l t)) ∙ f.plus-nought f.nought,
        (
          (λ j. f.plus (h.1.0 j) (k.1.0 j)),
          λ i l. (λ t. f.plus (h.1.1 i l t) (k.1.1 i l t)) ∙ sym (total-same f d _ _ (λ j m. f.times-plus (a i j) (h.1.0 j) (k.1.0 j)) ∙ total-plus f d (λ j. f.times (a i j) (h.1.0 j)) (λ j. f.times (a i j) (k.1.0 j))),
        ),
      );
      has_times = λ c v h. (
        λ j l. ap (f.times c) (h.0 j l) ∙ times-nought f c,
        (
          (λ j. f.times c (h.1.0 j)),
          λ i l. ap (f.times c) (h.1.1 i l) ∙ sym (total-same f d _ _ (λ j m. times-past (a i j) c (h.1.0 j)) ∙ total-times f d c (λ j. f.times (a i j) (h.1.0 j))),
        ),
      );
    }

    pub column-in-range : (k : ℕ) → k < d → IsInRange f d a (column_of f d a k)
    column-in-range k l = (column-past k, (unit_vector f k, λ i m. column-inside k i m ∙ sym (dot-unit f d (a i) k l)))

    -- a combination of the first rows is in their span
    combination-member : (b : ℕ → ℕ → K) (x : ℕ → K) (k : ℕ) → IsInSpan f (plain_rows b k) (combination f k x b)
    combination-member b x zero = λ j. refl
    combination-member b x (suc k) =
        let v : ℕ → K = combination f k x b in
        let e : less f (combination f (suc k) x b) (x k) (b k) ≡ v =
        funext (λ j. f.plus_assoc (v j) (f.times (x k) (b k j)) (f.neg (f.times (x k) (b k j))) ∙ ap (f.plus (v j)) (f.plus-neg (f.times (x k) (b k j))) ∙ f.plus-nought (v j)) in
        (x k, subst (IsInSpan f (plain_rows b k)) (sym e) (combination-member b x k))

    columns-each : (P : (ℕ → K) → Type 0) (m : ℕ) → ((k : ℕ) → k < m → P (column_of f d a k)) → HasRows P (plain_rows (column_of f d a) m)
    columns-each P zero h = tt
    columns-each P (suc m) h = (h m (omega arith), columns-each P m (λ k l. h k (omega arith)))

    pub range-columns : AreSame (IsInRange f d a) (IsInSpan f (plain_rows (column_of f d a) d))
    range-columns v = (
      λ h.
          let e : combination f d h.1.0 (column_of f d a) ≡ v =
          funext (λ j. elim (dec j d) [
            | inl l ↦ total-same f d _ _ (λ k m. ap (f.times (h.1.0 k)) (column-inside k j l) ∙ f.times_comm (h.1.0 k) (a j k)) ∙ sym (h.1.1 j l)
            | inr l ↦ all-nought f d _ (λ k m. ap (f.times (h.1.0 k)) (column-past k j l) ∙ times-nought f (h.1.0 k)) ∙ sym (h.0 j l)
          ]) in
          subst (IsInSpan f (plain_rows (column_of f d a) d)) e (combination-member (column_of f d a) h.1.0 d),
      λ h. span-least f (IsInRange f d a) range-subspace (plain_rows (column_of f d a) d) (columns-each (IsInRange f d a) d column-in-range) v h,
    )
