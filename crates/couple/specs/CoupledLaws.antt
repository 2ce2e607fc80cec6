-- What the coupled action of two actions of one group obeys.
--
-- entry-front, entry-right, entry-under, entry-back: the entries of its four blocks
-- coupled-image: the image of a pair is the pair of the images
-- pair-each: each vector is a pair
-- coupled-fixed: what fixes a pair is what fixes both vectors; coupled-stabiliser: the same of lists
-- coupled-lawful: its laws
use Rattle.std.proofs.Common.{◌≡◌, ◌↔◌, ℕ, ◌<◌, ◌≤◌, ◌+◌, ◌-◌, ℤ, Bool, List, true, false, refl, sym, ◌∙◌, ap, subst, arith, ltb, lt-ltb, le-ltb, nat_eq, if◌then◌else◌}
use Rattle.std.proofs.lemmas.Bool.{ltb-true, ltb-false}
use Rattle.algebra.specs.RisingLists.{IsRisingListOf}
use Rattle.cyclo24.specs.FieldOn.{FieldOn}
use Rattle.cyclo24.specs.ExactField.{ExactField, Value}
use Rattle.cyclo24.specs.FieldLaws.{nought-plus, nought-times, times-nought}
use Rattle.cyclo24.specs.SumLaws.{all-nought, total-append}
use Rattle.cyclo24.specs.Sums.{total}
use Rattle.cyclo24.specs.TotalLaws.{total-same}
use Rattle.lin_alg.specs.Action.{Action, IsAction, IsFixed, entry_of, image, lift}
use Rattle.lin_alg.specs.EquationLaws.{eq-other}
use Rattle.lin_alg.specs.Matrices.{mul, apply, unit_entry}
use Rattle.lin_alg.specs.Solving.{joined}
use Rattle.lin_alg.specs.SolvingLaws.{joined-front, joined-behind}
use Rattle.couple.specs.Listed.{lift-list}
use Rattle.couple.specs.Coupled.{IsOneGroup, coupled, pair, second, IsInBoth, AreInBoth}

module _ {K : Type 0} (f : FieldOn K) (n m : ℕ) where
  -- the matrix with the blocks a and b on its diagonal
  abbrev blocks : (ℕ → ℕ → K) → (ℕ → ℕ → K) → ℕ → ℕ → K
  blocks a b i j = if ltb i n then (if ltb j n then a i j else f.nought) else (if ltb j n then f.nought else b (i - n) (j - n))

  first-part : (x : Bool) (a c : ℕ → K) → total f n (λ k. f.times (if x then a k else f.nought) (c k)) ≡ (if x then total f n (λ k. f.times (a k) (c k)) else f.nought)
  first-part true a c = refl
  first-part false a c = all-nought f n _ (λ k l. nought-times f (c k))

  second-part : (x : Bool) (b c : ℕ → K) → total f m (λ k. f.times (if x then f.nought else b k) (c k)) ≡ (if x then f.nought else total f m (λ k. f.times (b k) (c k)))
  second-part true b c = all-nought f m _ (λ k l. nought-times f (c k))
  second-part false b c = refl

  parts-joined : (x : Bool) (s t : K) → f.plus (if x then s else f.nought) (if x then f.nought else t) ≡ (if x then s else t)
  parts-joined true s t = f.plus-nought s
  parts-joined false s t = nought-plus f t

  -- blocks take a pair to the pair of the images
  blocks-apply : (a b : ℕ → ℕ → K) (v w : ℕ → K) (i : ℕ) → apply f (n + m) (blocks a b) (joined n v w) i ≡ joined n (apply f n a v) (apply f m b w) i
  blocks-apply a b v w i =
      let x : Bool = ltb i n in
      total-append f n m (λ k. f.times (blocks a b i k) (joined n v w k))
      ∙ (λ t. f.plus
      ((total-same f n _ (λ k. f.times (if x then a i k else f.nought) (v k))
      (λ k l. λ s. f.times (if x then (if lt-ltb k n l s then a i k else f.nought) else (if lt-ltb k n l s then f.nought else b (i - n) (k - n))) (joined-front n v w k l s))
      ∙ first-part x (a i) v) t)
      ((total-same f m _ (λ k. f.times (if x then f.nought else b (i - n) k) (w k))
      (λ k l.
      let past : n ≤ n + k = omega arith in
      let e : n + k - n ≡ k = omega arith in
      λ s. f.times (if x then (if le-ltb (n + k) n past s then a i (n + k) else f.nought) else (if le-ltb (n + k) n past s then f.nought else b (i - n) (e s))) (joined-behind n v w k s))
      ∙ second-part x (b (i - n)) w) t))
      ∙ parts-joined x (apply f n a v i) (apply f m b w (i - n))

  front-column : (y : Bool) (a c : ℕ → ℕ → K) (i j : ℕ) → apply f n a (λ k. if y then c k j else f.nought) i ≡ (if y then mul f n a c i j else f.nought)
  front-column true a c i j = refl
  front-column false a c i j = all-nought f n _ (λ k l. times-nought f (a i k))

  back-column : (y : Bool) (b d : ℕ → ℕ → K) (i j : ℕ) → apply f m b (λ k. if y then f.nought else d k j) i ≡ (if y then f.nought else mul f m b d i j)
  back-column true b d i j = all-nought f m _ (λ k l. times-nought f (b i k))
  back-column false b d i j = refl

  blocks-multiply : (a b c d : ℕ → ℕ → K) (i j : ℕ) → mul f (n + m) (blocks a b) (blocks c d) i j ≡ blocks (mul f n a c) (mul f m b d) i j
  blocks-multiply a b c d i j =
      blocks-apply a b (λ k. if ltb j n then c k j else f.nought) (λ k. if ltb j n then f.nought else d k (j - n)) i
      ∙ (λ t. if ltb i n then front-column (ltb j n) a c i j t else back-column (ltb j n) b d (i - n) (j - n) t)

  -- where the blocks agree with those of another matrix
  blocks-same : (a b a' b' : ℕ → ℕ → K) (i j : ℕ) → i < n + m → j < n + m → ((k l : ℕ) → k < n → l < n → a k l ≡ a' k l) → ((k l : ℕ) → k < m → l < m → b k l ≡ b' k l) → blocks a b i j ≡ blocks a' b' i j
  blocks-same a b a' b' i j li lj e h = by_tests (ltb i n) (ltb j n) refl refl where
    by_tests : (x y : Bool) → ltb i n ≡ x → ltb j n ≡ y →
        (if x then (if y then a i j else f.nought) else (if y then f.nought else b (i - n) (j - n))) ≡ (if x then (if y then a' i j else f.nought) else (if y then f.nought else b' (i - n) (j - n)))
    by_tests true true s t = e i j (ltb-true i n s) (ltb-true j n t)
    by_tests true false s t = refl
    by_tests false true s t = refl
    by_tests false false s t =
        let p = ltb-false i n s in
        let q = ltb-false j n t in
        let li' : i - n < m = omega (arith, li, p) in
        let lj' : j - n < m = omega (arith, lj, q) in
        h (i - n) (j - n) li' lj'

  -- the blocks of unit matrices
  blocks-unit : (i j : ℕ) → blocks (unit_entry f) (unit_entry f) i j ≡ unit_entry f i j
  blocks-unit i j = by_tests (ltb i n) (ltb j n) refl refl where
    by_tests : (x y : Bool) → ltb i n ≡ x → ltb j n ≡ y →
        (if x then (if y then unit_entry f i j else f.nought) else (if y then f.nought else unit_entry f (i - n) (j - n))) ≡ unit_entry f i j
    by_tests true true s t = refl
    by_tests true false s t =
        let l = ltb-true i n s in
        let p = ltb-false j n t in
        sym (ap (λ b. if b then f.unit else f.nought) (eq-other i j (λ e. absurd (omega (arith, l, p, e)))))
    by_tests false true s t =
        let p = ltb-false i n s in
        let l = ltb-true j n t in
        sym (ap (λ b. if b then f.unit else f.nought) (eq-other i j (λ e. absurd (omega (arith, l, p, e)))))
    by_tests false false s t =
        let p = ltb-false i n s in
        let q = ltb-false j n t in
        let e : nat_eq (i - n) (j - n) ≡ nat_eq i j = grind arith in
        ap (λ b. if b then f.unit else f.nought) e

-- where the parts of two pairs are equal, the pairs are
pairs-same : {K : Type 0} (n m : ℕ) (v w v' w' : ℕ → K) (i : ℕ) → i < n + m → ((k : ℕ) → k < n → v k ≡ v' k) → ((k : ℕ) → k < m → w k ≡ w' k) → joined n v w i ≡ joined n v' w' i
pairs-same {K} n m v w v' w' i l e h = by_test (ltb i n) refl where
  by_test : (x : Bool) → ltb i n ≡ x → (if x then v i else w (i - n)) ≡ (if x then v' i else w' (i - n))
  by_test true s = e i (ltb-true i n s)
  by_test false s =
      let p = ltb-false i n s in
      let li : i - n < m = omega (arith, l, p) in
      h (i - n) li

module _ (f : ExactField) where
  lift-block : (x y : Bool) (s t : List ℤ) → lift f.laws (if x then (if y then s else f.laws.nought.0) else (if y then f.laws.nought.0 else t)) ≡ (if x then (if y then lift f.laws s else f.laws.nought) else (if y then f.laws.nought else lift f.laws t))
  lift-block true true s t = refl
  lift-block true false s t = lift-list f f.laws.nought
  lift-block false true s t = lift-list f f.laws.nought
  lift-block false false s t = refl

  valid-block : (x y : Bool) (s t : List ℤ) → (x ≡ true → y ≡ true → f.valid s ≡ true) → (x ≡ false → y ≡ false → f.valid t ≡ true) →
      f.valid (if x then (if y then s else f.laws.nought.0) else (if y then f.laws.nought.0 else t)) ≡ true
  valid-block true true s t h k = h refl refl
  valid-block true false s t h k = f.laws.nought.1
  valid-block false true s t h k = f.laws.nought.1
  valid-block false false s t h k = k refl refl

  module _ (a b : Action) where
    abbrev both : Action
    both = coupled f.laws a b

    -- the matrix of q has the blocks of both parts
    entry-blocks : (q i j : ℕ) → entry_of f.laws both q i j ≡ blocks f.laws a.dim b.dim (entry_of f.laws a q) (entry_of f.laws b q) i j
    entry-blocks q i j = lift-block (ltb i a.dim) (ltb j a.dim) (a.entry q i j) (b.entry q (i - a.dim) (j - a.dim))

    pub entry-front : (q i j : ℕ) → i < a.dim → j < a.dim → entry_of f.laws both q i j ≡ entry_of f.laws a q i j
    entry-front q i j li lj = λ t. lift f.laws (if lt-ltb i a.dim li t then (if lt-ltb j a.dim lj t then a.entry q i j else f.laws.nought.0) else (if lt-ltb j a.dim lj t then f.laws.nought.0 else b.entry q (i - a.dim) (j - a.dim)))

    pub entry-right : (q i j : ℕ) → i < a.dim → a.dim ≤ j → entry_of f.laws both q i j ≡ f.laws.nought
    entry-right q i j li lj =
        (λ t. lift f.laws (if lt-ltb i a.dim li t then (if le-ltb j a.dim lj t then a.entry q i j else f.laws.nought.0) else (if le-ltb j a.dim lj t then f.laws.nought.0 else b.entry q (i - a.dim) (j - a.dim))))
        ∙ lift-list f f.laws.nought

    pub entry-under : (q i j : ℕ) → a.dim ≤ i → j < a.dim → entry_of f.laws both q i j ≡ f.laws.nought
    entry-under q i j li lj =
        (λ t. lift f.laws (if le-ltb i a.dim li t then (if lt-ltb j a.dim lj t then a.entry q i j else f.laws.nought.0) else (if lt-ltb j a.dim lj t then f.laws.nought.0 else b.entry q (i - a.dim) (j - a.dim))))
        ∙ lift-list f f.laws.nought

    pub entry-back : (q i j : ℕ) → a.dim ≤ i → entry_of f.laws both q i (a.dim + j) ≡ entry_of f.laws b q (i - a.dim) j
    entry-back q i j li =
        let lj : a.dim ≤ a.dim + j = omega arith in
        let e : a.dim + j - a.dim ≡ j = omega arith in
        λ t. lift f.laws (if le-ltb i a.dim li t then (if le-ltb (a.dim + j) a.dim lj t then a.entry q i (a.dim + j) else f.laws.nought.0) else (if le-ltb (a.dim + j) a.dim lj t then f.laws.nought.0 else b.entry q (i - a.dim) (e t)))

    -- the image of a pair is the pair of the images
    pub coupled-image : (q : ℕ) (v w : ℕ → Value f) (i : ℕ) → image f.laws both q (pair a v w) i ≡ pair a (image f.laws a q v) (image f.laws b q w) i
    coupled-image q v w i =
        total-same f.laws (a.dim + b.dim) _ _ (λ k l. ap (λ x. f.laws.times x (pair a v w k)) (entry-blocks q i k))
        ∙ blocks-apply f.laws a.dim b.dim (entry_of f.laws a q) (entry_of f.laws b q) v w i

    -- what fixes a pair fixes both vectors, and the other way round
    pub coupled-fixed : (v w : ℕ → Value f) (q : ℕ) → IsFixed f.laws both q (pair a v w) ↔ IsInBoth f.laws a b v w q
    coupled-fixed v w q = (
      λ h. (
        λ i l.
            let m : i < a.dim + b.dim = omega (arith, l) in
            sym (joined-front a.dim (image f.laws a q v) (image f.laws b q w) i l) ∙ sym (coupled-image q v w i) ∙ h i m ∙ joined-front a.dim v w i l,
        λ i l.
            let m : a.dim + i < a.dim + b.dim = omega (arith, l) in
            sym (joined-behind a.dim (image f.laws a q v) (image f.laws b q w) i) ∙ sym (coupled-image q v w (a.dim + i)) ∙ h (a.dim + i) m ∙ joined-behind a.dim v w i,
      ),
      λ h i l. coupled-image q v w i ∙ pairs-same a.dim b.dim _ _ v w i l h.0 h.1,
    )

    pub coupled-stabiliser : (v w : ℕ → Value f) (hs : List ℕ) → IsRisingListOf a.group.order (λ q. IsFixed f.laws both q (pair a v w)) hs ↔ AreInBoth f.laws a b v w hs
    coupled-stabiliser v w hs = (
      λ h. record { below = h.below; has = λ i l. (coupled-fixed v w _).0 (h.has i l); rising = h.rising; every = λ r l k. h.every r l ((coupled-fixed v w r).1 k) },
      λ h. record { below = h.below; has = λ i l. (coupled-fixed v w _).1 (h.has i l); rising = h.rising; every = λ r l k. h.every r l ((coupled-fixed v w r).0 k) },
    )

    pub coupled-lawful : IsOneGroup a b → IsAction f.laws a → IsAction f.laws b → IsAction f.laws both
    coupled-lawful one ha hb = record {
      group = ha.group;
      generator_below = ha.generator_below;
      generated = ha.generated;
      entry_valid = λ q i j lq li lj.
          valid-block (ltb i a.dim) (ltb j a.dim) (a.entry q i j) (b.entry q (i - a.dim) (j - a.dim))
          (λ s t. ha.entry_valid q i j lq (ltb-true i a.dim s) (ltb-true j a.dim t))
          (λ s t.
          let p = ltb-false i a.dim s in
          let r = ltb-false j a.dim t in
          let li' : i - a.dim < b.dim = omega (arith, li, p) in
          let lj' : j - a.dim < b.dim = omega (arith, lj, r) in
          hb.entry_valid q (i - a.dim) (j - a.dim) (subst (λ (k : ℕ). q < k) one.order lq) li' lj');
      identity = λ i j li lj. entry-blocks 0 i j ∙ blocks-same f.laws a.dim b.dim _ _ (unit_entry f.laws) (unit_entry f.laws) i j li lj ha.identity hb.identity ∙ blocks-unit f.laws a.dim b.dim i j;
      multiplies = λ p q lp lq i j li lj.
          entry-blocks (a.group.product p q) i j
          ∙ blocks-same f.laws a.dim b.dim _ _ (mul f.laws a.dim (entry_of f.laws a p) (entry_of f.laws a q)) (mul f.laws b.dim (entry_of f.laws b p) (entry_of f.laws b q)) i j li lj
          (ha.multiplies p q lp lq)
          (λ k l lk ll. ap (λ z. entry_of f.laws b z k l) (one.product p q lp lq) ∙ hb.multiplies p q (subst (λ (z : ℕ). p < z) one.order lp) (subst (λ (z : ℕ). q < z) one.order lq) k l lk ll)
          ∙ sym (blocks-multiply f.laws a.dim b.dim (entry_of f.laws a p) (entry_of f.laws b p) (entry_of f.laws a q) (entry_of f.laws b q) i j)
          ∙ sym (total-same f.laws (a.dim + b.dim) _ _ (λ k l t. f.laws.times (entry-blocks p i k t) (entry-blocks q k j t)));
    }

-- each vector is a pair
pub pair-each : {K : Type 0} (a : Action) (u : ℕ → K) (j : ℕ) → pair a u (second a u) j ≡ u j
pair-each a u j = by_test (ltb j a.dim) refl where
  by_test : (x : Bool) → ltb j a.dim ≡ x → (if x then u j else u (a.dim + (j - a.dim))) ≡ u j
  by_test true e = refl
  by_test false e =
      let l = ltb-false j a.dim e in
      let k : a.dim + (j - a.dim) ≡ j = omega (arith, l) in
      ap u k
