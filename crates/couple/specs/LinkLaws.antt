-- What averages of matrices over a group obey.
--
-- triple: (a b) c = a (b c)
-- average-entry: an entry of an average is a sum of products of two entries
-- average-intertwines: each average is an intertwiner
-- averages-sum: the averages times the entries of an intertwiner X add up to the order times X
-- only-zero: where all averages are zero, zero is the only intertwiner
use Rattle.std.proofs.Common.{◌≡◌, ℕ, suc, zero, ◌<◌, Bool, true, false, ◌&&◌, refl, sym, ◌∙◌, ap, arith, nat_eq, if◌then◌else◌}
use Rattle.algebra.specs.NumberedGroup.{Group, IsGroup}
use Rattle.algebra.specs.NumberedGroupLaws.{product-inverse, product-identity, product-back, back-product}
use Rattle.algebra.specs.Sums.{IsRenumbering}
use Rattle.cyclo24.specs.FieldOn.{FieldOn, ones}
use Rattle.cyclo24.specs.ExactField.{ExactField, Value}
use Rattle.cyclo24.specs.FieldLaws.{nought-times, times-nought, unit-times, plus-times}
use Rattle.cyclo24.specs.Sums.{total}
use Rattle.cyclo24.specs.SumLaws.{all-nought, one-term, renumbered}
use Rattle.cyclo24.specs.TotalLaws.{total-same, total-times, times-total, total-swap}
use Rattle.lin_alg.specs.EquationLaws.{eq-self, eq-other, dot-unit}
use Rattle.lin_alg.specs.Matrices.{mul, unit_entry}
use Rattle.couple.specs.Links.{Pair, IsPair, Intertwines, IsZero, HasOnlyZero, single, average}

-- s goes to q s
by-product : (g : Group) (h : IsGroup g) (q : ℕ) → q < g.order → IsRenumbering g.order (g.product q) (g.product (g.inverse q))
by-product g h q l = record {
  below = λ s m. h.product_below q s l m;
  back-below = λ s m. h.product_below (g.inverse q) s (h.inverse_below q l) m;
  back = λ s m. back-product g h q s l m;
  forth = λ s m. product-back g h q s l m;
}

-- (q s)^-1 q = s^-1
inverse-after : (g : Group) (h : IsGroup g) (q s : ℕ) → q < g.order → s < g.order → g.product (g.inverse (g.product q s)) q ≡ g.inverse s
inverse-after g h q s l m =
    let qs = g.product q s in
    let lqs = h.product_below q s l m in
    let x = g.inverse qs in
    let lx = h.inverse_below qs lqs in
    let y = g.product x q in
    let ly = h.product_below x q lx l in
    let t = g.inverse s in
    let lt = h.inverse_below s m in
    sym (product-identity g h y ly) ∙ ap (g.product y) (sym (product-inverse g h s m)) ∙ sym (h.product_assoc y s t ly m lt)
    ∙ ap (λ z. g.product z t) (h.product_assoc x q s lx l m ∙ h.inverse-product qs lqs) ∙ h.identity-product t lt

module _ {K : Type 0} (f : FieldOn K) where
  and-false : (b : Bool) → (b && false) ≡ false
  and-false true = refl
  and-false false = refl

  single-own : (i j : ℕ) → single f i j i j ≡ f.unit
  single-own i j = λ t. if eq-self i t && eq-self j t then f.unit else f.nought

  single-row : (i j k l : ℕ) → (k ≡ i → ⊥) → single f i j k l ≡ f.nought
  single-row i j k l n = ap (λ b. if b && nat_eq l j then f.unit else f.nought) (eq-other k i n)

  single-column : (i j k l : ℕ) → (l ≡ j → ⊥) → single f i j k l ≡ f.nought
  single-column i j k l n = (λ t. if nat_eq k i && eq-other l j n t then f.unit else f.nought) ∙ ap (λ b. if b then f.unit else f.nought) (and-false (nat_eq k i))

  -- a sum of one value
  total-constant : (n : ℕ) (x : K) → total f n (λ _. x) ≡ f.times (ones f n) x
  total-constant zero x = sym (nought-times f x)
  total-constant (suc n) x =
      (λ t. f.plus (total-constant n x t) (sym (unit-times f x) t)) ∙ f.plus_comm (f.times (ones f n) x) (f.times f.unit x) ∙ sym (plus-times f f.unit (ones f n) x)

  -- what isn't 0 has no product 0 but with 0
  times-cancel : (c x : K) → f.is_nought c ≡ false → f.times c x ≡ f.nought → x ≡ f.nought
  times-cancel c x n e =
      sym (unit-times f x) ∙ ap (λ y. f.times y x) (sym (f.times-inverse c n) ∙ f.times_comm c (f.inverse c))
      ∙ f.times_assoc (f.inverse c) c x ∙ ap (f.times (f.inverse c)) e ∙ times-nought f (f.inverse c)

  -- (a b) c = a (b c), with d places between a and b, and e between b and c
  pub triple : (d e : ℕ) (a : ℕ → K) (b : ℕ → ℕ → K) (c : ℕ → K) → total f e (λ l. f.times (total f d (λ k. f.times (a k) (b k l))) (c l)) ≡ total f d (λ k. f.times (a k) (total f e (λ l. f.times (b k l) (c l))))
  triple d e a b c =
      total-same f e _ _ (λ l m. sym (times-total f d (c l) (λ k. f.times (a k) (b k l))))
      ∙ total-swap f e d (λ l k. f.times (f.times (a k) (b k l)) (c l))
      ∙ total-same f d _ _ (λ k m. total-same f e _ _ (λ l n. f.times_assoc (a k) (b k l) (c l)) ∙ total-times f e (a k) (λ l. f.times (b k l) (c l)))

  -- a product with a unit column
  by-unit : (d : ℕ) (x : ℕ → K) (b : ℕ) → b < d → total f d (λ l. f.times (x l) (unit_entry f l b)) ≡ x b
  by-unit d x b l = dot-unit f d x b l

  module _ (p : Pair K) where
    abbrev L : ℕ → ℕ → ℕ → K
    L = p.left

    -- R(q^-1)
    abbrev R : ℕ → ℕ → ℕ → K
    R q = p.right (p.group.inverse q)

    -- the entries (a, b) of L(q) e R(q^-1), where e has a 1 at (i, j) alone
    single-between : (q i j a b : ℕ) → i < p.rows → j < p.cols → mul f p.cols (mul f p.rows (L q) (single f i j)) (R q) a b ≡ f.times (L q a i) (R q j b)
    single-between q i j a b li lj =
        one-term f p.cols j (λ l. f.times (mul f p.rows (L q) (single f i j) a l) (R q l b)) lj
        (λ l m n. ap (λ x. f.times x (R q l b)) (all-nought f p.rows _ (λ k o. ap (f.times (L q a k)) (single-column i j k l n) ∙ times-nought f (L q a k))) ∙ nought-times f (R q l b))
        ∙ ap (λ x. f.times x (R q j b))
        (one-term f p.rows i (λ k. f.times (L q a k) (single f i j k j)) li (λ k o n. ap (f.times (L q a k)) (single-row i j k j n) ∙ times-nought f (L q a k))
        ∙ ap (f.times (L q a i)) (single-own i j) ∙ f.times-unit (L q a i))

    pub average-entry : (i j a b : ℕ) → i < p.rows → j < p.cols → average f p i j a b ≡ total f p.group.order (λ q. f.times (L q a i) (R q j b))
    average-entry i j a b li lj = total-same f p.group.order _ _ (λ q l. single-between q i j a b li lj)

    module _ (h : IsPair f p) where
      -- L(q) times an average
      left-average : (q i j a b : ℕ) → q < p.group.order → i < p.rows → j < p.cols → a < p.rows → b < p.cols
          → mul f p.rows (L q) (average f p i j) a b ≡ total f p.group.order (λ s. f.times (L (p.group.product q s) a i) (R s j b))
      left-average q i j a b lq li lj la lb =
          total-same f p.rows _ _ (λ k l. ap (f.times (L q a k)) (average-entry i j k b li lj))
          ∙ sym (triple p.rows p.group.order (L q a) (λ k s. L s k i) (λ s. R s j b))
          ∙ total-same f p.group.order _ _ (λ s l. ap (λ x. f.times x (R s j b)) (sym (h.left q s lq l a i la li)))

      -- an average times R(q)
      right-average : (q i j a b : ℕ) → q < p.group.order → i < p.rows → j < p.cols → a < p.rows → b < p.cols
          → mul f p.cols (average f p i j) (p.right q) a b ≡ total f p.group.order (λ s. f.times (L s a i) (p.right (p.group.product (p.group.inverse s) q) j b))
      right-average q i j a b lq li lj la lb =
          total-same f p.cols _ _ (λ k l. ap (λ x. f.times x (p.right q k b)) (average-entry i j a k li lj))
          ∙ triple p.group.order p.cols (λ s. L s a i) (λ s k. R s j k) (λ k. p.right q k b)
          ∙ total-same f p.group.order _ _ (λ s l. ap (f.times (L s a i)) (sym (h.right (p.group.inverse s) q (h.group.inverse_below s l) lq j b lj lb)))

      pub average-intertwines : (i j : ℕ) → i < p.rows → j < p.cols → Intertwines f p (average f p i j)
      average-intertwines i j li lj q a b lq la lb =
          let g : ℕ → K = λ s. f.times (L s a i) (p.right (p.group.product (p.group.inverse s) q) j b) in
          left-average q i j a b lq li lj la lb
          ∙ total-same f p.group.order _ (λ s. g (p.group.product q s)) (λ s l. ap (λ z. f.times (L (p.group.product q s) a i) (p.right z j b)) (sym (inverse-after p.group h.group q s lq l)))
          ∙ renumbered f p.group.order (p.group.product q) (p.group.product (p.group.inverse q)) (by-product p.group h.group q lq) g
          ∙ sym (right-average q i j a b lq li lj la lb)

      -- R(s) R(s^-1) = 1
      right-back : (s l b : ℕ) → s < p.group.order → l < p.cols → b < p.cols → mul f p.cols (p.right s) (R s) l b ≡ unit_entry f l b
      right-back s l b ls ll lb =
          sym (h.right s (p.group.inverse s) ls (h.group.inverse_below s ls) l b ll lb)
          ∙ ap (λ z. p.right z l b) (product-inverse p.group h.group s ls) ∙ h.right_identity l b ll lb

      module _ (X : ℕ → ℕ → K) (e : Intertwines f p X) where
        -- L(s) X R(s^-1) = X
        between : (s a b : ℕ) → s < p.group.order → a < p.rows → b < p.cols → total f p.cols (λ j. f.times (mul f p.rows (L s) X a j) (R s j b)) ≡ X a b
        between s a b ls la lb =
            total-same f p.cols _ _ (λ j l. ap (λ x. f.times x (R s j b)) (e s a j ls la l))
            ∙ triple p.cols p.cols (X a) (p.right s) (λ j. R s j b)
            ∙ total-same f p.cols _ _ (λ l m. ap (f.times (X a l)) (right-back s l b ls m lb))
            ∙ by-unit p.cols (X a) b lb

        -- the sum over i and j, at one element
        at-element : (s a b : ℕ) → total f p.rows (λ i. total f p.cols (λ j. f.times (X i j) (f.times (L s a i) (R s j b)))) ≡ total f p.cols (λ j. f.times (mul f p.rows (L s) X a j) (R s j b))
        at-element s a b =
            total-swap f p.rows p.cols (λ i j. f.times (X i j) (f.times (L s a i) (R s j b)))
            ∙ total-same f p.cols _ _ (λ j m.
            total-same f p.rows _ _ (λ i l. sym (f.times_assoc (X i j) (L s a i) (R s j b)) ∙ ap (λ x. f.times x (R s j b)) (f.times_comm (X i j) (L s a i)))
            ∙ times-total f p.rows (R s j b) (λ i. f.times (L s a i) (X i j)))

        pub averages-sum : (a b : ℕ) → a < p.rows → b < p.cols → total f p.rows (λ i. total f p.cols (λ j. f.times (X i j) (average f p i j a b))) ≡ f.times (ones f p.group.order) (X a b)
        averages-sum a b la lb =
            let term : ℕ → ℕ → ℕ → K = λ s i j. f.times (X i j) (f.times (L s a i) (R s j b)) in
            total-same f p.rows _ (λ i. total f p.group.order (λ s. total f p.cols (λ j. term s i j)))
            (λ i l.
            total-same f p.cols _ _ (λ j m. ap (f.times (X i j)) (average-entry i j a b l m) ∙ sym (total-times f p.group.order (X i j) (λ s. f.times (L s a i) (R s j b))))
            ∙ total-swap f p.cols p.group.order (λ j s. term s i j))
            ∙ total-swap f p.rows p.group.order (λ i s. total f p.cols (λ j. term s i j))
            ∙ total-same f p.group.order _ _ (λ s l. at-element s a b ∙ between s a b l la lb)
            ∙ total-constant p.group.order (X a b)

-- where all averages are zero, zero is the only intertwiner
pub only-zero : (f : ExactField) (p : Pair (Value f)) → IsPair f.laws p → ((i j : ℕ) → i < p.rows → j < p.cols → IsZero f.laws p (average f.laws p i j)) → HasOnlyZero f.laws p
only-zero f p h z X e a b la lb =
    times-cancel f.laws (ones f.laws p.group.order) (X a b) (some p.group.order h.group.identity_below)
    (sym (averages-sum f.laws p h X e a b la lb)
    ∙ all-nought f.laws p.rows _ (λ i l. all-nought f.laws p.cols _ (λ j m. ap (f.laws.times (X i j)) (z i j l m a b la lb) ∙ times-nought f.laws (X i j))))
  where
    some : (n : ℕ) → 0 < n → f.laws.is_nought (ones f.laws n) ≡ false
    some zero l = absurd (omega (arith, l))
    some (suc n) l = f.characteristic_zero n
