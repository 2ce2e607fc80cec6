-- The convolution of two characters: Serre, Linear Representations of Finite Groups, 2.3.
--
-- sum-scaled: the sum S of all matrices of a representation has S S = |G| S
-- pairs-multiply: D(q) times the transpose of E(q^-1), by pairs of rows and of columns, is a representation
-- HasCount f g c: c 0 is a whole number times the order, and where that number is 0, c is 0 at every element
-- characters-count: the convolution of two characters is so
-- count-plus, count-nought: sums of such, and where c 0 is 0
use Rattle.std.proofs.Common.{◌≡◌, ℕ, suc, zero, ◌+◌, ◌*◌, ◌/◌, ◌%◌, ◌<◌, true, false, refl, sym, ◌∙◌, ap, arith, zero-add, [], ◌∷◌}
use Rattle.std.proofs.lemmas.Nat.{div-mul-add, mod-mul-add, div_below, mod_below}
use Rattle.algebra.specs.NumberedGroup.{Group, IsGroup}
use Rattle.algebra.specs.NumberedGroupLaws.{product-inverse, product-identity, product-back, back-product, cancel}
use Rattle.algebra.specs.Solve.{V, Mul, at}
use Rattle.algebra.specs.SolveLaws.{solve}
use Rattle.algebra.specs.Sums.{IsRenumbering}
use Rattle.cyclo24.specs.FieldOn.{FieldOn, ones}
use Rattle.cyclo24.specs.FieldLaws.{nought-plus, nought-times, times-nought, unit-times, plus-times}
use Rattle.cyclo24.specs.Numerals.{ring_of}
use Rattle.cyclo24.specs.NumeralLaws.{ring_of_is}
use Rattle.cyclo24.specs.Sums.{total}
use Rattle.cyclo24.specs.SumLaws.{all-nought, renumbered, total-rows}
use Rattle.cyclo24.specs.TotalLaws.{total-same, total-times, times-total, total-swap}
use Rattle.lin_alg.specs.Matrices.{mul, trace, convolution, IsRepresentation}
use Rattle.char_orth.proofs.ProjectorLemmas.{IsScaled, scaled-rank}

some_columns : (a n m : ℕ) → a < n * m → 0 < m
some_columns a n zero l = let c : n * 0 ≡ 0 = omega arith in absurd (omega (arith, l, c))
some_columns a n (suc m) l = omega arith

pub pair-below : (n m i k : ℕ) → i < n → k < m → i * m + k < n * m
pair-below n m i k a b = grind arith

-- q goes to a q
by-product : (g : Group) (h : IsGroup g) (a : ℕ) → a < g.order → IsRenumbering g.order (g.product a) (g.product (g.inverse a))
by-product g h a la = record {
  below = λ q l. h.product_below a q la l;
  back-below = λ q l. h.product_below (g.inverse a) q (h.inverse_below a la) l;
  back = λ q l. back-product g h a q la l;
  forth = λ q l. product-back g h a q la l;
}

-- (a b)^-1 = b^-1 a^-1
inverse-of : (g : Group) (h : IsGroup g) (a b : ℕ) → a < g.order → b < g.order → g.inverse (g.product a b) ≡ g.product (g.inverse b) (g.inverse a)
inverse-of g h a b la lb =
    let c = g.product a b in
    let lc = h.product_below a b la lb in
    let ma = h.inverse_below a la in
    let mb = h.inverse_below b lb in
    let y = g.product (g.inverse b) (g.inverse a) in
    let ly = h.product_below (g.inverse b) (g.inverse a) mb ma in
    cancel g h c (g.inverse c) y lc (h.inverse_below c lc) ly
    (product-inverse g h c lc ∙ sym (h.product_assoc a b y la lb ly ∙ ap (g.product a) (product-back g h b (g.inverse a) lb ma) ∙ product-inverse g h a la))

module _ {K : Type 0} (f : FieldOn K) where
  many : (n : ℕ) (x : K) → total f n (λ _. x) ≡ f.times (ones f n) x
  many zero x = sym (nought-times f x)
  many (suc n) x =
      ap (λ y. f.plus y x) (many n x) ∙ f.plus_comm (f.times (ones f n) x) x
      ∙ ap (λ y. f.plus y (f.times (ones f n) x)) (sym (unit-times f x)) ∙ sym (plus-times f f.unit (ones f n) x)

  -- (a b) (c d) = (a c) (d b)
  regroup : (a b c d : K) → f.times (f.times a b) (f.times c d) ≡ f.times (f.times a c) (f.times d b)
  regroup a b c d =
      solve (ring_of f) (ring_of_is f) (at f.nought (a ∷ b ∷ c ∷ d ∷ [])) (Mul (Mul (V 0) (V 1)) (Mul (V 2) (V 3))) (Mul (Mul (V 0) (V 2)) (Mul (V 3) (V 1))) refl

  -- a product of two sums, term by term
  product-of-sums : (n m : ℕ) (u v : ℕ → K) → total f n (λ x. total f m (λ y. f.times (u x) (v y))) ≡ f.times (total f n u) (total f m v)
  product-of-sums n m u v = total-same f n _ _ (λ x l. total-times f m (u x) v) ∙ times-total f n (total f m v) u

  module _ (g : Group) (h : IsGroup g) where
    -- the sum of all matrices
    abbrev sum_of : (ℕ → ℕ → ℕ → K) → ℕ → ℕ → K
    sum_of m i j = total f g.order (λ q. m q i j)

    module _ (d : ℕ) (m : ℕ → ℕ → ℕ → K) (r : IsRepresentation f g d m) where
      -- M(q) S = S
      kept : (q i j : ℕ) → q < g.order → i < d → j < d → mul f d (m q) (sum_of m) i j ≡ sum_of m i j
      kept q i j lq li lj =
          total-same f d _ _ (λ k l. sym (total-times f g.order (m q i k) (λ p. m p k j)))
          ∙ total-swap f d g.order (λ k p. f.times (m q i k) (m p k j))
          ∙ total-same f g.order _ _ (λ p lp. sym (r q p lq lp i j li lj))
          ∙ renumbered f g.order _ _ (by-product g h q lq) (λ p. m p i j)

      sum-scaled : IsScaled f d (ones f g.order) (sum_of m)
      sum-scaled i j li lj =
          total-same f d _ _ (λ k l. sym (times-total f g.order (sum_of m k j) (λ q. m q i k)))
          ∙ total-swap f d g.order (λ k q. f.times (m q i k) (sum_of m k j))
          ∙ total-same f g.order _ _ (λ q lq. kept q i j lq li lj)
          ∙ many g.order (sum_of m i j)

    -- c 0 is a whole number times the order, and where that number is 0, c is 0 at every element
    abbrev pub HasCount : (ℕ → K) → Type 0
    HasCount c = (r : ℕ) × (c 0 ≡ f.times (ones f g.order) (ones f r)) × (r ≡ 0 → (p : ℕ) → p < g.order → c p ≡ f.nought)

    module _ (n m : ℕ) (D E : ℕ → ℕ → ℕ → K) (rd : IsRepresentation f g n D) (re : IsRepresentation f g m E) where
      -- D(q) times the transpose of E(q^-1), by pairs of rows and of columns
      abbrev pairs : ℕ → ℕ → ℕ → K
      pairs q a b = f.times (D q (a / m) (b / m)) (E (g.inverse q) (b % m) (a % m))

      pairs-multiply : IsRepresentation f g (n * m) pairs
      pairs-multiply q p lq lp a b la lb =
          let some = some_columns a n m la in
          let i = a / m in
          let k = a % m in
          let j = b / m in
          let l = b % m in
          let s = g.inverse q in
          let t = g.inverse p in
          sym (total-rows f n m (λ c. f.times (pairs q a c) (pairs p c b))
          ∙ total-same f n _ _ (λ x lx. total-same f m _ _ (λ y ly.
          let u = div-mul-add x m y ly in
          let v = mod-mul-add x m y ly in
          (λ w. f.times (f.times (D q i (u w)) (E s (v w) k)) (f.times (D p (u w) j) (E t l (v w))))
          ∙ regroup (D q i x) (E s y k) (D p x j) (E t l y)))
          ∙ product-of-sums n m (λ x. f.times (D q i x) (D p x j)) (λ y. f.times (E t l y) (E s y k))
          ∙ ap (λ z. f.times z (mul f m (E t) (E s) l k)) (sym (rd q p lq lp i j (div_below a m n some la) (div_below b m n some lb)))
          ∙ ap (f.times (D (g.product q p) i j)) (sym (re t s (h.inverse_below p lp) (h.inverse_below q lq) l k (mod_below b m some) (mod_below a m some)))
          ∙ ap (λ r. f.times (D (g.product q p) i j) (E r l k)) (sym (inverse-of g h q p lq lp)))

      -- the trace of the sum
      pairs-trace : trace f (n * m) (sum_of pairs) ≡ total f g.order (λ q. f.times (trace f n (D q)) (trace f m (E (g.inverse q))))
      pairs-trace =
          total-swap f (n * m) g.order (λ a q. pairs q a a)
          ∙ total-same f g.order _ _ (λ q lq.
          total-rows f n m (λ a. pairs q a a)
          ∙ total-same f n _ _ (λ x lx. total-same f m _ _ (λ y ly.
          let u = div-mul-add x m y ly in
          let v = mod-mul-add x m y ly in
          λ w. f.times (D q (u w) (u w)) (E (g.inverse q) (v w) (v w))))
          ∙ product-of-sums n m (λ x. D q x x) (λ y. E (g.inverse q) y y))

      abbrev left : ℕ → K
      left q = trace f n (D q)

      abbrev right : ℕ → K
      right q = trace f m (E q)

      at-identity : convolution f g left right 0 ≡ trace f (n * m) (sum_of pairs)
      at-identity = total-same f g.order _ _ (λ q lq. ap (λ r. f.times (left q) (right r)) (product-identity g h (g.inverse q) (h.inverse_below q lq))) ∙ sym pairs-trace

      module _ (none : (a b : ℕ) → a < n * m → b < n * m → sum_of pairs a b ≡ f.nought) where
        entries-nought : (i l k : ℕ) → i < n → l < m → k < m → total f g.order (λ q. f.times (D q i i) (E (g.inverse q) l k)) ≡ f.nought
        entries-nought i l k li ll lk =
            sym (total-same f g.order _ _ (λ q lq w. f.times (D q (div-mul-add i m k lk w) (div-mul-add i m l ll w)) (E (g.inverse q) (mod-mul-add i m l ll w) (mod-mul-add i m k lk w))))
            ∙ none (i * m + k) (i * m + l) (pair-below n m i k li lk) (pair-below n m i l li ll)

        one-entry : (p i l : ℕ) → p < g.order → i < n → l < m → total f g.order (λ q. f.times (D q i i) (E (g.product (g.inverse q) p) l l)) ≡ f.nought
        one-entry p i l lp li ll =
            total-same f g.order _ _ (λ q lq.
            ap (f.times (D q i i)) (re (g.inverse q) p (h.inverse_below q lq) lp l l ll ll)
            ∙ sym (total-times f m (D q i i) (λ k. f.times (E (g.inverse q) l k) (E p k l)))
            ∙ total-same f m _ _ (λ k lk. sym (f.times_assoc (D q i i) (E (g.inverse q) l k) (E p k l))))
            ∙ total-swap f g.order m (λ q k. f.times (f.times (D q i i) (E (g.inverse q) l k)) (E p k l))
            ∙ all-nought f m _ (λ k lk.
            times-total f g.order (E p k l) (λ q. f.times (D q i i) (E (g.inverse q) l k))
            ∙ ap (λ x. f.times x (E p k l)) (entries-nought i l k li ll lk) ∙ nought-times f (E p k l))

        everywhere : (p : ℕ) → p < g.order → convolution f g left right p ≡ f.nought
        everywhere p lp =
            total-same f g.order _ _ (λ q lq. sym (product-of-sums n m (λ i. D q i i) (λ l. E (g.product (g.inverse q) p) l l)))
            ∙ total-swap f g.order n (λ q i. total f m (λ l. f.times (D q i i) (E (g.product (g.inverse q) p) l l)))
            ∙ all-nought f n _ (λ i li.
            total-swap f g.order m (λ q l. f.times (D q i i) (E (g.product (g.inverse q) p) l l))
            ∙ all-nought f m _ (λ l ll. one-entry p i l lp li ll))

      pub characters-count : HasCount (convolution f g left right)
      characters-count =
          let c = scaled-rank f (n * m) (ones f g.order) (sum_of pairs) (sum-scaled (n * m) pairs pairs-multiply) in
          (c.0, at-identity ∙ c.1, λ e. everywhere (c.2 e))

    ones-plus : (a b : ℕ) → ones f (a + b) ≡ f.plus (ones f a) (ones f b)
    ones-plus zero b = rw zero-add (sym (nought-plus f (ones f b)))
    ones-plus (suc a) b =
        let e : suc a + b ≡ suc (a + b) = omega arith in
        rw e (ap (f.plus f.unit) (ones-plus a b) ∙ sym (f.plus_assoc f.unit (ones f a) (ones f b)))

    pub count-plus : (c d : ℕ → K) → HasCount c → HasCount d → HasCount (λ p. f.plus (c p) (d p))
    count-plus c d a b = (
      a.0 + b.0,
      (λ t. f.plus (a.1 t) (b.1 t)) ∙ sym (ap (f.times (ones f g.order)) (ones-plus a.0 b.0) ∙ f.times-plus (ones f g.order) (ones f a.0) (ones f b.0)),
      λ e p l. let x : a.0 ≡ 0 = omega (arith, e) in let y : b.0 ≡ 0 = omega (arith, e) in (λ t. f.plus (a.2 x p l t) (b.2 y p l t)) ∙ f.plus-nought f.nought,
    )

    module _ (char : (n : ℕ) → f.is_nought (ones f (suc n)) ≡ false) where
      ones-some : (n : ℕ) → ones f (suc n) ≡ f.nought → ⊥
      ones-some n e = let t : true ≡ false = sym f.is_nought-nought ∙ ap f.is_nought (sym e) ∙ char n in cc

      -- a product of two such sums isn't 0
      products-some : (a b : ℕ) → 0 < a → f.times (ones f a) (ones f (suc b)) ≡ f.nought → ⊥
      products-some zero b l e = absurd (omega (arith, l))
      products-some (suc a) b l e =
          ones-some b (sym (unit-times f (ones f (suc b)))
          ∙ ap (λ x. f.times x (ones f (suc b))) (sym (f.times_comm (f.inverse (ones f (suc a))) (ones f (suc a)) ∙ f.times-inverse (ones f (suc a)) (char a)))
          ∙ f.times_assoc (f.inverse (ones f (suc a))) (ones f (suc a)) (ones f (suc b)) ∙ ap (f.times (f.inverse (ones f (suc a)))) e ∙ times-nought f (f.inverse (ones f (suc a))))

      pub count-nought : (c : ℕ → K) → HasCount c → c 0 ≡ f.nought → (p : ℕ) → p < g.order → c p ≡ f.nought
      count-nought c (zero, e, all) z = all refl
      count-nought c (suc r, e, all) z = absurd (products-some g.order r h.identity_below (sym e ∙ z))
