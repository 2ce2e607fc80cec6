-- Square matrices that take only 0 to 0, and the traces of two that one of these carries into each other.
--
-- left-inverse: a matrix that takes only 0 to 0 has one
-- trace-carried: where A X = X B for such an X, and from the left too, A and B have one trace
use Rattle.std.proofs.Common.{◌≡◌, ℕ, suc, zero, ◌<◌, inl, inr, List, [], ◌∷◌, sym, ◌∙◌, ap, subst, arith, ltb, lt-ltb, le-ltb, nat_eq, if◌then◌else◌}
use Rattle.cyclo24.specs.FieldOn.{FieldOn}
use Rattle.cyclo24.specs.FieldLaws.{nought-times, times-nought, unit-times, neg-plus, less-same, less-self}
use Rattle.cyclo24.specs.Sums.{total}
use Rattle.cyclo24.specs.SumLaws.{all-nought, one-term}
use Rattle.cyclo24.specs.TotalLaws.{total-same, total-times, times-total, total-swap}
use Rattle.lin_alg.specs.EquationLaws.{dec, eq-self, eq-other, dot-unit, dot-less, within-subspace, vanish-subspace, vanishing-span}
use Rattle.lin_alg.specs.Equations.{dot}
use Rattle.lin_alg.specs.InsertLaws.{span-least, span-rows, rows-mono}
use Rattle.lin_alg.specs.LengthLaws.{span-form}
use Rattle.lin_alg.specs.Matrices.{mul, apply, trace, unit_entry, AreEqualBelow}
use Rattle.lin_alg.specs.Reduced.{IsReduced, IsWithin, PivotsBelow}
use Rattle.lin_alg.specs.Solving.{combination, plain_rows}
use Rattle.lin_alg.specs.SpanLaws.{unit-not-nought}
use Rattle.lin_alg.specs.Spans.{row_vectors, less, IsInSpan, HasRows}
use Rattle.lin_alg.specs.TraceLaws.{trace-same, trace-cyclic}
use Rattle.lin_alg.specs.UnionLaws.{lower}

module _ {K : Type 0} (f : FieldOn K) where
  -- (a b) v = a (b v)
  pub apply-product : (d : ℕ) (a b : ℕ → ℕ → K) (v : ℕ → K) (i : ℕ) → apply f d (mul f d a b) v i ≡ apply f d a (apply f d b v) i
  apply-product d a b v i =
      total-same f d _ _ (λ k l. sym (times-total f d (v k) (λ j. f.times (a i j) (b j k))))
      ∙ total-swap f d d (λ k j. f.times (f.times (a i j) (b j k)) (v k))
      ∙ total-same f d _ _ (λ j l. total-same f d _ _ (λ k m. f.times_assoc (a i j) (b j k) (v k)) ∙ total-times f d (a i j) (λ k. f.times (b j k) (v k)))

  -- (a b) c = a (b c)
  pub mul-assoc : (d : ℕ) (a b c : ℕ → ℕ → K) (i j : ℕ) → mul f d (mul f d a b) c i j ≡ mul f d a (mul f d b c) i j
  mul-assoc d a b c i j = apply-product d a b (λ k. c k j) i

  -- products of equal factors
  pub mul-left : (d : ℕ) (a a' b : ℕ → ℕ → K) → AreEqualBelow d a a' → AreEqualBelow d (mul f d a b) (mul f d a' b)
  mul-left d a a' b e i j li lj = total-same f d _ _ (λ k l. ap (λ x. f.times x (b k j)) (e i k li l))

  pub mul-right : (d : ℕ) (a b b' : ℕ → ℕ → K) → AreEqualBelow d b b' → AreEqualBelow d (mul f d a b) (mul f d a b')
  mul-right d a b b' e i j li lj = total-same f d _ _ (λ k l. ap (f.times (a i k)) (e k j l lj))

  mul-unit : (d : ℕ) (a : ℕ → ℕ → K) → AreEqualBelow d (mul f d a (unit_entry f)) a
  mul-unit d a i j li lj = dot-unit f d (a i) j lj

  unit-mul : (d : ℕ) (a : ℕ → ℕ → K) → AreEqualBelow d (mul f d (unit_entry f) a) a
  unit-mul d a i j li lj =
      one-term f d i (λ k. f.times (unit_entry f i k) (a k j)) li
      (λ k l n. ap (λ t. f.times (if t then f.unit else f.nought) (a k j)) (eq-other i k (λ e. n (sym e))) ∙ nought-times f (a k j))
      ∙ ap (λ t. f.times (if t then f.unit else f.nought) (a i j)) (eq-self i) ∙ unit-times f (a i j)

  pub unit-apply : (d : ℕ) (v : ℕ → K) (i : ℕ) → i < d → apply f d (unit_entry f) v i ≡ v i
  unit-apply d v i l = unit-mul d (λ k j. v k) i i l l

  -- the coefficients of a member of the span of the first k rows
  coefficients : (a : ℕ → ℕ → K) (k : ℕ) (v : ℕ → K) → IsInSpan f (plain_rows a k) v → ℕ → K
  coefficients a zero v h i = f.nought
  coefficients a (suc k) v h i = if nat_eq i k then h.0 else coefficients a k (less f v h.0 (a k)) h.1 i

  member-is : (a : ℕ → ℕ → K) (k : ℕ) (v : ℕ → K) (h : IsInSpan f (plain_rows a k) v) (j : ℕ) → combination f k (coefficients a k v h) a j ≡ v j
  unfolding coefficients
  member-is a zero v h j = sym (h j)
  member-is a (suc k) v h j =
      let x : ℕ → K = coefficients a k (less f v h.0 (a k)) h.1 in
      let c : K = f.times h.0 (a k j) in
      (λ t. f.plus
      (total-same f k _ _ (λ i l. ap (λ b. f.times (if b then h.0 else x i) (a i j)) (eq-other i k (λ e. absurd (omega (arith, l, e))))) t)
      (f.times (if eq-self k t then h.0 else x k) (a k j)))
      ∙ ap (λ y. f.plus y c) (member-is a k (less f v h.0 (a k)) h.1 j)
      ∙ f.plus_assoc (v j) (f.neg c) c ∙ ap (f.plus (v j)) (neg-plus f c) ∙ f.plus-nought (v j)

  -- each of the first m rows
  rows-each : (P : (ℕ → K) → Type 0) (a : ℕ → ℕ → K) (m : ℕ) → ((i : ℕ) → P (a i)) → HasRows P (plain_rows a m)
  rows-each P a zero h = tt
  rows-each P a (suc m) h = (h m, rows-each P a m h)

  each-row : (P : (ℕ → K) → Type 0) (a : ℕ → ℕ → K) (m : ℕ) → HasRows P (plain_rows a m) → (i : ℕ) → i < m → P (a i)
  each-row P a zero h i l = absurd (omega (arith, l))
  each-row P a (suc m) h i l = elim (lower i m l) [ inl k ↦ each-row P a m h.1 i k | inr e ↦ subst (λ (j : ℕ). P (a j)) (sym e) h.0 ]

  pivots-below : (w : ℕ) (rs : List (ℕ × (ℕ → K))) → IsReduced f rs → HasRows (IsWithin f w) (row_vectors rs) → PivotsBelow w rs
  pivots-below w [] r a = tt
  pivots-below w (x ∷ rs) r a =
      (elim (dec x.0 w) as (λ _. x.0 < w) [ inl l ↦ l | inr l ↦ absurd (unit-not-nought f (sym r.0.0 ∙ a.0 x.0 l)) ], pivots-below w rs r.2 a.1)

  module _ (n : ℕ) where
    -- a matrix with 0 past the first n columns
    abbrev cut : (ℕ → ℕ → K) → ℕ → ℕ → K
    cut x i j = if ltb j n then x i j else f.nought

    cut-inside : (x : ℕ → ℕ → K) (i j : ℕ) → j < n → cut x i j ≡ x i j
    cut-inside x i j l = ap (λ t. if t then x i j else f.nought) (lt-ltb j n l)

    cut-within : (x : ℕ → ℕ → K) (i : ℕ) → IsWithin f n (cut x i)
    cut-within x i j l = ap (λ t. if t then x i j else f.nought) (le-ltb j n l)

    -- X takes only 0 to 0
    abbrev pub HasNoKernel : (ℕ → ℕ → K) → Type 0
    HasNoKernel X = (v : ℕ → K) → ((i : ℕ) → i < n → apply f n X v i ≡ f.nought) → (i : ℕ) → i < n → v i ≡ f.nought

    module _ (X : ℕ → ℕ → K) (none : HasNoKernel X) where
      -- where the rows are 0 on v, v is 0
      rows-none : (v : ℕ → K) → HasRows (λ y. dot f n y v ≡ f.nought) (plain_rows (cut X) n) → (i : ℕ) → i < n → v i ≡ f.nought
      rows-none v h =
          none v (λ i l. total-same f n _ _ (λ k m. ap (λ y. f.times y (v k)) (sym (cut-inside X i k m))) ∙ each-row (λ y. dot f n y v ≡ f.nought) (cut X) n h i l)

      -- the rows span each vector of n entries
      spanned : (x : ℕ → K) → IsWithin f n x → IsInSpan f (plain_rows (cut X) n) x
      spanned x w =
          let rows : List (ℕ → K) = plain_rows (cut X) n in
          let each : HasRows (IsWithin f n) rows = rows-each (IsWithin f n) (cut X) n (cut-within X) in
          let s = span-form f n rows each in
          let inside : HasRows (IsWithin f n) (row_vectors s.0) =
          rows-mono f (IsInSpan f (row_vectors s.0)) (IsWithin f n) (λ y t. span-least f (IsWithin f n) (within-subspace f n) rows each y ((s.2 y).0 t)) (row_vectors s.0) (span-rows f (row_vectors s.0)) in
          (s.2 x).0 (vanishing-span f n s.0 x (pivots-below n s.0 s.1 inside) s.1 inside w (λ v h.
          let P : (ℕ → K) → Type 0 = λ y. dot f n y v ≡ f.nought in
          let k : HasRows P rows = rows-mono f (IsInSpan f rows) P (λ y t. span-least f P (vanish-subspace f n v) (row_vectors s.0) h y ((s.2 y).1 t)) rows (span-rows f rows) in
          all-nought f n _ (λ j l. ap (f.times (x j)) (rows-none v k j l) ∙ times-nought f (x j))))

      abbrev inverse_of : ℕ → ℕ → K
      inverse_of i = coefficients (cut X) n (cut (unit_entry f) i) (spanned (cut (unit_entry f) i) (cut-within (unit_entry f) i))

      -- Y X = 1
      left-inverse : AreEqualBelow n (mul f n inverse_of X) (unit_entry f)
      left-inverse i j li lj =
          total-same f n _ _ (λ k l. ap (f.times (inverse_of i k)) (sym (cut-inside X k j lj)))
          ∙ member-is (cut X) n (cut (unit_entry f) i) (spanned (cut (unit_entry f) i) (cut-within (unit_entry f) i)) j
          ∙ cut-inside (unit_entry f) i j lj

    -- no vector but 0 is taken to 0 from the left
    abbrev pub HasNoLeftKernel : (ℕ → ℕ → K) → Type 0
    HasNoLeftKernel X = (v : ℕ → K) → ((j : ℕ) → j < n → total f n (λ i. f.times (v i) (X i j)) ≡ f.nought) → (i : ℕ) → i < n → v i ≡ f.nought

    turned : (u v : ℕ → K) → dot f n u v ≡ dot f n v u
    turned u v = total-same f n _ _ (λ k l. f.times_comm (u k) (v k))

    less-product : (u v : ℕ → K) (X : ℕ → ℕ → K) (j : ℕ) → total f n (λ k. f.times (u k) (X k j)) ≡ total f n (λ k. f.times (v k) (X k j))
        → total f n (λ k. f.times (less f u f.unit v k) (X k j)) ≡ f.nought
    less-product u v X j e =
        let col : ℕ → K = λ k. X k j in
        turned (less f u f.unit v) col ∙ dot-less f n col u f.unit v ∙ (λ t. f.plus (turned col u t) (f.neg (f.times f.unit ((turned col v ∙ sym e) t)))) ∙ less-self f (dot f n u col)

    -- two rows with one product
    cancelled : (X : ℕ → ℕ → K) → HasNoLeftKernel X → (u v : ℕ → K) → ((j : ℕ) → j < n → total f n (λ k. f.times (u k) (X k j)) ≡ total f n (λ k. f.times (v k) (X k j))) → (i : ℕ) → i < n → u i ≡ v i
    cancelled X h u v e i l = less-same f (u i) (v i) (h (less f u f.unit v) (λ j m. less-product u v X j (e j m)) i l)

    module _ (X : ℕ → ℕ → K) (none : HasNoKernel X) (no_left : HasNoLeftKernel X) where
      abbrev Y : ℕ → ℕ → K
      Y = inverse_of X none

      -- X Y = 1
      right-inverse : AreEqualBelow n (mul f n X Y) (unit_entry f)
      right-inverse i j li lj =
          cancelled X no_left (mul f n X Y i) (unit_entry f i) (λ k lk.
          mul-assoc n X Y X i k ∙ mul-right n X (mul f n Y X) (unit_entry f) (left-inverse X none) i k li lk ∙ mul-unit n X i k li lk ∙ sym (unit-mul n X i k li lk)) j lj

      pub trace-carried : (A B : ℕ → ℕ → K) → AreEqualBelow n (mul f n A X) (mul f n X B) → trace f n A ≡ trace f n B
      trace-carried A B e =
          sym (trace-same f n (mul f n A (mul f n X Y)) A (λ i j li lj. mul-right n A (mul f n X Y) (unit_entry f) right-inverse i j li lj ∙ mul-unit n A i j li lj))
          ∙ trace-same f n (mul f n A (mul f n X Y)) (mul f n (mul f n X B) Y) (λ i j li lj. sym (mul-assoc n A X Y i j) ∙ mul-left n (mul f n A X) (mul f n X B) Y e i j li lj)
          ∙ trace-cyclic f n (mul f n X B) Y
          ∙ trace-same f n (mul f n Y (mul f n X B)) B (λ i j li lj.
          sym (mul-assoc n Y X B i j) ∙ mul-left n (mul f n Y X) (unit_entry f) B (left-inverse X none) i j li lj ∙ unit-mul n B i j li lj)
