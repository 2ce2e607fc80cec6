-- Square matrices of full rank.
--
-- full-span: the rows span each vector
-- full-independent: the rows are independent
-- full-inverse: they have an inverse
-- full-equivalent: an intertwiner whose rank is both dimensions has one
use Rattle.std.proofs.Common.{◌≡◌, ◌↔◌, ℕ, suc, zero, ◌<◌, ◌≤◌, inl, inr, List, [], ◌∷◌, length, refl, sym, ◌∙◌, ap, subst, arith, ltb, lt-ltb, le-ltb, nat_eq, if◌then◌else◌}
use Rattle.cyclo24.specs.FieldOn.{FieldOn}
use Rattle.cyclo24.specs.FieldLaws.{nought-times, times-nought, unit-times, neg-plus}
use Rattle.cyclo24.specs.Sums.{total}
use Rattle.cyclo24.specs.SumLaws.{all-nought, one-term}
use Rattle.cyclo24.specs.TotalLaws.{total-same}
use Rattle.lin_alg.specs.EquationLaws.{dec, eq-self, eq-other, within-subspace}
use Rattle.lin_alg.specs.FreeLaws.{AllPast, AreRising, free-count, free-span}
use Rattle.lin_alg.specs.IndependenceLaws.{independent-more, independent-none}
use Rattle.lin_alg.specs.InsertLaws.{span-subspace, span-least, span-rows, rows-mono, has_back}
use Rattle.lin_alg.specs.LengthLaws.{span-form}
use Rattle.lin_alg.specs.Matrices.{mul, unit_entry}
use Rattle.lin_alg.specs.Reduced.{IsReduced, IsForm, IsWithin, PivotsBelow, ArePast, free_columns}
use Rattle.lin_alg.specs.Solving.{combination, AreIndependent, plain_rows}
use Rattle.lin_alg.specs.SolvingLaws.{solution-only}
use Rattle.lin_alg.specs.SpanLaws.{in_span-past, in_span-head, reduced-unique}
use Rattle.lin_alg.specs.Spans.{row_vectors, less, IsInSpan, HasRows}
use Rattle.lin_alg.specs.UnionLaws.{lower}
use Rattle.couple.specs.Links.{Pair, Intertwines, HasRank, AreInverse, AreEquivalent}
use Rattle.couple.specs.LinkLaws.{triple}

module _ {K : Type 0} (f : FieldOn K) where
  past-all : (p : ℕ) (rs : List (ℕ × (ℕ → K))) → ArePast f p rs → AllPast p rs
  past-all p [] a = tt
  past-all p (r ∷ rs) a = (a.0, past-all p rs a.2)

  form-rising : (w : ℕ) (rs : List (ℕ × (ℕ → K))) → IsReduced f rs → PivotsBelow w rs → AreRising w rs
  form-rising w [] r b = tt
  form-rising w (x ∷ rs) r b = (b.0, past-all x.0 rs r.1, form-rising w rs r.2 b.1)

  plain-length : (a : ℕ → ℕ → K) (n : ℕ) → length (plain_rows a n) ≡ n
  plain-length a zero = refl
  plain-length a (suc n) = ap suc (plain-length a n)

  -- the coefficients of a member of the span of the first k rows
  coefficients : (a : ℕ → ℕ → K) (k : ℕ) (v : ℕ → K) → IsInSpan f (plain_rows a k) v → ℕ → K
  coefficients a zero v h i = f.nought
  coefficients a (suc k) v h i = if nat_eq i k then h.0 else coefficients a k (less f v h.0 (a k)) h.1 i

  member-is : (a : ℕ → ℕ → K) (k : ℕ) (v : ℕ → K) (h : IsInSpan f (plain_rows a k) v) (j : ℕ) → combination f k (coefficients a k v h) a j ≡ v j
  unfolding coefficients
  member-is a zero v h j = sym (h j)
  member-is a (suc k) v h j =
      let x : ℕ → K = coefficients a k (less f v h.0 (a k)) h.1 in
      let c : K = f.times h.0 (a k j) in
      (λ t. f.plus
      (total-same f k _ _ (λ i l. ap (λ b. f.times (if b then h.0 else x i) (a i j)) (eq-other i k (λ e. absurd (omega (arith, l, e))))) t)
      (f.times (if eq-self k t then h.0 else x k) (a k j)))
      ∙ ap (λ y. f.plus y c) (member-is a k (less f v h.0 (a k)) h.1 j)
      ∙ f.plus_assoc (v j) (f.neg c) c ∙ ap (f.plus (v j)) (neg-plus f c) ∙ f.plus-nought (v j)

  module _ (n : ℕ) (X : ℕ → ℕ → K) (rank : HasRank f n n X n) where
    abbrev rs : List (ℕ × (ℕ → K))
    rs = rank.0

    -- the rows span each vector of n entries
    full-span : (v : ℕ → K) → IsWithin f n v → IsInSpan f (plain_rows X n) v
    full-span v w =
        let form : IsForm f n rs = rank.1 in
        let count = free-count n rs (form-rising n rs form.reduced form.pivots) in
        let e : length rs ≡ n = rank.3 in
        let none : length (free_columns n rs) ≡ 0 = omega (arith, count, e) in
        (rank.2 v).0 (free-span f n rs v form w (λ i l. absurd (omega (arith, l, none))))

    row-within : (v : ℕ → K) → IsInSpan f (plain_rows X n) v → IsWithin f n v
    row-within v h = span-least f (IsWithin f n) (within-subspace f n) (row_vectors rs) rank.1.within v ((rank.2 v).1 h)

    -- fewer rows with the same span
    abbrev HasFewer : ℕ → Type 0
    HasFewer m = (rows : List (ℕ → K)) × (suc (length rows) ≡ m) × ((v : ℕ → K) → IsInSpan f rows v ↔ IsInSpan f (plain_rows X m) v)

    fewer-own : (k : ℕ) → IsInSpan f (plain_rows X k) (X k) → HasFewer (suc k)
    fewer-own k h = (
      plain_rows X k,
      ap suc (plain-length X k),
      λ v. (
        λ t. in_span-past f (X k) (plain_rows X k) v t,
        λ t. has_back f (IsInSpan f (plain_rows X k)) (span-subspace f (plain_rows X k)) v t.0 (X k) t.1 h,
      ),
    )

    fewer : (k m : ℕ) → k < m → IsInSpan f (plain_rows X k) (X k) → HasFewer m
    fewer k zero l h = absurd (omega (arith, l))
    fewer k (suc m) l h =
        elim (lower k m l) [
          | inl b ↦
              let r = fewer k m b h in (
                X m ∷ r.0,
                ap suc r.1,
                λ v. (λ t. (t.0, (r.2 (less f v t.0 (X m))).0 t.1), λ t. (t.0, (r.2 (less f v t.0 (X m))).1 t.1)),
              )
          | inr e ↦ subst HasFewer (ap suc e) (fewer-own k h)
        ]

    no-fewer : HasFewer n → ⊥
    no-fewer h =
        let inside : HasRows (IsWithin f n) h.0 = rows-mono f (IsInSpan f h.0) (IsWithin f n) (λ v t. row-within v ((h.2 v).0 t)) h.0 (span-rows f h.0) in
        let s = span-form f n h.0 inside in
        let same : rs ≡ s.0 =
        reduced-unique f rs s.0 rank.1.reduced s.1 (λ v t. (s.2 v).1 ((h.2 v).1 ((rank.2 v).0 t))) (λ v t. (rank.2 v).1 ((h.2 v).0 ((s.2 v).0 t))) in
        let a : length rs ≡ length s.0 = ap length same in
        let b : length s.0 ≤ length h.0 = s.3 in
        let c : suc (length h.0) ≡ n = h.1 in
        let e : length rs ≡ n = rank.3 in
        absurd (omega (arith, a, b, c, e))

    first-independent : (m : ℕ) → m ≤ n → AreIndependent f m X
    first-independent zero l = independent-none f X
    first-independent (suc m) l = independent-more f X m (first-independent m (omega (arith, l))) (λ h. no-fewer (fewer m n (omega (arith, l)) h))

    full-independent : AreIndependent f n X
    full-independent = first-independent n (omega arith)

    -- unit vector i, and 0 past the last
    abbrev unit_row : ℕ → ℕ → K
    unit_row i j = if ltb i n then unit_entry f i j else f.nought

    unit-within : (i : ℕ) → IsWithin f n (unit_row i)
    unit-within i j l =
        elim (dec i n) [
          | inl m ↦
              let apart : i ≡ j → ⊥ = λ e. absurd (omega (arith, m, l, e)) in
              (λ t. if lt-ltb i n m t then (if eq-other i j apart t then f.unit else f.nought) else f.nought)
          | inr m ↦ ap (λ b. if b then unit_entry f i j else f.nought) (le-ltb i n m)
        ]

    abbrev inverse : ℕ → ℕ → K
    inverse i = coefficients X n (unit_row i) (full-span (unit_row i) (unit-within i))

    -- Y X = 1 in all columns
    left-inverse : (i j : ℕ) → i < n → mul f n inverse X i j ≡ unit_entry f i j
    left-inverse i j l =
        member-is X n (unit_row i) (full-span (unit_row i) (unit-within i)) j
        ∙ ap (λ b. if b then unit_entry f i j else f.nought) (lt-ltb i n l)

    own-row : (i j : ℕ) → i < n → combination f n (unit_entry f i) X j ≡ X i j
    own-row i j l =
        one-term f n i (λ k. f.times (unit_entry f i k) (X k j)) l
        (λ k m d. ap (λ b. f.times (if b then f.unit else f.nought) (X k j)) (eq-other i k (λ e. d (sym e))) ∙ nought-times f (X k j))
        ∙ ap (λ b. f.times (if b then f.unit else f.nought) (X i j)) (eq-self i) ∙ unit-times f (X i j)

    -- row i is in the span of the rows
    row-member : (i m : ℕ) → i < m → IsInSpan f (plain_rows X m) (X i)
    row-member i zero l = absurd (omega (arith, l))
    row-member i (suc m) l =
        elim (lower i m l) [
          | inl b ↦ in_span-past f (X m) (plain_rows X m) (X i) (row-member i m b)
          | inr e ↦ subst (λ (v : ℕ → K). IsInSpan f (plain_rows X (suc m)) v) (ap X (sym e)) (in_span-head f (X m) (plain_rows X m))
        ]

    -- the row i of X (Y X)
    row-again : (i j : ℕ) → i < n → total f n (λ l. f.times (X i l) (unit_entry f l j)) ≡ X i j
    row-again i j li =
        elim (dec j n) [
          | inl m ↦
              one-term f n j (λ l. f.times (X i l) (unit_entry f l j)) m
              (λ l o d. ap (λ b. f.times (X i l) (if b then f.unit else f.nought)) (eq-other l j d) ∙ times-nought f (X i l))
              ∙ ap (λ b. f.times (X i j) (if b then f.unit else f.nought)) (eq-self j) ∙ f.times-unit (X i j)
          | inr m ↦
              all-nought f n _ (λ l o. ap (λ b. f.times (X i l) (if b then f.unit else f.nought)) (eq-other l j (λ e. absurd (omega (arith, o, m, e)))) ∙ times-nought f (X i l))
              ∙ sym (row-within (X i) (row-member i n li) j m)
        ]

    right-inverse : (i k : ℕ) → i < n → k < n → mul f n X inverse i k ≡ unit_entry f i k
    right-inverse i k li lk =
        solution-only f n X full-independent (X i) (unit_entry f i) (mul f n X inverse i)
        (λ j. own-row i j li)
        (λ j.
        triple f n n (X i) inverse (λ k. X k j)
        ∙ total-same f n _ _ (λ l m. ap (f.times (X i l)) (left-inverse l j m)) ∙ row-again i j li)
        k lk

    pub full-inverse : (Y : ℕ → ℕ → K) × AreInverse f n X Y
    full-inverse = (inverse, ((λ i k li lk. right-inverse i k li lk), (λ i j li lj. left-inverse i j li)))

  -- an intertwiner whose rank is both dimensions has an inverse
  pub full-equivalent : (p : Pair K) (X : ℕ → ℕ → K) (r : ℕ) → Intertwines f p X → HasRank f p.rows p.cols X r → r ≡ p.rows → r ≡ p.cols → AreEquivalent f p
  full-equivalent p X r e h er ec =
      let full : HasRank f p.rows p.rows X p.rows = subst (λ (k : ℕ). HasRank f p.rows p.rows X k) er (subst (λ (w : ℕ). HasRank f p.rows w X r) (sym ec ∙ er) h) in
      (sym er ∙ ec, (X, e, full-inverse p.rows X full))
