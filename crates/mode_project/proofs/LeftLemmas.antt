use Rattle.std.proofs.Common.{◌≡◌, ◌↔◌, ℕ, suc, zero, ◌+◌, ◌*◌, ◌/◌, ◌%◌, ◌<◌, inl, inr, sym, ◌∙◌, ap, subst, arith, List, [], ◌∷◌, length}
use Rattle.std.specs.List.{slice_index}
use Rattle.cyclo24.specs.FieldOn.{FieldOn}
use Rattle.cyclo24.specs.FieldLaws.{times-nought, times-neg, neg-nought, neg-neg, neg-unique, neg-plus-neg, plus-swap}
use Rattle.cyclo24.specs.SumLaws.{all-nought}
use Rattle.cyclo24.specs.TotalLaws.{total-same, total-plus, total-times}
use Rattle.lin_alg.specs.EquationLaws.{free-vanishes}
use Rattle.lin_alg.specs.Equations.{dot, free_vector, Vanishes}
use Rattle.lin_alg.specs.Fixed.{IsFixedByAll}
use Rattle.lin_alg.specs.FormLaws.{vanishes-mono}
use Rattle.lin_alg.specs.FreeLaws.{free_columns-at}
use Rattle.lin_alg.specs.InsertLaws.{span-least, span-subspace}
use Rattle.lin_alg.specs.Matrices.{apply}
use Rattle.lin_alg.specs.Reduced.{IsForm, free_columns}
use Rattle.lin_alg.specs.Solving.{combination, plain_rows}
use Rattle.lin_alg.specs.UnionLaws.{lower}
use Rattle.lin_alg.specs.Spans.{row_vectors, IsInSpan, IsSubspace, HasRows, AreSame}
use Rattle.mode_project.specs.AtomSpace.{AtomSpace, size_of, matrix_of}
use Rattle.mode_project.specs.AtomSpaceLaws.{row-at, number-at, atom-below, number-below, column-below}
use Rattle.mode_project.specs.DirectionModes.{IsLeftBy, IsLeftInRange, AreModesOf}
use Rattle.mode_project.specs.ListLaws.{plain-each, plain-member, plain-same, vectors-length}
use Rattle.mode_project.specs.Modes.{vector_at}
use Rattle.mode_project.specs.Projection.{projection, IsInRange, IsReducedFormOf}
use Rattle.mode_project.specs.ProjectionLaws.{range-subspace}
use Rattle.mode_project.specs.Wide.{left_row, free_rows}
use Rattle.mode_project.proofs.CombinationLemmas.{IsLinear, linear-comb, comb-subspace, comb-has, span-combination, solution-has}

module _ {K : Type 0} (f : FieldOn K) (d : ℕ) (M : ℕ → ℕ → K) (i : ℕ) where
  applied : IsLinear f (λ v. apply f d M v i)
  applied = record {
    nought = all-nought f d _ (λ k m. times-nought f (M i k));
    plus = λ u v. total-same f d _ _ (λ k m. f.times-plus (M i k) (u k) (v k)) ∙ total-plus f d (λ k. f.times (M i k) (u k)) (λ k. f.times (M i k) (v k));
    times = λ c v. total-same f d _ _ (λ k m. past (M i k) c (v k)) ∙ total-times f d c (λ k. f.times (M i k) (v k));
  }
    where
      past : (x y z : K) → f.times x (f.times y z) ≡ f.times y (f.times x z)
      past x y z = sym (f.times_assoc x y z) ∙ ap (λ w. f.times w z) (f.times_comm x y) ∙ f.times_assoc y x z

  -- entry i of M v - v
  abbrev pub moved_less : (ℕ → K) → K
  moved_less v = f.plus (apply f d M v i) (f.neg (v i))

  pub moved-linear : IsLinear f moved_less
  moved-linear = record {
    nought = (λ t. f.plus (applied.nought t) (neg-nought f t)) ∙ f.plus-nought f.nought;
    plus = λ u v.
        (λ t. f.plus (applied.plus u v t) (sym (neg-plus-neg f (u i) (v i)) t))
        ∙ plus-swap f (apply f d M u i) (apply f d M v i) (f.neg (u i)) (f.neg (v i));
    times = λ c v.
        (λ t. f.plus (applied.times c v t) (sym (times-neg f c (v i)) t))
        ∙ sym (f.times-plus c (apply f d M v i) (f.neg (v i)));
  }

  pub moved-same : (v : ℕ → K) → moved_less v ≡ f.nought → apply f d M v i ≡ v i
  moved-same v h = neg-unique f (apply f d M v i) (f.neg (v i)) h ∙ neg-neg f (v i)

  pub moved-none : (v : ℕ → K) → apply f d M v i ≡ v i → moved_less v ≡ f.nought
  moved-none v h = ap (λ x. f.plus x (f.neg (v i))) h ∙ f.plus-neg (v i)

fixed-at : {V : Type 0} (R : ℕ → V → Type 0) (h : List ℕ) (v : V) → IsFixedByAll R h v → (n : ℕ) → n < length h → R (slice_index h n) v
fixed-at R [] v a n l = absurd (omega (arith, l))
fixed-at R (q ∷ h) v a zero l = a.0
fixed-at R (q ∷ h) v a (suc n) l = fixed-at R h v a.1 n (omega (arith, l))

fixed-each : {V : Type 0} (R : ℕ → V → Type 0) (h : List ℕ) (v : V) → ((n : ℕ) → n < length h → R (slice_index h n) v) → IsFixedByAll R h v
fixed-each R [] v a = tt
fixed-each R (q ∷ h) v a = (a 0 (omega arith), fixed-each R h v (λ n l. a (suc n) (omega (arith, l))))

plain-at : {K : Type 0} (P : (ℕ → K) → Type 0) (a : ℕ → ℕ → K) (m : ℕ) → HasRows P (plain_rows a m) → (k : ℕ) → k < m → P (a k)
plain-at P a zero h k l = absurd (omega (arith, l))
plain-at P a (suc m) h k l =
    elim (lower k m l) [
      | inl b ↦ plain-at P a m h.1 k b
      | inr e ↦ subst (λ (i : ℕ). P (a i)) (sym e) h.0
    ]

module _ {K : Type 0} (f : FieldOn K) (s : AtomSpace) (h : List ℕ) where
  abbrev d : ℕ
  d = size_of s

  -- the vectors that each element of h leaves as they are
  pub left-subspace : IsSubspace f (IsFixedByAll (IsLeftBy f s) h)
  left-subspace = record {
    has_nought = fixed-each (IsLeftBy f s) h (λ _. f.nought) (λ n l i li. (applied f d (matrix_of f s (slice_index h n)) i).nought);
    has_plus = λ u v a b. fixed-each (IsLeftBy f s) h (λ j. f.plus (u j) (v j)) (λ n l i li.
        (applied f d (matrix_of f s (slice_index h n)) i).plus u v
        ∙ (λ t. f.plus (fixed-at (IsLeftBy f s) h u a n l i li t) (fixed-at (IsLeftBy f s) h v b n l i li t)));
    has_times = λ c v a. fixed-each (IsLeftBy f s) h (λ j. f.times c (v j)) (λ n l i li.
        (applied f d (matrix_of f s (slice_index h n)) i).times c v
        ∙ ap (f.times c) (fixed-at (IsLeftBy f s) h v a n l i li));
  }

  module _ (m : ℕ) (b : ℕ → ℕ → K) (y : ℕ → K) where
    -- a row of the differences, at the factors of a combination
    row-moves : (e : ℕ) → dot f m (left_row f s h b e) y ≡ moved_less f d (matrix_of f s (slice_index h (e / d))) (e % d) (combination f m y b)
    row-moves e = sym (linear-comb f (moved_less f d (matrix_of f s (slice_index h (e / d))) (e % d)) (moved-linear f d (matrix_of f s (slice_index h (e / d))) (e % d)) m y b)

    pub rows-left : ((e : ℕ) → e < length h * d → dot f m (left_row f s h b e) y ≡ f.nought) → IsFixedByAll (IsLeftBy f s) h (combination f m y b)
    rows-left z =
        fixed-each (IsLeftBy f s) h (combination f m y b) (λ n l i li.
        let v : ℕ → K = combination f m y b in
        let e : ℕ = n * d + i in
        let own : moved_less f d (matrix_of f s (slice_index h (e / d))) (e % d) v ≡ f.nought = sym (row-moves e) ∙ z e (column-below (length h) d n i l li) in
        moved-same f d (matrix_of f s (slice_index h n)) i v
        (sym (λ t. moved_less f d (matrix_of f s (slice_index h (row-at d n i li t))) (number-at d n i li t) v) ∙ own))

    pub left-rows : IsFixedByAll (IsLeftBy f s) h (combination f m y b) → (e : ℕ) → e < length h * d → dot f m (left_row f s h b e) y ≡ f.nought
    left-rows a e l =
        let v : ℕ → K = combination f m y b in
        row-moves e ∙ moved-none f d (matrix_of f s (slice_index h (e / d))) (e % d) v
        (fixed-at (IsLeftBy f s) h v a (e / d) (atom-below (length h) d e l) (e % d) (number-below (length h) d e l))

  -- the free rows span all vectors of the range that each element leaves as they are
  module _ (w : ℕ → K) (bs rs : List (ℕ × (ℕ → K))) (range : IsReducedFormOf f d (IsInRange f d (projection f s w)) bs) where
    abbrev b : ℕ → ℕ → K
    b = vector_at f (row_vectors bs)

    abbrev m : ℕ
    m = length bs

    abbrev n : ℕ
    n = length (free_columns m rs)

    bs-plain : AreSame (IsInSpan f (plain_rows b m)) (IsInSpan f (row_vectors bs))
    bs-plain = subst (λ (k : ℕ). AreSame (IsInSpan f (plain_rows b k)) (IsInSpan f (row_vectors bs))) (vectors-length bs) (plain-same f (row_vectors bs))

    in-range : (y : ℕ → K) → IsInRange f d (projection f s w) (combination f m y b)
    in-range y =
        (range.spans (combination f m y b)).0
        (comb-has f (IsInSpan f (row_vectors bs)) (span-subspace f (row_vectors bs)) m y b
        (λ k l. (bs-plain (b k)).0 (plain-member f b m k l)))

    module _ (reduced : IsReducedFormOf f m (IsInSpan f (plain_rows (left_row f s h b) (length h * d))) rs) where
      solved : (y : ℕ → K) → Vanishes f m (row_vectors rs) y ↔ ((e : ℕ) → e < length h * d → dot f m (left_row f s h b e) y ≡ f.nought)
      solved y = (
        λ z. plain-at (λ x. dot f m x y ≡ f.nought) (left_row f s h b) (length h * d) (vanishes-mono f m (row_vectors rs) (plain_rows (left_row f s h b) (length h * d)) (λ x. (reduced.spans x).1) y z),
        λ z. vanishes-mono f m (plain_rows (left_row f s h b) (length h * d)) (row_vectors rs) (λ x. (reduced.spans x).0) y (plain-each (left_row f s h b) (λ x. dot f m x y ≡ f.nought) (length h * d) z),
      )

      lefts : IsSubspace f (IsLeftInRange f s w h)
      lefts = record {
        has_nought = ((range-subspace f d (projection f s w)).has_nought, left-subspace.has_nought);
        has_plus = λ u v x z. ((range-subspace f d (projection f s w)).has_plus u v x.0 z.0, left-subspace.has_plus u v x.1 z.1);
        has_times = λ c v x. ((range-subspace f d (projection f s w)).has_times c v x.0, left-subspace.has_times c v x.1);
      }

      free-left : (k : ℕ) → k < n → IsLeftInRange f s w h (free_rows f m rs b k)
      free-left k l =
          let c = slice_index (free_columns m rs) k in
          let y : ℕ → K = free_vector f rs c in
          (in-range y, rows-left m b y ((solved y).0 (free-vanishes f m rs c (free_columns-at m rs k l).0 reduced.form.pivots reduced.form.reduced)))

      pub free-span-left : AreSame (IsInSpan f (plain_rows (free_rows f m rs b) n)) (IsLeftInRange f s w h)
      free-span-left v = (
        span-least f (IsLeftInRange f s w h) lefts (plain_rows (free_rows f m rs b) n) (plain-each (free_rows f m rs b) (IsLeftInRange f s w h) n free-left) v,
        λ x.
            let k = span-combination f m b v ((bs-plain v).1 ((range.spans v).1 x.0)) in
            let y = k.0 in
            let all : List (ℕ → K) = plain_rows (free_rows f m rs b) n in
            let fixed : IsFixedByAll (IsLeftBy f s) h (combination f m y b) = subst (IsFixedByAll (IsLeftBy f s) h) (sym k.2) x.1 in
            subst (IsInSpan f all) k.2
            (solution-has f (λ z. IsInSpan f all (combination f m z b)) (comb-subspace f m b (IsInSpan f all) (span-subspace f all)) m rs reduced.form.reduced
            (λ i l. plain-member f (free_rows f m rs b) n i l) y k.1 ((solved y).1 (left-rows m b y fixed))),
      )

      -- the form of the free rows has the modes of the direction
      pub free-modes : (ms : List (ℕ × (ℕ → K))) → IsForm f d ms → AreSame (IsInSpan f (row_vectors ms)) (IsInSpan f (plain_rows (free_rows f m rs b) n)) → AreModesOf f s w h ms
      free-modes ms form span = record { form = form; spans = λ v. (λ k. (free-span-left v).0 ((span v).0 k), λ k. (span v).1 ((free-span-left v).1 k)) }
