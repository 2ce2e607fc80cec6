-- What spans of orbits obey.
--
-- first-found, none-more: the first member with a property
-- plain-member, plain-each: the first rows are members of their span
-- span-skip: rows that are members may be left out
-- pivots-fewer, fewer: a form within the span of another has no more rows
-- passed, other-length: what shows that a span hasn't a dimension
-- span-moved, orbit-kept, block-member: the group keeps the span of an orbit
use Rattle.std.proofs.Common.{◌≡◌, ℕ, zero, suc, ◌<◌, ◌≤◌, ◌⊎◌, inl, inr, refl, sym, ◌∙◌, ap, subst, arith, List, [], ◌∷◌, ◌++◌, length}
use Rattle.algebra.specs.NumberedGroup.{Group}
use Rattle.cyclo24.specs.FieldOn.{FieldOn}
use Rattle.cyclo24.specs.FieldLaws.{times-nought, nought-times}
use Rattle.lin_alg.specs.Spans.{row_vectors, IsInSpan, IsSubspace, HasRows, AreSame}
use Rattle.lin_alg.specs.Reduced.{IsReduced, IsPivot, EndsAt}
use Rattle.lin_alg.specs.SpanLaws.{funext, in_span-past, in_span-head, last-pivot, pivot-past, reduced-unique, unit-not-nought}
use Rattle.lin_alg.specs.InsertLaws.{span-subspace, span-least}
use Rattle.lin_alg.specs.UnionLaws.{lower}
use Rattle.lin_alg.specs.Matrices.{IsRepresentation}
use Rattle.lin_alg.specs.Solving.{plain_rows}
use Rattle.real_form.specs.Parts.{Parts, orbit, real_image}
use Rattle.real_form.proofs.PartsLaws.{image-plus, image-times, image-orbit}
use Rattle.real_form.specs.Orbits.{IsFormOf, HasDimension, FirstOf, NoneOf}

pub first-found : {V : Type 0} (P N : V → Type 0) (front : List V) (v : V) (back : List V) → NoneOf N front → P v → FirstOf P N (front ++ v ∷ back)
first-found P N [] v back a h = inl h
first-found P N (u ∷ us) v back a h = inr (a.0, first-found P N us v back a.1 h)

pub none-more : {V : Type 0} (N : V → Type 0) (vs : List V) (v : V) → NoneOf N vs → N v → NoneOf N (vs ++ v ∷ [])
none-more N [] v a h = (h, tt)
none-more N (u ∷ us) v a h = (a.0, none-more N us v a.1 h)

module _ {K : Type 0} (f : FieldOn K) (a : ℕ → ℕ → K) where
  pub plain-member : (m k : ℕ) → k < m → IsInSpan f (plain_rows a m) (a k)
  plain-member zero k l = absurd (omega arith)
  plain-member (suc m) k l =
      elim (lower k m l) [
        | inl b ↦ in_span-past f (a m) (plain_rows a m) (a k) (plain-member m k b)
        | inr e ↦ subst (λ (i : ℕ). IsInSpan f (plain_rows a (suc m)) (a i)) (sym e) (in_span-head f (a m) (plain_rows a m))
      ]

  pub plain-each : (P : (ℕ → K) → Type 0) (m : ℕ) → ((k : ℕ) → k < m → P (a k)) → HasRows P (plain_rows a m)
  plain-each P zero h = tt
  plain-each P (suc m) h = (h m (omega arith), plain-each P m (λ k l. h k (omega arith)))

  -- the span of fewer rows is within that of more
  pub plain-within : (k m : ℕ) → k ≤ m → (v : ℕ → K) → IsInSpan f (plain_rows a k) v → IsInSpan f (plain_rows a m) v
  plain-within k m l v h =
      span-least f (IsInSpan f (plain_rows a m)) (span-subspace f (plain_rows a m)) (plain_rows a k) (plain-each (IsInSpan f (plain_rows a m)) k (λ i b. plain-member m i (omega arith))) v h

  -- rows that are members of the span of those before may be left out
  pub span-skip : (k m : ℕ) → k ≤ m → ((i : ℕ) → k ≤ i → i < m → IsInSpan f (plain_rows a k) (a i)) → AreSame (IsInSpan f (plain_rows a k)) (IsInSpan f (plain_rows a m))
  span-skip k m l h v = (
    plain-within k m l v,
    λ s. span-least f (IsInSpan f (plain_rows a k)) (span-subspace f (plain_rows a k)) (plain_rows a m)
        (plain-each (IsInSpan f (plain_rows a k)) m (λ i b. elim (at i k) [ inl c ↦ plain-member k i c | inr c ↦ h i c b ])) v s,
  )
    where
      at : (i k : ℕ) → (i < k) ⊎ (k ≤ i)
      at i k = grind arith

module _ {K : Type 0} (f : FieldOn K) where
  -- a form whose pivots are all pivots of another has no more rows
  pub pivots-fewer : (rs ss : List (ℕ × (ℕ → K))) → IsReduced f rs → IsReduced f ss → ((p : ℕ) → IsPivot p rs → IsPivot p ss) → length rs ≤ length ss
  pivots-fewer [] ss r s h = omega arith
  pivots-fewer (a ∷ rs) [] r s h = absurd (h a.0 (inl refl))
  pivots-fewer (a ∷ rs) (b ∷ ss) r s h =
      elim (h a.0 (inl refl)) [
        | inl e ↦
            let rest : (p : ℕ) → IsPivot p rs → IsPivot p ss =
            λ p k. elim (h p (inr k)) [ inl d ↦ let l : a.0 < p = pivot-past f a.0 p rs r.1 k in absurd (omega (arith, l, d, e)) | inr m ↦ m ] in
            let more : length rs ≤ length ss = pivots-fewer rs ss r.2 s.2 rest in
            omega (arith, more)
        | inr k ↦
            let b_below : b.0 < a.0 = pivot-past f b.0 a.0 ss s.1 k in
            let rest : (p : ℕ) → IsPivot p (a ∷ rs) → IsPivot p ss =
            λ p m. elim (h p m) [
              | inr t ↦ t
              | inl d ↦ elim m [
                | inl q ↦ absurd (omega (arith, b_below, d, q))
                | inr q ↦ let l : a.0 < p = pivot-past f a.0 p rs r.1 q in absurd (omega (arith, b_below, l, d))
              ]
            ] in
            let more : length (a ∷ rs) ≤ length ss = pivots-fewer (a ∷ rs) ss r s.2 rest in
            omega (arith, more)
      ]

  -- the row of a pivot
  pivot-row : (rs : List (ℕ × (ℕ → K))) → IsReduced f rs → (p : ℕ) → IsPivot p rs → (v : ℕ → K) × EndsAt f p v × IsInSpan f (row_vectors rs) v
  pivot-row [] r p h = absurd h
  pivot-row (a ∷ rs) r p h =
      elim h [
        | inl e ↦ (a.1, subst (λ (k : ℕ). EndsAt f k a.1) (sym e) r.0, in_span-head f a.1 (row_vectors rs))
        | inr k ↦ let w = pivot-row rs r.2 p k in (w.0, w.1, in_span-past f a.1 (row_vectors rs) w.0 w.2)
      ]

  -- a form within the span of another has no more rows
  pub fewer : (rs ss : List (ℕ × (ℕ → K))) → IsReduced f rs → IsReduced f ss → ((v : ℕ → K) → IsInSpan f (row_vectors rs) v → IsInSpan f (row_vectors ss) v) → length rs ≤ length ss
  fewer rs ss r s t =
      pivots-fewer rs ss r s (λ p h.
      let w = pivot-row rs r p h in
      last-pivot f ss w.0 p s (t w.0 w.2) (λ e. unit-not-nought f (sym w.1.0 ∙ e)) w.1.1)

  -- more independent rows among the first than the dimension
  pub passed : (w k m n : ℕ) (a : ℕ → ℕ → K) (rs : List (ℕ × (ℕ → K))) → IsFormOf f w k a rs → k ≤ m → n < length rs → HasDimension f w m a n → ⊥
  passed w k m n a rs h l more d =
      let le : length rs ≤ length d.0 =
      fewer rs d.0 h.form.reduced d.1.form.reduced (λ v t. (d.1.span v).1 (plain-within f a k m l v ((h.span v).0 t))) in
      let e : length d.0 ≡ n = d.2 in
      absurd (omega (arith, le, e, more))

  -- a span has one dimension
  pub other-length : (w m n : ℕ) (a : ℕ → ℕ → K) (rs : List (ℕ × (ℕ → K))) → IsFormOf f w m a rs → (length rs ≡ n → ⊥) → HasDimension f w m a n → ⊥
  other-length w m n a rs h other d =
      let e : rs ≡ d.0 =
      reduced-unique f rs d.0 h.form.reduced d.1.form.reduced (λ v t. (d.1.span v).1 ((h.span v).0 t)) (λ v t. (h.span v).1 ((d.1.span v).0 t)) in
      other (ap length e ∙ d.2)

module _ {Z K : Type 0} (p : Parts Z K) (n : ℕ) (g : Group) (D : ℕ → ℕ → ℕ → Z) (rep : IsRepresentation p.complex g n D) (w : ℕ → Z) where
  abbrev a : ℕ → ℕ → K
  a = orbit p n D w

  image-subspace : (q : ℕ) (P : (ℕ → K) → Type 0) → IsSubspace p.real P → IsSubspace p.real (λ v. P (real_image p n D q v))
  image-subspace q P s = record {
    has_nought =
        let zero_row : ℕ → K = λ _. p.real.nought in
        let e : real_image p n D q zero_row ≡ zero_row =
        funext (λ j. ap (λ v. real_image p n D q v j) (funext (λ k. sym (times-nought p.real p.real.nought)))
        ∙ image-times p n g D q p.real.nought zero_row j ∙ nought-times p.real (real_image p n D q zero_row j)) in
        subst P (sym e) s.has_nought;
    has_plus = λ v u h k.
        subst P (sym (funext (λ j. image-plus p n g D q v u j))) (s.has_plus (real_image p n D q v) (real_image p n D q u) h k);
    has_times = λ c v h. subst P (sym (funext (λ j. image-times p n g D q c v j))) (s.has_times c (real_image p n D q v) h);
  }

  -- an element that takes the first m rows to first m rows keeps their span
  pub span-moved : (q m : ℕ) → q < g.order → m ≤ g.order → ((k : ℕ) → k < m → g.product q k < m) → (v : ℕ → K) → IsInSpan p.real (plain_rows a m) v → IsInSpan p.real (plain_rows a m) (real_image p n D q v)
  span-moved q m lq lm h v s =
      let P : (ℕ → K) → Type 0 = IsInSpan p.real (plain_rows a m) in
      span-least p.real (λ u. P (real_image p n D q u)) (image-subspace q P (span-subspace p.real (plain_rows a m))) (plain_rows a m)
      (plain-each p.real a (λ u. P (real_image p n D q u)) m (λ k l.
      let lk : k < g.order = omega (arith, l, lm) in
      subst P (sym (funext (λ j. image-orbit p n g D rep w q k lq lk j))) (plain-member p.real a m (g.product q k) (h k l)))) v s

  -- where the first row of a block is a member, each is: t takes the rows before to such, and the first to row i
  pub block-member : (t first i : ℕ) → t < g.order → first < g.order → ((k : ℕ) → k < first → g.product t k < first) → g.product t first ≡ i →
      IsInSpan p.real (plain_rows a first) (a first) → IsInSpan p.real (plain_rows a first) (a i)
  block-member t first i lt lf h e s =
      let P : (ℕ → K) → Type 0 = IsInSpan p.real (plain_rows a first) in
      let moved : P (real_image p n D t (a first)) = span-moved t first lt (omega (arith, lf)) h (a first) s in
      let to : real_image p n D t (a first) ≡ a i = funext (λ j. image-orbit p n g D rep w t first lt lf j ∙ ap (λ k. a k j) e) in
      subst P to moved
