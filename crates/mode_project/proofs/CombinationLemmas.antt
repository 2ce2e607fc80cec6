use Rattle.std.proofs.Common.{◌≡◌, ℕ, suc, zero, ◌<◌, ◌≤◌, ◌||◌, true, false, inl, inr, refl, sym, ◌∙◌, ap, subst, arith, nat_eq, if◌then◌else◌, List, [], ◌∷◌, length}
use Rattle.std.proofs.lemmas.Bool.Decides.{eqb_tells}
use Rattle.std.specs.List.{slice_index}
use Rattle.cyclo24.specs.FieldOn.{FieldOn}
use Rattle.cyclo24.specs.FieldLaws.{times-nought, less-nought, less-self, plus-times, times-neg}
use Rattle.cyclo24.specs.TotalLaws.{total-same, total-nought, total-plus, total-times}
use Rattle.lin_alg.specs.EquationLaws.{dec, dot-unit, vanish-subspace}
use Rattle.lin_alg.specs.Equations.{dot, unit_vector, free_vector, Vanishes}
use Rattle.lin_alg.specs.FreeLaws.{column-held}
use Rattle.lin_alg.specs.InsertLaws.{span-least}
use Rattle.lin_alg.specs.Reduced.{IsReduced, IsWithin, ArePast, is_pivot, free_columns}
use Rattle.lin_alg.specs.Solving.{combination, plain_rows}
use Rattle.lin_alg.specs.SpanLaws.{funext}
use Rattle.lin_alg.specs.Spans.{row_vectors, IsInSpan, IsSubspace}
use Rattle.mode_project.specs.ListLaws.{plain-each}

module _ {K : Type 0} (f : FieldOn K) where
  flip : (n : ℕ) (x v : ℕ → K) → dot f n x v ≡ dot f n v x
  flip n x v = total-same f n _ _ (λ k l. f.times_comm (x k) (v k))

  unit-turned : (i j : ℕ) → unit_vector f i j ≡ unit_vector f j i
  unit-turned i j = ap (λ b. if b then f.unit else f.nought) (turned i j)
    where
      turned : (i j : ℕ) → nat_eq j i ≡ nat_eq i j
      turned i j = grind arith

  -- combinations of m vectors
  module _ (m : ℕ) (b : ℕ → ℕ → K) where
    comb-nought : combination f m (λ _. f.nought) b ≡ (λ _. f.nought)
    comb-nought = funext (λ j. (vanish-subspace f m (λ i. b i j)).has_nought)

    comb-plus : (u v : ℕ → K) → combination f m (λ i. f.plus (u i) (v i)) b ≡ (λ j. f.plus (combination f m u b j) (combination f m v b j))
    comb-plus u v = funext (λ j. total-same f m _ _ (λ i l. plus-times f (u i) (v i) (b i j)) ∙ total-plus f m (λ i. f.times (u i) (b i j)) (λ i. f.times (v i) (b i j)))

    comb-times : (c : K) (v : ℕ → K) → combination f m (λ i. f.times c (v i)) b ≡ (λ j. f.times c (combination f m v b j))
    comb-times c v = funext (λ j. total-same f m _ _ (λ i l. f.times_assoc c (v i) (b i j)) ∙ total-times f m c (λ i. f.times (v i) (b i j)))

    comb-unit : (k : ℕ) → k < m → combination f m (unit_vector f k) b ≡ b k
    comb-unit k l = funext (λ j. flip m (unit_vector f k) (λ i. b i j) ∙ dot-unit f m (λ i. b i j) k l)

    pub comb-subspace : (Q : (ℕ → K) → Type 0) → IsSubspace f Q → IsSubspace f (λ y. Q (combination f m y b))
    comb-subspace Q s = record {
      has_nought = subst Q (sym comb-nought) s.has_nought;
      has_plus = λ u v h k. subst Q (sym (comb-plus u v)) (s.has_plus (combination f m u b) (combination f m v b) h k);
      has_times = λ c v h. subst Q (sym (comb-times c v)) (s.has_times c (combination f m v b) h);
    }

    -- v is a combination with factors of m entries
    abbrev IsCombination : (ℕ → K) → Type 0
    IsCombination v = (y : ℕ → K) × IsWithin f m y × (combination f m y b ≡ v)

    combinations : IsSubspace f IsCombination
    combinations = record {
      has_nought = ((λ _. f.nought), (λ j l. refl), comb-nought);
      has_plus = λ u v h k. (
        (λ i. f.plus (h.0 i) (k.0 i)),
        (λ j l. (λ t. f.plus (h.1 j l t) (k.1 j l t)) ∙ f.plus-nought f.nought),
        comb-plus h.0 k.0 ∙ funext (λ j. λ t. f.plus (h.2 t j) (k.2 t j)),
      );
      has_times = λ c v h. (
        (λ i. f.times c (h.0 i)),
        (λ j l. ap (f.times c) (h.1 j l) ∙ times-nought f c),
        comb-times c h.0 ∙ funext (λ j. λ t. f.times c (h.2 t j)),
      );
    }

    unit-within : (k : ℕ) → k < m → IsWithin f m (unit_vector f k)
    unit-within k l j h = ap (λ t. if t then f.unit else f.nought) (apart j k l h)
      where
        apart : (j k : ℕ) → k < m → m ≤ j → nat_eq j k ≡ false
        apart j k l h = grind arith

    pub span-combination : (v : ℕ → K) → IsInSpan f (plain_rows b m) v → IsCombination v
    span-combination = span-least f IsCombination combinations (plain_rows b m) (plain-each b IsCombination m (λ k l. (unit_vector f k, unit-within k l, comb-unit k l)))

  -- what holds for each vector holds for their combinations
  pub comb-has : (Q : (ℕ → K) → Type 0) → IsSubspace f Q → (m : ℕ) (x : ℕ → K) (b : ℕ → ℕ → K) → ((k : ℕ) → k < m → Q (b k)) → Q (combination f m x b)
  comb-has Q s zero x b h = s.has_nought
  comb-has Q s (suc m) x b h =
      s.has_plus (combination f m x b) (λ j. f.times (x m) (b m j)) (comb-has Q s m x b (λ k l. h k (omega arith))) (s.has_times (x m) (b m) (h m (omega arith)))

  -- a sum of multiples goes to the sum of multiples
  pub record IsLinear (L : (ℕ → K) → K) : Type 0 where
    pub nought : L (λ _. f.nought) ≡ f.nought
    pub plus : (u v : ℕ → K) → L (λ j. f.plus (u j) (v j)) ≡ f.plus (L u) (L v)
    pub times : (c : K) (v : ℕ → K) → L (λ j. f.times c (v j)) ≡ f.times c (L v)

  pub linear-comb : (L : (ℕ → K) → K) → IsLinear L → (m : ℕ) (y : ℕ → K) (b : ℕ → ℕ → K) → L (combination f m y b) ≡ dot f m (λ k. L (b k)) y
  linear-comb L s zero y b = s.nought
  linear-comb L s (suc m) y b =
      s.plus (combination f m y b) (λ j. f.times (y m) (b m j))
      ∙ (λ t. f.plus (linear-comb L s m y b t) (s.times (y m) (b m) t))
      ∙ ap (f.plus (dot f m (λ k. L (b k)) y)) (f.times_comm (y m) (L (b m)))

  -- a solution by the free vectors of all columns
  module _ (m : ℕ) (y : ℕ → K) (within : IsWithin f m y) where
    by-units : combination f m y (unit_vector f) ≡ y
    by-units = funext (λ j. elim (dec j m) [
      | inl l ↦ total-same f m _ _ (λ i k. ap (f.times (y i)) (unit-turned i j)) ∙ dot-unit f m y j l
      | inr l ↦
          total-same f m _ (λ _. f.nought) (λ i k. ap (f.times (y i)) (ap (λ t. if t then f.unit else f.nought) (apart i j k l)) ∙ times-nought f (y i))
          ∙ total-nought f m ∙ sym (within j l)
    ])
      where
        apart : (i j : ℕ) → i < m → m ≤ j → nat_eq j i ≡ false
        apart i j k l = grind arith

    split : (rs : List (ℕ × (ℕ → K))) (r : ℕ × (ℕ → K)) (j : ℕ)
        → combination f m y (free_vector f (r ∷ rs)) j ≡ f.plus (combination f m y (free_vector f rs) j) (f.neg (f.times (dot f m r.1 y) (unit_vector f r.0 j)))
    split rs r j =
        let u : K = unit_vector f r.0 j in
        let sum : K = dot f m r.1 y in
        let term : (c a x : K) → f.times c (f.plus a (f.neg (f.times x u))) ≡ f.plus (f.times c a) (f.times (f.neg u) (f.times x c)) =
        λ c a x. f.times-plus c a (f.neg (f.times x u)) ∙ ap (f.plus (f.times c a))
        (times-neg f c (f.times x u) ∙ ap f.neg (sym (f.times_assoc c x u) ∙ ap (λ z. f.times z u) (f.times_comm c x)) ∙ sym (f.times_comm (f.neg u) (f.times x c) ∙ times-neg f (f.times x c) u)) in
        total-same f m _ _ (λ i l. term (y i) (free_vector f rs i j) (r.1 i))
        ∙ total-plus f m (λ i. f.times (y i) (free_vector f rs i j)) (λ i. f.times (f.neg u) (f.times (r.1 i) (y i)))
        ∙ ap (f.plus (combination f m y (free_vector f rs) j)) (total-times f m (f.neg u) (λ i. f.times (r.1 i) (y i)) ∙ f.times_comm (f.neg u) sum ∙ times-neg f sum u)

    pub solution-spread : (rs : List (ℕ × (ℕ → K))) → Vanishes f m (row_vectors rs) y → combination f m y (free_vector f rs) ≡ y
    solution-spread [] h = by-units
    solution-spread (r ∷ rs) h =
        funext (λ j. split rs r j ∙ ap (λ c. f.plus (combination f m y (free_vector f rs) j) (f.neg (f.times c (unit_vector f r.0 j)))) h.0
        ∙ less-nought f (combination f m y (free_vector f rs) j) (unit_vector f r.0 j) ∙ ap (λ (v : ℕ → K). v j) (solution-spread rs h.1))

  -- the free vector of a pivot is 0
  past-unit : (p : ℕ) (rs : List (ℕ × (ℕ → K))) → ArePast f p rs → free_vector f rs p ≡ unit_vector f p
  past-unit p [] a = refl
  past-unit p (r ∷ rs) a =
      funext (λ j. ap (λ c. f.plus (free_vector f rs p j) (f.neg (f.times c (unit_vector f r.0 j)))) a.1 ∙ less-nought f (free_vector f rs p j) (unit_vector f r.0 j)
      ∙ ap (λ (v : ℕ → K). v j) (past-unit p rs a.2))

  past-after : (p j : ℕ) (rs : List (ℕ × (ℕ → K))) → ArePast f p rs → is_pivot j rs ≡ true → p < j
  past-after p j [] a h = let e : false ≡ true = h in absurd cc
  past-after p j (r ∷ rs) a h =
      elim (eqb_tells j r.0) [
        | inl e ↦ let l : p < r.0 = a.0 in let e' : j ≡ r.0 = e.1 in omega (arith, l, e')
        | inr n ↦ past-after p j rs a.2 (sym (ap (λ b. b || is_pivot j rs) n.0) ∙ h)
      ]

  pub free-pivot : (rs : List (ℕ × (ℕ → K))) → IsReduced f rs → (j : ℕ) → is_pivot j rs ≡ true → free_vector f rs j ≡ (λ _. f.nought)
  free-pivot [] d j h = let e : false ≡ true = h in absurd cc
  free-pivot (r ∷ rs) d j h =
      elim (eqb_tells j r.0) [
        | inl e ↦
            let own : free_vector f (r ∷ rs) r.0 ≡ (λ _. f.nought) =
            funext (λ k. (λ t. f.plus (past-unit r.0 rs d.1 t k) (f.neg (f.times (d.0.0 t) (unit_vector f r.0 k)))) ∙ less-self f (unit_vector f r.0 k)) in
            subst (λ (i : ℕ). free_vector f (r ∷ rs) i ≡ (λ _. f.nought)) (sym e.1) own
        | inr n ↦
            let p : is_pivot j rs ≡ true = sym (ap (λ b. b || is_pivot j rs) n.0) ∙ h in
            let z : r.1 j ≡ f.nought = d.0.1 j (past-after r.0 j rs d.1 p) in
            funext (λ k. (λ t. f.plus (free-pivot rs d.2 j p t k) (f.neg (f.times (z t) (unit_vector f r.0 k)))) ∙ less-nought f f.nought (unit_vector f r.0 k))
      ]

  -- what each free vector has, each solution has
  pub solution-has : (Q : (ℕ → K) → Type 0) → IsSubspace f Q → (m : ℕ) (rs : List (ℕ × (ℕ → K))) → IsReduced f rs
      → ((n : ℕ) → n < length (free_columns m rs) → Q (free_vector f rs (slice_index (free_columns m rs) n)))
      → (y : ℕ → K) → IsWithin f m y → Vanishes f m (row_vectors rs) y → Q y
  solution-has Q s m rs d h y w z =
      subst Q (solution-spread m y w rs z)
      (comb-has Q s m y (free_vector f rs) (λ k l.
      (elim (is_pivot k rs) as (λ b. (is_pivot k rs ≡ b) → Q (free_vector f rs k)) [
        | true ↦ λ p. subst Q (sym (free-pivot rs d k p)) s.has_nought
        | false ↦ λ p. let c = column-held m rs k l p in subst (λ (i : ℕ). Q (free_vector f rs i)) c.2 (h c.0 c.1)
      ]) refl))
