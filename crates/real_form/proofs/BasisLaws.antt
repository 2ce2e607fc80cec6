-- Coordinates in a reduced form: the entries at the pivots.
--
-- AreMaps f w g B: linear maps of rows of w entries that multiply as the group
-- pivot-entry: row m is 1 at its pivot and 0 at the others
-- read-off: a member is the combination of the rows by its entries at the pivots
-- coordinates-multiply, coordinates-identity: the matrices of maps that keep the span
use Rattle.std.proofs.Common.{◌≡◌, ℕ, zero, suc, ◌+◌, ◌<◌, ◌≤◌, inl, inr, refl, sym, ◌∙◌, ap, subst, arith, List, [], ◌∷◌, length, if◌then◌else◌}
use Rattle.algebra.specs.NumberedGroup.{Group}
use Rattle.cyclo24.specs.FieldOn.{FieldOn}
use Rattle.cyclo24.specs.FieldLaws.{times-nought, nought-times, plus-times, unit-times, less-own}
use Rattle.cyclo24.specs.Sums.{total}
use Rattle.algebra.specs.SumLaws.{decide, below}
use Rattle.cyclo24.specs.SumLaws.{one-term}
use Rattle.cyclo24.specs.TotalLaws.{total-same, total-nought, total-plus, total-times}
use Rattle.lin_alg.specs.Spans.{row_vectors, less, IsInSpan, HasRows}
use Rattle.lin_alg.specs.Reduced.{IsReduced, IsForm, IsWithin, ArePast, PivotsBelow}
use Rattle.lin_alg.specs.SpanLaws.{funext, in_span-head, in_span-past, less-at}
use Rattle.lin_alg.specs.InsertLaws.{span-least}
use Rattle.lin_alg.specs.Equations.{unit_vector}
use Rattle.lin_alg.specs.EquationLaws.{eq-self, eq-other}
use Rattle.lin_alg.specs.Solving.{combination}
use Rattle.lin_alg.specs.Matrices.{unit_entry, AreEqualBelow, IsRepresentation}
use Rattle.real_form.specs.Bases.{row_at, pivot_at, unit_rows, matrix_of}

-- linear maps of rows of w entries, one for each element, that multiply as the group
pub record AreMaps {K : Type 0} (f : FieldOn K) (w : ℕ) (g : Group) (B : ℕ → (ℕ → K) → ℕ → K) : Type 0 where
  pub plus : (q : ℕ) (v u : ℕ → K) (j : ℕ) → B q (λ k. f.plus (v k) (u k)) j ≡ f.plus (B q v j) (B q u j)
  pub times : (q : ℕ) (c : K) (v : ℕ → K) (j : ℕ) → B q (λ k. f.times c (v k)) j ≡ f.times c (B q v j)
  pub product : (a b : ℕ) → a < g.order → b < g.order → (v : ℕ → K) (j : ℕ) → B (g.product a b) v j ≡ B a (B b v) j
  pub identity : (v : ℕ → K) → IsWithin f w v → (j : ℕ) → B 0 v j ≡ v j

module _ {K : Type 0} (f : FieldOn K) where
  past-row : (p : ℕ) (rs : List (ℕ × (ℕ → K))) → ArePast f p rs → (m : ℕ) → m < length rs → row_at f rs m p ≡ f.nought
  past-row p [] a m l = absurd (omega arith)
  past-row p (r ∷ rs) a zero l = a.1
  past-row p (r ∷ rs) a (suc m) l = past-row p rs a.2 m (omega arith)

  past-pivot : (p : ℕ) (rs : List (ℕ × (ℕ → K))) → ArePast f p rs → (i : ℕ) → i < length rs → p < pivot_at rs i
  past-pivot p [] a i l = absurd (omega arith)
  past-pivot p (r ∷ rs) a zero l = a.0
  past-pivot p (r ∷ rs) a (suc i) l = past-pivot p rs a.2 i (omega arith)

  pivot-own : (rs : List (ℕ × (ℕ → K))) → IsReduced f rs → (i : ℕ) → i < length rs → row_at f rs i (pivot_at rs i) ≡ f.unit
  pivot-own [] r i l = absurd (omega arith)
  pivot-own (b ∷ rs) r zero l = r.0.0
  pivot-own (b ∷ rs) r (suc i) l = pivot-own rs r.2 i (omega arith)

  pivot-apart : (rs : List (ℕ × (ℕ → K))) → IsReduced f rs → (i m : ℕ) → i < length rs → m < length rs → (i ≡ m → ⊥) → row_at f rs m (pivot_at rs i) ≡ f.nought
  pivot-apart [] r i m li lm n = absurd (omega arith)
  pivot-apart (b ∷ rs) r zero zero li lm n = absurd (n refl)
  pivot-apart (b ∷ rs) r zero (suc m) li lm n = past-row b.0 rs r.1 m (omega arith)
  pivot-apart (b ∷ rs) r (suc i) zero li lm n = r.0.1 (pivot_at rs i) (past-pivot b.0 rs r.1 i (omega arith))
  pivot-apart (b ∷ rs) r (suc i) (suc m) li lm n = pivot-apart rs r.2 i m (omega arith) (omega arith) (λ e. n (ap suc e))

  unit-own : (i : ℕ) → unit_entry f i i ≡ f.unit
  unit-own i = ap (λ b. if b then f.unit else f.nought) (eq-self i)

  unit-other : (i m : ℕ) → (i ≡ m → ⊥) → unit_entry f i m ≡ f.nought
  unit-other i m n = ap (λ b. if b then f.unit else f.nought) (eq-other i m n)

  -- row m is 1 at its pivot and 0 at the other pivots
  pub pivot-entry : (rs : List (ℕ × (ℕ → K))) → IsReduced f rs → (i m : ℕ) → i < length rs → m < length rs → row_at f rs m (pivot_at rs i) ≡ unit_entry f i m
  pivot-entry rs r i m li lm =
      elim (decide i m) [
        | inl e ↦ subst (λ (k : ℕ). row_at f rs k (pivot_at rs i) ≡ unit_entry f i k) e (pivot-own rs r i li ∙ sym (unit-own i))
        | inr n ↦ pivot-apart rs r i m li lm n ∙ sym (unit-other i m n)
      ]

  -- what holds of each row by its number holds of the rows
  pub rows-each : (P : (ℕ → K) → Type 0) (rs : List (ℕ × (ℕ → K))) → ((m : ℕ) → m < length rs → P (row_at f rs m)) → HasRows P (row_vectors rs)
  rows-each P [] h = tt
  rows-each P (r ∷ rs) h = (h 0 (omega arith), rows-each P rs (λ m l. h (suc m) (omega arith)))

  pub row-member : (rs : List (ℕ × (ℕ → K))) (m : ℕ) → m < length rs → IsInSpan f (row_vectors rs) (row_at f rs m)
  row-member [] m l = absurd (omega arith)
  row-member (r ∷ rs) zero l = in_span-head f r.1 (row_vectors rs)
  row-member (r ∷ rs) (suc m) l = in_span-past f r.1 (row_vectors rs) (row_at f rs m) (row-member rs m (omega arith))

  -- a member is the combination of the rows by its entries at the pivots
  pub read-off : (rs : List (ℕ × (ℕ → K))) → IsReduced f rs → (x : ℕ → K) → IsInSpan f (row_vectors rs) x → (j : ℕ) → x j ≡ combination f (length rs) (λ i. x (pivot_at rs i)) (row_at f rs) j
  read-off rs r x h =
      let d : ℕ = length rs in
      let P : (ℕ → K) → Type 0 = λ v. (j : ℕ) → v j ≡ combination f d (λ i. v (pivot_at rs i)) (row_at f rs) j in
      span-least f P (record {
        has_nought = λ j. sym (total-same f d _ (λ _. f.nought) (λ i l. nought-times f (row_at f rs i j)) ∙ total-nought f d);
        has_plus = λ v u a b j.
            (λ t. f.plus (a j t) (b j t))
            ∙ sym (total-same f d _ _ (λ i l. plus-times f (v (pivot_at rs i)) (u (pivot_at rs i)) (row_at f rs i j))
            ∙ total-plus f d (λ i. f.times (v (pivot_at rs i)) (row_at f rs i j)) (λ i. f.times (u (pivot_at rs i)) (row_at f rs i j)));
        has_times = λ c v a j.
            ap (f.times c) (a j)
            ∙ sym (total-same f d _ _ (λ i l. f.times_assoc c (v (pivot_at rs i)) (row_at f rs i j))
            ∙ total-times f d c (λ i. f.times (v (pivot_at rs i)) (row_at f rs i j)));
      }) (row_vectors rs)
      (rows-each P rs (λ m l j.
      sym (one-term f d m (λ i. f.times (row_at f rs m (pivot_at rs i)) (row_at f rs i j)) l
      (λ i li n. ap (λ z. f.times z (row_at f rs i j)) (pivot-entry rs r i m li l ∙ unit-other i m n) ∙ nought-times f (row_at f rs i j))
      ∙ ap (λ z. f.times z (row_at f rs m j)) (pivot-entry rs r m m l l ∙ unit-own m) ∙ unit-times f (row_at f rs m j)))) x h

module _ {K : Type 0} (f : FieldOn K) (w : ℕ) (g : Group) (B : ℕ → (ℕ → K) → ℕ → K) (maps : AreMaps f w g B) where
  pub map-nought : (q j : ℕ) → B q (λ _. f.nought) j ≡ f.nought
  map-nought q j =
      ap (λ v. B q v j) (funext (λ k. sym (times-nought f f.nought))) ∙ maps.times q f.nought (λ _. f.nought) j ∙ nought-times f (B q (λ _. f.nought) j)

  -- the image of a combination
  pub map-combination : (q d : ℕ) (c : ℕ → K) (rows : ℕ → ℕ → K) (j : ℕ) → B q (combination f d c rows) j ≡ total f d (λ k. f.times (c k) (B q (rows k) j))
  map-combination q zero c rows j = map-nought q j
  map-combination q (suc d) c rows j =
      maps.plus q (combination f d c rows) (λ i. f.times (c d) (rows d i)) j
      ∙ (λ t. f.plus (map-combination q d c rows j t) (maps.times q (c d) (rows d) j t))

  module _ (rs : List (ℕ × (ℕ → K))) (form : IsForm f w rs) (kept : (q : ℕ) → q < g.order → (v : ℕ → K) → IsInSpan f (row_vectors rs) v → IsInSpan f (row_vectors rs) (B q v)) where
    pub coordinates : (q m : ℕ) → q < g.order → m < length rs → (j : ℕ) → combination f (length rs) (λ i. matrix_of f rs B q i m) (row_at f rs) j ≡ B q (row_at f rs m) j
    coordinates q m lq lm j = sym (read-off f rs form.reduced (B q (row_at f rs m)) (kept q lq (row_at f rs m) (row-member f rs m lm)) j)

    pub coordinates-multiply : IsRepresentation f g (length rs) (matrix_of f rs B)
    coordinates-multiply a b la lb i m li lm =
        let d : ℕ = length rs in
        let c : ℕ → K = λ k. matrix_of f rs B b k m in
        maps.product a b la lb (row_at f rs m) (pivot_at rs i)
        ∙ ap (λ v. B a v (pivot_at rs i)) (funext (λ j. sym (coordinates b m lb lm j)))
        ∙ map-combination a d c (row_at f rs) (pivot_at rs i)
        ∙ total-same f d _ _ (λ k l. f.times_comm (c k) (B a (row_at f rs k) (pivot_at rs i)))

    pub coordinates-identity : AreEqualBelow (length rs) (matrix_of f rs B 0) (unit_entry f)
    coordinates-identity i m li lm =
        maps.identity (row_at f rs m) (within m lm) (pivot_at rs i) ∙ pivot-entry f rs form.reduced i m li lm
      where
        within : (m : ℕ) → m < length rs → IsWithin f w (row_at f rs m)
        within m l = row_within rs form.within m l where
          row_within : (ss : List (ℕ × (ℕ → K))) → HasRows (IsWithin f w) (row_vectors ss) → (k : ℕ) → k < length ss → IsWithin f w (row_at f ss k)
          row_within [] h k b = absurd (omega arith)
          row_within (s ∷ ss) h zero b = h.0
          row_within (s ∷ ss) h (suc k) b = row_within ss h.1 k (omega arith)

-- the unit vectors of the places from i on
module _ {K : Type 0} (f : FieldOn K) where
  unit-at : (i : ℕ) → unit_vector f i i ≡ f.unit
  unit-at i = ap (λ b. if b then f.unit else f.nought) (eq-self i)

  unit-apart : (i j : ℕ) → (j ≡ i → ⊥) → unit_vector f i j ≡ f.nought
  unit-apart i j n = ap (λ b. if b then f.unit else f.nought) (eq-other j i n)

  unit-past : (p i k : ℕ) → p < i → ArePast f p (unit_rows f i k)
  unit-past p i zero l = tt
  unit-past p i (suc k) l = (l, unit-apart i p (λ e. absurd (omega (arith, l, e))), unit-past p (suc i) k (omega arith))

  unit-reduced : (i k : ℕ) → IsReduced f (unit_rows f i k)
  unit-reduced i zero = tt
  unit-reduced i (suc k) = ((unit-at i, λ j l. unit-apart i j (λ e. absurd (omega (arith, l, e)))), unit-past i (suc i) k (omega arith), unit-reduced (suc i) k)

  unit-below : (w i k : ℕ) → i + k ≤ w → PivotsBelow w (unit_rows f i k)
  unit-below w i zero l = tt
  unit-below w i (suc k) l = (omega arith, unit-below w (suc i) k (omega arith))

  unit-within : (w i k : ℕ) → i + k ≤ w → HasRows (IsWithin f w) (row_vectors (unit_rows f i k))
  unit-within w i zero l = tt
  unit-within w i (suc k) l = (λ j m. unit-apart i j (λ e. absurd (omega (arith, l, m, e))), unit-within w (suc i) k (omega arith))

  -- the unit vectors are a reduced form
  pub unit-form : (w : ℕ) → IsForm f w (unit_rows f 0 w)
  unit-form w = record { reduced = unit-reduced 0 w; pivots = unit-below w 0 w (omega arith); within = unit-within w 0 w (omega arith) }

  unit-span : (k i : ℕ) (v : ℕ → K) → ((j : ℕ) → j < i → v j ≡ f.nought) → IsWithin f (i + k) v → IsInSpan f (row_vectors (unit_rows f i k)) v
  unit-span zero i v before past = λ j. elim (below j i) [ inl l ↦ before j l | inr l ↦ past j (omega arith) ]
  unit-span (suc k) i v before past = (
    v i,
    unit-span k (suc i) (less f v (v i) (unit_vector f i))
        (λ j l. elim (decide j i) [
          | inl e ↦ subst (λ (t : ℕ). less f v (v i) (unit_vector f i) t ≡ f.nought) (sym e) (ap (λ x. f.plus (v i) (f.neg (f.times (v i) x))) (unit-at i) ∙ less-own f (v i))
          | inr n ↦ less-at f v (v i) (unit_vector f i) j (unit-apart i j n) ∙ before j (let q : j ≡ i → ⊥ = n in near j i l q)
        ])
        (λ j l. less-at f v (v i) (unit_vector f i) j (unit-apart i j (λ e. absurd (omega (arith, l, e)))) ∙ past j (omega arith)),
  )
    where
      near : (j i : ℕ) → j < suc i → (j ≡ i → ⊥) → j < i
      near j i l n = omega (arith, l, n)

  -- every row of that width is in their span
  pub whole-span : (w : ℕ) (v : ℕ → K) → IsWithin f w v → IsInSpan f (row_vectors (unit_rows f 0 w)) v
  whole-span w v h = unit-span w 0 v (λ j l. absurd (omega arith)) (λ j l. h j (omega (arith, l)))

  pub unit-length : (i k : ℕ) → length (unit_rows f i k) ≡ k
  unit-length i zero = refl
  unit-length i (suc k) = ap suc (unit-length (suc i) k)
