-- What solving rests on: the form of the joined rows holds each combination of the rows with its coefficients in front.
--
-- joined-front, joined-behind: the parts of a joined row
-- solution, solution-only, no-solution: what is left of a target with zeros in front, taken to 0 in the pivot columns, tells the solution
use Rattle.std.proofs.Common.{◌≡◌, ℕ, suc, zero, ◌<◌, ◌≤◌, ◌+◌, ◌-◌, inl, inr, refl, sym, ◌∙◌, ap, subst, List, [], ◌∷◌, arith, lt-ltb, le-ltb, if◌then◌else◌}
use Rattle.cyclo24.specs.FieldOn.{FieldOn}
use Rattle.cyclo24.specs.FieldLaws.{plus-times, unit-times, nought-plus, less-same, less-at-nought, neg-plus-neg, neg-neg}
use Rattle.cyclo24.specs.TotalLaws.{total-same, total-plus, total-times}
use Rattle.cyclo24.specs.Sums.{total}
use Rattle.lin_alg.specs.Spans.{row_vectors, less, IsInSpan, IsSubspace, HasRows, AreSame}
use Rattle.lin_alg.specs.Reduced.{IsReduced, IsClear}
use Rattle.lin_alg.specs.SpanLaws.{funext, less-at, clear-nought, unit-not-nought}
use Rattle.lin_alg.specs.InsertLaws.{span-subspace, span-least, span-rows, has_less, rows-mono}
use Rattle.lin_alg.specs.Equations.{dot, unit_vector}
use Rattle.lin_alg.specs.EquationLaws.{dec, dot-unit, dot-less, vanish-subspace}
use Rattle.lin_alg.specs.Solving.{combination, AreIndependent, joined, joined_rows}

dot-turned : {K : Type 0} (f : FieldOn K) (w : ℕ) (x v : ℕ → K) → dot f w x v ≡ dot f w v x
dot-turned f w x v = total-same f w _ _ (λ k l. f.times_comm (x k) (v k))

unit-turned : {K : Type 0} (f : FieldOn K) (i j : ℕ) → unit_vector f i j ≡ unit_vector f j i
unit-turned f i j = ap (λ b. if b then f.unit else f.nought) (grind arith)

module _ {K : Type 0} (n : ℕ) where
  pub joined-front : (u v : ℕ → K) (j : ℕ) → j < n → joined n u v j ≡ u j
  joined-front u v j l = ap (λ b. if b then u j else v (j - n)) (lt-ltb j n l)

  pub joined-behind : (u v : ℕ → K) (j : ℕ) → joined n u v (n + j) ≡ v j
  joined-behind u v j =
      let past : n ≤ n + j = omega arith in
      let e : n + j - n ≡ j = omega arith in
      ap (λ b. if b then u (n + j) else v (n + j - n)) (le-ltb (n + j) n past) ∙ ap v e

  pub joined-past : (u v : ℕ → K) (j : ℕ) → n ≤ j → joined n u v j ≡ v (j - n)
  joined-past u v j l = ap (λ b. if b then u j else v (j - n)) (le-ltb j n l)

module _ {K : Type 0} (f : FieldOn K) (n : ℕ) (a : ℕ → ℕ → K) where
  combination-less : (u : ℕ → K) (c : K) (v : ℕ → K) (j : ℕ) → combination f n (less f u c v) a j ≡ f.plus (combination f n u a j) (f.neg (f.times c (combination f n v a j)))
  combination-less u c v j =
      let row : ℕ → K = λ i. a i j in
      dot-turned f n (less f u c v) row ∙ dot-less f n row u c v
      ∙ (λ z. f.plus (dot-turned f n row u z) (f.neg (f.times c (dot-turned f n row v z))))

  combination-same : (u v : ℕ → K) (j : ℕ) → ((i : ℕ) → i < n → u i ≡ v i) → combination f n u a j ≡ combination f n v a j
  combination-same u v j e = total-same f n _ _ (λ i l. ap (λ z. f.times z (a i j)) (e i l))

  -- v is the combination of the rows by its front, behind it
  abbrev IsJoined : (ℕ → K) → Type 0
  IsJoined v = (j : ℕ) → v (n + j) ≡ combination f n v a j

  joined-subspace : IsSubspace f IsJoined
  joined-subspace = record {
    has_nought = λ j. sym (vanish-subspace f n (λ i. a i j)).has_nought;
    has_plus = λ v w h k j.
        (λ z. f.plus (h j z) (k j z))
        ∙ sym (total-same f n _ _ (λ i l. plus-times f (v i) (w i) (a i j)) ∙ total-plus f n (λ i. f.times (v i) (a i j)) (λ i. f.times (w i) (a i j)));
    has_times = λ c v h j. ap (f.times c) (h j) ∙ sym (total-same f n _ _ (λ i l. f.times_assoc c (v i) (a i j)) ∙ total-times f n c (λ i. f.times (v i) (a i j)));
  }

  joined-row : (k : ℕ) → k < n → IsJoined (joined n (unit_vector f k) (a k))
  joined-row k l j =
      joined-behind n (unit_vector f k) (a k) j
      ∙ sym (combination-same (joined n (unit_vector f k) (a k)) (unit_vector f k) j (λ i m. joined-front n (unit_vector f k) (a k) i m)
      ∙ dot-turned f n (unit_vector f k) (λ i. a i j) ∙ dot-unit f n (λ i. a i j) k l)

  rows-joined : (k : ℕ) → k ≤ n → HasRows IsJoined (joined_rows f n a k)
  rows-joined zero l = tt
  rows-joined (suc k) l = (joined-row k (omega arith), rows-joined k (omega arith))

  -- a member of the span of the joined rows is a combination of the rows, with its coefficients in front
  pub member-joined : (v : ℕ → K) → IsInSpan f (joined_rows f n a n) v → (j : ℕ) → v (n + j) ≡ combination f n v a j
  member-joined = span-least f IsJoined joined-subspace (joined_rows f n a n) (rows-joined n (omega arith))

  part : (ℕ → K) → ℕ → ℕ → K
  part x k j = total f k (λ i. f.times (x i) (joined n (unit_vector f i) (a i) j))

  part-member : (x : ℕ → K) (k : ℕ) → IsInSpan f (joined_rows f n a k) (part x k)
  unfolding part
  part-member x zero = λ j. refl
  part-member x (suc k) =
      let b : ℕ → K = joined n (unit_vector f k) (a k) in
      let e : less f (part x (suc k)) (x k) b ≡ part x k =
      funext (λ j. f.plus_assoc (part x k j) (f.times (x k) (b j)) (f.neg (f.times (x k) (b j))) ∙ ap (f.plus (part x k j)) (f.plus-neg (f.times (x k) (b j))) ∙ f.plus-nought (part x k j)) in
      (x k, subst (IsInSpan f (joined_rows f n a k)) (sym e) (part-member x k))

  part-is : (x : ℕ → K) (j : ℕ) → part x n j ≡ joined n x (combination f n x a) j
  unfolding part
  part-is x j =
      elim (dec j n) [
        | inl l ↦
            total-same f n _ _ (λ i m. ap (f.times (x i)) (joined-front n (unit_vector f i) (a i) j l ∙ unit-turned f i j))
            ∙ dot-unit f n x j l ∙ sym (joined-front n x (combination f n x a) j l)
        | inr l ↦
            total-same f n _ _ (λ i m. ap (f.times (x i)) (joined-past n (unit_vector f i) (a i) j l))
            ∙ sym (joined-past n x (combination f n x a) j l)
      ]

  -- each combination of the rows, with its coefficients in front, is a member
  pub joined-member : (x : ℕ → K) → IsInSpan f (joined_rows f n a n) (joined n x (combination f n x a))
  joined-member x = subst (IsInSpan f (joined_rows f n a n)) (funext (part-is x)) (part-member x n)

  module _ (rs : List (ℕ × (ℕ → K))) (same : AreSame (IsInSpan f (row_vectors rs)) (IsInSpan f (joined_rows f n a n))) (t r : ℕ → K)
      (differs : IsInSpan f (row_vectors rs) (less f (joined n (λ _. f.nought) t) f.unit r)) where
    abbrev given : ℕ → K
    given = joined n (λ _. f.nought) t

    -- where nothing is left behind the front, the front with changed signs is a solution
    pub solution : ((j : ℕ) → r (n + j) ≡ f.nought) → (j : ℕ) → combination f n (λ i. f.neg (r i)) a j ≡ t j
    solution z j =
        let d : ℕ → K = less f given f.unit r in
        let front : (i : ℕ) → i < n → d i ≡ f.neg (r i) =
        λ i l. (λ y. f.plus (joined-front n (λ _. f.nought) t i l y) (f.neg (unit-times f (r i) y))) ∙ nought-plus f (f.neg (r i)) in
        let behind : d (n + j) ≡ t j =
        (λ y. f.plus (joined-behind n (λ _. f.nought) t j y) (f.neg (f.times f.unit (z j y)))) ∙ less-at-nought f (t j) f.unit in
        sym (combination-same d (λ i. f.neg (r i)) j front) ∙ sym (member-joined d ((same d).0 differs) j) ∙ behind

  -- independent rows have no second solution
  pub solution-only : AreIndependent f n a → (t x y : ℕ → K) → ((j : ℕ) → combination f n x a j ≡ t j) → ((j : ℕ) → combination f n y a j ≡ t j) → (i : ℕ) → i < n → y i ≡ x i
  solution-only ind t x y h k i l =
      less-same f (y i) (x i) (ind (less f y f.unit x) (λ j.
      combination-less y f.unit x j ∙ (λ z. f.plus (k j z) (f.neg (f.times f.unit (h j z)))) ∙ ap (λ z. f.plus (t j) (f.neg z)) (unit-times f (t j)) ∙ f.plus-neg (t j)) i l)

  -- each pivot of independent joined rows is behind the front
  PivotsFrom : List (ℕ × (ℕ → K)) → Type 0
  PivotsFrom [] = Unit {0}
  PivotsFrom (r ∷ rs) = (n ≤ r.0) × PivotsFrom rs

  pivots-behind : AreIndependent f n a → (rs : List (ℕ × (ℕ → K))) → IsReduced f rs → HasRows (IsInSpan f (joined_rows f n a n)) (row_vectors rs) → PivotsFrom rs
  unfolding PivotsFrom
  pivots-behind ind [] r h = tt
  pivots-behind ind (b ∷ rs) r h = (
    elim (dec b.0 n) [
      | inr l ↦ l
      | inl l ↦
          let z : (j : ℕ) → combination f n b.1 a j ≡ f.nought =
          λ j. sym (member-joined b.1 h.0 j) ∙ (let past : b.0 < n + j = omega arith in r.0.1 (n + j) past) in
          absurd (unit-not-nought f (sym r.0.0 ∙ ind b.1 z b.0 l))
    ],
    pivots-behind ind rs r.2 h.1,
  )

  clear-less : (u r : ℕ → K) (rs : List (ℕ × (ℕ → K))) → ((j : ℕ) → n ≤ j → u j ≡ f.nought) → PivotsFrom rs → IsClear f rs r → IsClear f rs (less f r f.unit u)
  unfolding PivotsFrom
  clear-less u r [] z p c = tt
  clear-less u r (b ∷ rs) z p c = (less-at f r f.unit u b.0 (z b.0 p.0) ∙ c.0, clear-less u r rs z p.1 c.1)

  -- r - (T - w) = w - (T - r)
  turn : (x y w : K) → f.plus x (f.neg (f.times f.unit (f.plus y (f.neg (f.times f.unit w))))) ≡ f.plus w (f.neg (f.times f.unit (f.plus y (f.neg (f.times f.unit x)))))
  turn x y w =
      let side : (p q : K) → f.plus p (f.neg (f.times f.unit (f.plus y (f.neg (f.times f.unit q))))) ≡ f.plus (f.plus p q) (f.neg y) =
      λ p q.
      ap (λ z. f.plus p (f.neg z)) (unit-times f (f.plus y (f.neg (f.times f.unit q))))
      ∙ ap (λ z. f.plus p (f.neg (f.plus y (f.neg z)))) (unit-times f q)
      ∙ ap (f.plus p) (sym (neg-plus-neg f y (f.neg q)) ∙ ap (f.plus (f.neg y)) (neg-neg f q) ∙ f.plus_comm (f.neg y) q)
      ∙ sym (f.plus_assoc p q (f.neg y)) in
      side x w ∙ ap (λ z. f.plus z (f.neg y)) (f.plus_comm x w) ∙ sym (side w x)

  -- where there is a solution, nothing is left behind the front
  pub no-solution : AreIndependent f n a → (rs : List (ℕ × (ℕ → K))) → IsReduced f rs → AreSame (IsInSpan f (row_vectors rs)) (IsInSpan f (joined_rows f n a n)) → (t r : ℕ → K) →
      IsInSpan f (row_vectors rs) (less f (joined n (λ _. f.nought) t) f.unit r) → IsClear f rs r →
      (y : ℕ → K) → ((j : ℕ) → combination f n y a j ≡ t j) → (j : ℕ) → r (n + j) ≡ f.nought
  no-solution ind rs red same t r differs clear y h j =
      let T : ℕ → K = joined n (λ _. f.nought) t in
      let w : ℕ → K = joined n y (combination f n y a) in
      let d : ℕ → K = less f T f.unit r in
      let u : ℕ → K = less f T f.unit w in
      let in_w : IsInSpan f (row_vectors rs) w = (same w).1 (joined-member y) in
      let back : (k : ℕ) → n ≤ k → u k ≡ f.nought =
      λ k l.
      (λ z. f.plus (joined-past n (λ _. f.nought) t k l z) (f.neg (f.times f.unit ((joined-past n y (combination f n y a) k l ∙ h (k - n)) z))))
      ∙ ap (λ z. f.plus (t (k - n)) (f.neg z)) (unit-times f (t (k - n))) ∙ f.plus-neg (t (k - n)) in
      let member : IsInSpan f (row_vectors rs) (less f r f.unit u) =
      subst (IsInSpan f (row_vectors rs)) (sym (funext (λ k. turn (r k) (T k) (w k)))) (has_less f (IsInSpan f (row_vectors rs)) (span-subspace f (row_vectors rs)) w f.unit d in_w differs) in
      let pivots : PivotsFrom rs = pivots-behind ind rs red (rows-mono f (IsInSpan f (row_vectors rs)) (IsInSpan f (joined_rows f n a n)) (λ v m. (same v).0 m) (row_vectors rs) (span-rows f (row_vectors rs))) in
      let none : less f r f.unit u (n + j) ≡ f.nought = clear-nought f rs (less f r f.unit u) red member (clear-less u r rs back pivots clear) (n + j) in
      less-same f (r (n + j)) (u (n + j)) none ∙ back (n + j) (omega arith)
