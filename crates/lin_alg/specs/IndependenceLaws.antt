-- Independent rows: each is outside the span of those before it.
--
-- independent-more: a row outside the span of independent rows leaves them independent
-- member-dependent: a row in the span of those before it makes them dependent
-- independent-first: the first of independent rows are independent
use Rattle.std.proofs.Common.{◌≡◌, ℕ, suc, zero, ◌<◌, ◌≤◌, inl, inr, true, false, refl, sym, ◌∙◌, ap, subst, arith, ltb, lt-ltb, le-ltb, nat_eq, if◌then◌else◌}
use Rattle.cyclo24.specs.FieldOn.{FieldOn}
use Rattle.cyclo24.specs.FieldLaws.{nought-times, neg-neg, times-neg, unit-times, neg-plus, neg-unique, neg-nought}
use Rattle.cyclo24.specs.Sums.{total}
use Rattle.cyclo24.specs.TotalLaws.{total-same}
use Rattle.lin_alg.specs.Spans.{less, IsInSpan}
use Rattle.lin_alg.specs.SpanLaws.{funext, unit-not-nought}
use Rattle.lin_alg.specs.InsertLaws.{span-subspace}
use Rattle.lin_alg.specs.EquationLaws.{eq-self, eq-other, dec}
use Rattle.lin_alg.specs.UnionLaws.{lower}
use Rattle.lin_alg.specs.Solving.{combination, AreIndependent, plain_rows}

module _ {K : Type 0} (f : FieldOn K) (a : ℕ → ℕ → K) where
  combination-member : (x : ℕ → K) (k : ℕ) → IsInSpan f (plain_rows a k) (combination f k x a)
  combination-member x zero = λ j. refl
  combination-member x (suc k) =
      let v : ℕ → K = combination f k x a in
      let e : less f (combination f (suc k) x a) (x k) (a k) ≡ v =
      funext (λ j. f.plus_assoc (v j) (f.times (x k) (a k j)) (f.neg (f.times (x k) (a k j))) ∙ ap (f.plus (v j)) (f.plus-neg (f.times (x k) (a k j))) ∙ f.plus-nought (v j)) in
      (x k, subst (IsInSpan f (plain_rows a k)) (sym e) (combination-member x k))

  with : ℕ → K → (ℕ → K) → ℕ → K
  with k c x i = if nat_eq i k then c else x i

  with-own : (k : ℕ) (c : K) (x : ℕ → K) → with k c x k ≡ c
  unfolding with
  with-own k c x = ap (λ b. if b then c else x k) (eq-self k)

  with-other : (k : ℕ) (c : K) (x : ℕ → K) (i : ℕ) → i < k → with k c x i ≡ x i
  unfolding with
  with-other k c x i l =
      let n : i ≡ k → ⊥ = λ e. absurd (omega (arith, e, l)) in
      ap (λ b. if b then c else x i) (eq-other i k n)

  -- one more row with its coefficient
  combination-more : (k : ℕ) (c : K) (x : ℕ → K) (j : ℕ) → combination f (suc k) (with k c x) a j ≡ f.plus (combination f k x a j) (f.times c (a k j))
  combination-more k c x j =
      (λ z. f.plus (total-same f k (λ i. f.times (with k c x i) (a i j)) (λ i. f.times (x i) (a i j)) (λ i l. ap (λ y. f.times y (a i j)) (with-other k c x i l)) z) (f.times (with-own k c x z) (a k j)))

  member-combination : (k : ℕ) (v : ℕ → K) → IsInSpan f (plain_rows a k) v → (x : ℕ → K) × ((j : ℕ) → combination f k x a j ≡ v j)
  member-combination zero v h = ((λ _. f.nought), λ j. sym (h j))
  member-combination (suc k) v h =
      let rest = member-combination k (less f v h.0 (a k)) h.1 in (
        with k h.0 rest.0,
        λ j. combination-more k h.0 rest.0 j ∙ ap (λ z. f.plus z (f.times h.0 (a k j))) (rest.1 j)
            ∙ f.plus_assoc (v j) (f.neg (f.times h.0 (a k j))) (f.times h.0 (a k j)) ∙ ap (f.plus (v j)) (neg-plus f (f.times h.0 (a k j))) ∙ f.plus-nought (v j),
      )

  pub independent-none : AreIndependent f 0 a
  independent-none x h i l = absurd (omega (arith, l))

  -- a row outside the span of independent rows leaves them independent
  pub independent-more : (n : ℕ) → AreIndependent f n a → (IsInSpan f (plain_rows a n) (a n) → ⊥) → AreIndependent f (suc n) a
  independent-more n ind out x h =
      let c : K = x n in
      let v : ℕ → K = combination f n x a in
      (elim (f.is_nought c) as (λ b. (f.is_nought c ≡ b) → (i : ℕ) → i < suc n → x i ≡ f.nought) [
        | true ↦ λ z i l.
            let none : c ≡ f.nought = f.is_nought-true c z in
            let first : (j : ℕ) → v j ≡ f.nought =
            λ j. sym (f.plus-nought (v j)) ∙ ap (f.plus (v j)) (sym (ap (λ y. f.times y (a n j)) none ∙ nought-times f (a n j))) ∙ h j in
            elim (lower i n l) [ inl m ↦ ind x first i m | inr e ↦ ap x e ∙ none ]
        | false ↦ λ z.
            let d : K = f.inverse c in
            let at : (j : ℕ) → f.times (f.neg d) (v j) ≡ a n j =
            λ j. ap (f.times (f.neg d)) (neg-unique f (v j) (f.times c (a n j)) (h j))
            ∙ times-neg f (f.neg d) (f.times c (a n j)) ∙ ap f.neg (f.times_comm (f.neg d) (f.times c (a n j)) ∙ times-neg f (f.times c (a n j)) d)
            ∙ neg-neg f (f.times (f.times c (a n j)) d)
            ∙ f.times_comm (f.times c (a n j)) d ∙ sym (f.times_assoc d c (a n j)) ∙ ap (λ y. f.times y (a n j)) (f.times_comm d c ∙ f.times-inverse c z) ∙ unit-times f (a n j) in
            absurd (out (subst (IsInSpan f (plain_rows a n)) (funext at) ((span-subspace f (plain_rows a n)).has_times (f.neg d) v (combination-member x n))))
      ]) refl

  -- a row in the span of those before it makes them dependent
  pub member-dependent : (n : ℕ) → IsInSpan f (plain_rows a n) (a n) → AreIndependent f (suc n) a → ⊥
  member-dependent n h ind =
      let k = member-combination n (a n) h in
      let own : n < suc n = omega arith in
      let zero_at : f.neg f.unit ≡ f.nought =
      sym (with-own n (f.neg f.unit) k.0) ∙ ind (with n (f.neg f.unit) k.0) (λ j.
      combination-more n (f.neg f.unit) k.0 j
      ∙ (λ z. f.plus (k.1 j z) ((f.times_comm (f.neg f.unit) (a n j) ∙ times-neg f (a n j) f.unit ∙ ap f.neg (f.times-unit (a n j))) z)) ∙ f.plus-neg (a n j)) n own in
      unit-not-nought f (sym (neg-neg f f.unit) ∙ ap f.neg zero_at ∙ neg-nought f)

  total-first : (k m : ℕ) (g : ℕ → K) → k ≤ m → ((i : ℕ) → k ≤ i → g i ≡ f.nought) → total f m g ≡ total f k g
  total-first k zero g l z = let e : k ≡ 0 = omega (arith, l) in ap (λ n. total f n g) (sym e)
  total-first k (suc m) g l z =
      elim (dec m k) [
        | inl b ↦ let e : k ≡ suc m = omega (arith, b, l) in ap (λ n. total f n g) (sym e)
        | inr b ↦ ap (f.plus (total f m g)) (z m b) ∙ f.plus-nought (total f m g) ∙ total-first k m g b z
      ]

  -- the first of independent rows are independent
  pub independent-first : (k n : ℕ) → k ≤ n → AreIndependent f n a → AreIndependent f k a
  independent-first k n l ind x h i m =
      let y : ℕ → K = λ c. if ltb c k then x c else f.nought in
      let front : (c : ℕ) → c < k → y c ≡ x c = λ c b. ap (λ t. if t then x c else f.nought) (lt-ltb c k b) in
      let back : (c : ℕ) → k ≤ c → y c ≡ f.nought = λ c b. ap (λ t. if t then x c else f.nought) (le-ltb c k b) in
      let none : (j : ℕ) → combination f n y a j ≡ f.nought =
      λ j. total-first k n (λ c. f.times (y c) (a c j)) l (λ c b. ap (λ z. f.times z (a c j)) (back c b) ∙ nought-times f (a c j))
      ∙ total-same f k (λ c. f.times (y c) (a c j)) (λ c. f.times (x c) (a c j)) (λ c b. ap (λ z. f.times z (a c j)) (front c b)) ∙ h j in
      let below : i < n = omega (arith, m, l) in
      sym (front i m) ∙ ind y none i below
