-- What the steps of an insertion do to spans and reduced forms.
--
-- span-subspace, span-least: the span is the least subspace with the rows
-- reduce-..: what is left of a row, 0 in each pivot column, differs from it by a member
-- inserted-reduced: the form stays reduced; inserted-within, inserted-has: its span is that with the row
use Rattle.std.proofs.Common.{◌≡◌, ℕ, ◌<◌, ◌≤◌, inl, inr, true, false, refl, sym, ◌∙◌, ap, subst, List, [], ◌∷◌, arith, ltb, if◌then◌else◌}
use Rattle.std.proofs.lemmas.Bool.{ltb-true, ltb-false}
use Rattle.cyclo24.specs.FieldOn.{FieldOn}
use Rattle.lin_alg.specs.Spans.{row_vectors, less, IsInSpan, IsSubspace, HasRows}
use Rattle.lin_alg.specs.Reduced.{EndsAt, ArePast, IsReduced, IsClear, reduce, scaled, cleared, placed, inserted}
use Rattle.cyclo24.specs.FieldLaws.{less-nought, less-own, less-self, less-back, times-nought, times-neg, unit-times}
use Rattle.lin_alg.specs.SpanLaws.{funext, less-at, in_span-nought, in_span-plus, in_span-times, in_span-past, in_span-head, in_span-less, order, unit-not-nought}

module _ {K : Type 0} (f : FieldOn K) where
  pub span-subspace : (rs : List (ℕ → K)) → IsSubspace f (IsInSpan f rs)
  span-subspace rs = record { has_nought = in_span-nought f rs; has_plus = in_span-plus f rs; has_times = in_span-times f rs }

  pub has_neg : (P : (ℕ → K) → Type 0) → IsSubspace f P → (v : ℕ → K) → P v → P (λ j. f.neg (v j))
  has_neg P s v h =
      let e : (λ (j : ℕ). f.times (f.neg f.unit) (v j)) ≡ (λ (j : ℕ). f.neg (v j)) =
      funext (λ j. f.times_comm (f.neg f.unit) (v j) ∙ times-neg f (v j) f.unit ∙ ap f.neg (f.times-unit (v j))) in
      subst P e (s.has_times (f.neg f.unit) v h)

  pub has_less : (P : (ℕ → K) → Type 0) → IsSubspace f P → (v : ℕ → K) (c : K) (b : ℕ → K) → P v → P b → P (less f v c b)
  has_less P s v c b h k = s.has_plus v (λ j. f.neg (f.times c (b j))) h (has_neg P s _ (s.has_times c b k))

  pub has_back : (P : (ℕ → K) → Type 0) → IsSubspace f P → (v : ℕ → K) (c : K) (b : ℕ → K) → P (less f v c b) → P b → P v
  has_back P s v c b h k =
      let e : (λ (j : ℕ). f.plus (less f v c b j) (f.times c (b j))) ≡ v = funext (λ j. less-back f (v j) c (b j)) in
      subst P e (s.has_plus (less f v c b) (λ j. f.times c (b j)) h (s.has_times c b k))

  -- the span is the least subspace that has the rows
  pub span-least : (P : (ℕ → K) → Type 0) → IsSubspace f P → (rs : List (ℕ → K)) → HasRows P rs → (v : ℕ → K) → IsInSpan f rs v → P v
  span-least P s [] a v h = subst P (sym (funext h)) s.has_nought
  span-least P s (r ∷ rs) a v h = has_back P s v h.0 r (span-least P s rs a.1 _ h.1) a.0

  pub rows-mono : (P Q : (ℕ → K) → Type 0) → ((v : ℕ → K) → P v → Q v) → (rs : List (ℕ → K)) → HasRows P rs → HasRows Q rs
  rows-mono P Q t [] a = tt
  rows-mono P Q t (r ∷ rs) a = (t r a.0, rows-mono P Q t rs a.1)

  pub span-rows : (rs : List (ℕ → K)) → HasRows (IsInSpan f rs) rs
  span-rows [] = tt
  span-rows (r ∷ rs) = (in_span-head f r rs, rows-mono (IsInSpan f rs) (IsInSpan f (r ∷ rs)) (in_span-past f r rs) rs (span-rows rs))

  -- step 1 stays in each subspace that has the rows, and comes back
  pub reduce-has : (P : (ℕ → K) → Type 0) → IsSubspace f P → (rs : List (ℕ × (ℕ → K))) → HasRows P (row_vectors rs) → (v : ℕ → K) → P v → P (reduce f rs v)
  reduce-has P s [] a v h = h
  reduce-has P s (r ∷ rs) a v h = reduce-has P s rs a.1 _ (has_less P s v (v r.0) r.1 h a.0)

  pub reduce-back : (P : (ℕ → K) → Type 0) → IsSubspace f P → (rs : List (ℕ × (ℕ → K))) → HasRows P (row_vectors rs) → (v : ℕ → K) → P (reduce f rs v) → P v
  reduce-back P s [] a v h = h
  reduce-back P s (r ∷ rs) a v h = has_back P s v (v r.0) r.1 (reduce-back P s rs a.1 _ h) a.0

  pub reduce-at : (p : ℕ) (rs : List (ℕ × (ℕ → K))) (v : ℕ → K) → ArePast f p rs → reduce f rs v p ≡ v p
  reduce-at p [] v a = refl
  reduce-at p (r ∷ rs) v a = reduce-at p rs _ a.2 ∙ less-at f v (v r.0) r.1 p a.1

  -- after step 1 the row is 0 at each pivot
  pub reduce-clear : (rs : List (ℕ × (ℕ → K))) (v : ℕ → K) → IsReduced f rs → IsClear f rs (reduce f rs v)
  reduce-clear [] v r = tt
  reduce-clear (b ∷ rs) v r =
      let own : less f v (v b.0) b.1 b.0 ≡ f.nought = ap (λ x. f.plus (v b.0) (f.neg (f.times (v b.0) x))) r.0.0 ∙ less-own f (v b.0) in
      (reduce-at b.0 rs _ r.1 ∙ own, reduce-clear rs _ r.2)

  -- a row is in the span exactly where step 1 leaves nothing
  pub reduce-member : (rs : List (ℕ × (ℕ → K))) (v : ℕ → K) → IsReduced f rs → IsInSpan f (row_vectors rs) v → (j : ℕ) → reduce f rs v j ≡ f.nought
  reduce-member [] v r h = h
  reduce-member (b ∷ rs) v r h = reduce-member rs _ r.2 (in_span-less f b rs v r.0 r.1 h)

  pub member-reduce : (rs : List (ℕ × (ℕ → K))) (v : ℕ → K) → ((j : ℕ) → reduce f rs v j ≡ f.nought) → IsInSpan f (row_vectors rs) v
  member-reduce rs v z =
      reduce-back (IsInSpan f (row_vectors rs)) (span-subspace (row_vectors rs)) rs (span-rows (row_vectors rs)) v (subst (IsInSpan f (row_vectors rs)) (sym (funext z)) (in_span-nought f (row_vectors rs)))

  -- step 1 takes a member of the span away
  pub reduce-differs : (rs : List (ℕ × (ℕ → K))) (v : ℕ → K) → IsInSpan f (row_vectors rs) (less f v f.unit (reduce f rs v))
  reduce-differs [] v = λ j. less-self f (v j)
  reduce-differs (r ∷ rs) v =
      let c : K = v r.0 in
      let w : ℕ → K = reduce f rs (less f v c r.1) in
      let swap : (x a b : K) → f.plus (f.plus x a) b ≡ f.plus (f.plus x b) a =
      λ x a b. f.plus_assoc x a b ∙ ap (f.plus x) (f.plus_comm a b) ∙ sym (f.plus_assoc x b a) in
      let e : less f (less f v c r.1) f.unit w ≡ less f (less f v f.unit w) c r.1 =
      funext (λ j. swap (v j) (f.neg (f.times c (r.1 j))) (f.neg (f.times f.unit (w j)))) in
      (c, subst (IsInSpan f (row_vectors rs)) e (reduce-differs rs (less f v c r.1)))

  -- steps 4 and 5 keep a reduced form
  pub cleared-past : (q p : ℕ) (u : ℕ → K) (rs : List (ℕ × (ℕ → K))) → u q ≡ f.nought → ArePast f q rs → ArePast f q (cleared f p u rs)
  cleared-past q p u [] z a = tt
  cleared-past q p u (r ∷ rs) z a = (a.0, less-at f r.1 (r.1 p) u q z ∙ a.1, cleared-past q p u rs z a.2)

  pub placed-past : (q p : ℕ) (u : ℕ → K) (rs : List (ℕ × (ℕ → K))) → q < p → u q ≡ f.nought → ArePast f q rs → ArePast f q (placed p u rs)
  placed-past q p u [] l z a = (l, z, tt)
  placed-past q p u (r ∷ rs) l z a =
      elim (ltb p r.0) as (λ b. ArePast f q (if b then (p, u) ∷ r ∷ rs else r ∷ placed p u rs)) [
        | true ↦ (l, z, a)
        | false ↦ (a.0, a.1, placed-past q p u rs l z a.2)
      ]

  -- u is 0 at the pivot of each row, and the row where u isn't past it is 0 at p
  pub cleared-ends : (p q : ℕ) (u b : ℕ → K) → EndsAt f p u → EndsAt f q b → u q ≡ f.nought → (q ≡ p → ⊥) → EndsAt f q (less f b (b p) u)
  cleared-ends p q u b e d z n = (
    less-at f b (b p) u q z ∙ d.0,
    λ j past. elim (order p q) [
      | inl l ↦ let k : p < j = omega arith in less-at f b (b p) u j (e.1 j k) ∙ d.1 j past
      | inr (inl s) ↦ absurd (n (sym s))
      | inr (inr l) ↦ ap (λ x. less f b x u j) (d.1 p l) ∙ less-nought f (b j) (u j) ∙ d.1 j past
    ],
  )

  pub all-past : (p : ℕ) (u : ℕ → K) (rs : List (ℕ × (ℕ → K))) → EndsAt f p u → (q : ℕ) → p < q → ArePast f q rs → ArePast f p (cleared f p u rs)
  all-past p u [] e q l a = tt
  all-past p u (r ∷ rs) e q l a =
      let lt : q < r.0 = a.0 in
      (omega arith, ap (λ x. f.plus (r.1 p) (f.neg (f.times (r.1 p) x))) e.0 ∙ less-own f (r.1 p), all-past p u rs e q l a.2)

  pub cleared-reduced : (p : ℕ) (u : ℕ → K) (rs : List (ℕ × (ℕ → K))) → EndsAt f p u → IsReduced f rs → IsClear f rs u →
      IsReduced f (cleared f p u rs)
  cleared-reduced p u [] e r z = tt
  cleared-reduced p u (b ∷ rs) e r z =
      let n : b.0 ≡ p → ⊥ = λ s. unit-not-nought f (sym e.0 ∙ ap u (sym s) ∙ z.0) in
      (cleared-ends p b.0 u b.1 e r.0 z.0 n, cleared-past b.0 p u rs z.0 r.1, cleared-reduced p u rs e r.2 z.1)

  pub placed-reduced : (p : ℕ) (u : ℕ → K) (rs : List (ℕ × (ℕ → K))) → EndsAt f p u → IsReduced f rs → IsClear f rs u →
      IsReduced f (placed p u (cleared f p u rs))
  placed-reduced p u [] e r z = (e, tt, tt)
  placed-reduced p u (b ∷ rs) e r z =
      let n : b.0 ≡ p → ⊥ = λ s. unit-not-nought f (sym e.0 ∙ ap u (sym s) ∙ z.0) in
      let ends : EndsAt f b.0 (less f b.1 (b.1 p) u) = cleared-ends p b.0 u b.1 e r.0 z.0 n in
      let past : ArePast f b.0 (cleared f p u rs) = cleared-past b.0 p u rs z.0 r.1 in
      let low : ltb p b.0 ≡ true → IsReduced f ((p, u) ∷ cleared f p u (b ∷ rs)) =
      λ h. let l : p < b.0 = ltb-true p b.0 h in (
        e,
        (l, ap (λ x. f.plus (b.1 p) (f.neg (f.times (b.1 p) x))) e.0 ∙ less-own f (b.1 p), all-past p u rs e b.0 l r.1),
        cleared-reduced p u (b ∷ rs) e r z,
      ) in
      let high : ltb p b.0 ≡ false → IsReduced f ((b.0, less f b.1 (b.1 p) u) ∷ placed p u (cleared f p u rs)) =
      λ h. let l : b.0 ≤ p = ltb-false p b.0 h in
      let l' : b.0 < p = elim (order b.0 p) [ inl k ↦ k | inr (inl s) ↦ absurd (n s) | inr (inr k) ↦ omega arith ] in
      (ends, placed-past b.0 p u (cleared f p u rs) l' z.0 past, placed-reduced p u rs e r.2 z.1) in
      (elim (ltb p b.0) as (λ t. (ltb p b.0 ≡ t) → IsReduced f (if t then (p, u) ∷ cleared f p u (b ∷ rs) else (b.0, less f b.1 (b.1 p) u) ∷ placed p u (cleared f p u rs))) [
        | true ↦ low
        | false ↦ high
      ]) refl

  -- the new row, where step 1 leaves a row that ends at p
  pub scaled-ends : (p : ℕ) (v : ℕ → K) → f.is_nought (v p) ≡ false → ((j : ℕ) → p < j → v j ≡ f.nought) → EndsAt f p (scaled f p v)
  scaled-ends p v n z = (
    f.times_comm (f.inverse (v p)) (v p) ∙ f.times-inverse (v p) n,
    λ j past. ap (f.times (f.inverse (v p))) (z j past) ∙ times-nought f (f.inverse (v p)),
  )

  pub times-clear : (c : K) (v : ℕ → K) (rs : List (ℕ × (ℕ → K))) → IsClear f rs v → IsClear f rs (λ j. f.times c (v j))
  times-clear c v [] z = tt
  times-clear c v (r ∷ rs) z = (ap (f.times c) z.0 ∙ times-nought f c, times-clear c v rs z.1)

  pub inserted-reduced : (rs : List (ℕ × (ℕ → K))) (v : ℕ → K) (p : ℕ) → IsReduced f rs →
      f.is_nought (reduce f rs v p) ≡ false → ((j : ℕ) → p < j → reduce f rs v j ≡ f.nought) → IsReduced f (inserted f rs v p)
  inserted-reduced rs v p r n z =
      placed-reduced p (scaled f p (reduce f rs v)) rs (scaled-ends p (reduce f rs v) n z) r
      (times-clear (f.inverse (reduce f rs v p)) (reduce f rs v) rs (reduce-clear rs v r))

  -- the span of the new form
  pub placed-rows : (P : (ℕ → K) → Type 0) (p : ℕ) (u : ℕ → K) (rs : List (ℕ × (ℕ → K))) → P u → HasRows P (row_vectors rs) → HasRows P (row_vectors (placed p u rs))
  placed-rows P p u [] h a = (h, tt)
  placed-rows P p u (r ∷ rs) h a =
      elim (ltb p r.0) as (λ b. HasRows P (row_vectors (if b then (p, u) ∷ r ∷ rs else r ∷ placed p u rs))) [
        | true ↦ (h, a)
        | false ↦ (a.0, placed-rows P p u rs h a.1)
      ]

  pub rows-placed : (P : (ℕ → K) → Type 0) (p : ℕ) (u : ℕ → K) (rs : List (ℕ × (ℕ → K))) → HasRows P (row_vectors (placed p u rs)) → P u × HasRows P (row_vectors rs)
  rows-placed P p u [] a = (a.0, tt)
  rows-placed P p u (r ∷ rs) a =
      (elim (ltb p r.0) as (λ b. HasRows P (row_vectors (if b then (p, u) ∷ r ∷ rs else r ∷ placed p u rs)) → P u × HasRows P (row_vectors (r ∷ rs))) [
        | true ↦ λ h. (h.0, h.1)
        | false ↦ λ h. let k : P u × HasRows P (row_vectors rs) = rows-placed P p u rs h.1 in (k.0, (h.0, k.1))
      ]) a

  pub cleared-rows : (P : (ℕ → K) → Type 0) → IsSubspace f P → (p : ℕ) (u : ℕ → K) (rs : List (ℕ × (ℕ → K))) → P u → HasRows P (row_vectors rs) → HasRows P (row_vectors (cleared f p u rs))
  cleared-rows P s p u [] h a = tt
  cleared-rows P s p u (r ∷ rs) h a = (has_less P s r.1 (r.1 p) u a.0 h, cleared-rows P s p u rs h a.1)

  pub rows-cleared : (P : (ℕ → K) → Type 0) → IsSubspace f P → (p : ℕ) (u : ℕ → K) (rs : List (ℕ × (ℕ → K))) → P u → HasRows P (row_vectors (cleared f p u rs)) → HasRows P (row_vectors rs)
  rows-cleared P s p u [] h a = tt
  rows-cleared P s p u (r ∷ rs) h a = (has_back P s r.1 (r.1 p) u a.0 h, rows-cleared P s p u rs h a.1)

  pub inserted-within : (rs : List (ℕ × (ℕ → K))) (v : ℕ → K) (p : ℕ) (w : ℕ → K) → IsInSpan f (row_vectors (inserted f rs v p)) w → IsInSpan f (v ∷ row_vectors rs) w
  inserted-within rs v p =
      let all : List (ℕ → K) = v ∷ row_vectors rs in
      let P : (ℕ → K) → Type 0 = IsInSpan f all in
      let s : IsSubspace f P = span-subspace all in
      let rows : HasRows P all = span-rows all in
      let u : P (scaled f p (reduce f rs v)) = s.has_times (f.inverse (reduce f rs v p)) (reduce f rs v) (reduce-has P s rs rows.1 v rows.0) in
      span-least P s (row_vectors (inserted f rs v p)) (placed-rows P p _ (cleared f p (scaled f p (reduce f rs v)) rs) u (cleared-rows P s p _ rs u rows.1))

  pub inserted-has : (rs : List (ℕ × (ℕ → K))) (v : ℕ → K) (p : ℕ) → f.is_nought (reduce f rs v p) ≡ false →
      (w : ℕ → K) → IsInSpan f (v ∷ row_vectors rs) w → IsInSpan f (row_vectors (inserted f rs v p)) w
  inserted-has rs v p n =
      let P : (ℕ → K) → Type 0 = IsInSpan f (row_vectors (inserted f rs v p)) in
      let s : IsSubspace f P = span-subspace (row_vectors (inserted f rs v p)) in
      let x : K = reduce f rs v p in
      let k : P (scaled f p (reduce f rs v)) × HasRows P (row_vectors (cleared f p (scaled f p (reduce f rs v)) rs)) =
      rows-placed P p _ (cleared f p (scaled f p (reduce f rs v)) rs) (span-rows (row_vectors (inserted f rs v p))) in
      let old : HasRows P (row_vectors rs) = rows-cleared P s p _ rs k.0 k.1 in
      let e : (λ (j : ℕ). f.times x (scaled f p (reduce f rs v) j)) ≡ reduce f rs v =
      funext (λ j. sym (f.times_assoc x (f.inverse x) (reduce f rs v j)) ∙ ap (λ y. f.times y (reduce f rs v j)) (f.times-inverse x n) ∙ unit-times f (reduce f rs v j)) in
      let red : P (reduce f rs v) = subst P e (s.has_times x _ k.0) in
      span-least P s (v ∷ row_vectors rs) (reduce-back P s rs old v red, old)
