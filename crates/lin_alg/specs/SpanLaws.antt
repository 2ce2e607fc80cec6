-- What spans and reduced forms obey.
--
-- in_span-..: members of a span
-- clear-nought: a member that is 0 in each pivot column is 0
-- last-pivot: the last nonzero column of a member is a pivot
-- reduced-unique: two reduced forms of one span are equal
use Rattle.std.proofs.Common.{◌≡◌, ℕ, ◌<◌, ◌≤◌, ◌⊎◌, inl, inr, true, false, refl, sym, ◌∙◌, ap, subst, List, [], ◌∷◌, arith}
use Rattle.cyclo24.specs.FieldOn.{FieldOn}
use Rattle.lin_alg.specs.Spans.{row_vectors, less, IsInSpan}
use Rattle.lin_alg.specs.Reduced.{EndsAt, ArePast, IsReduced, IsClear, IsPivot}
use Rattle.cyclo24.specs.FieldLaws.{less-nought, less-at-nought, less-coefficient, less-same, less-self, less-plus, less-times, times-nought}

pub funext : {A B : Type 0} {f g : A → B} → ((x : A) → f x ≡ g x) → f ≡ g
funext h = λ i. λ x. h x i

pub order : (a b : ℕ) → (a < b) ⊎ ((a ≡ b) ⊎ (b < a))
order a b = grind arith

module _ {K : Type 0} (f : FieldOn K) where
  -- taking away a multiple of a row changes nothing where the row is 0
  pub less-at : (v : ℕ → K) (c : K) (b : ℕ → K) (j : ℕ) → b j ≡ f.nought → less f v c b j ≡ v j
  less-at v c b j e = ap (λ x. f.plus (v j) (f.neg (f.times c x))) e ∙ less-at-nought f (v j) c

  -- c is determined where the row is 1 and the rest is 0
  pub in_span-nought : (rs : List (ℕ → K)) → IsInSpan f rs (λ _. f.nought)
  in_span-nought [] = λ j. refl
  in_span-nought (r ∷ rs) =
      let e : less f (λ _. f.nought) f.nought r ≡ (λ _. f.nought) = funext (λ j. less-nought f f.nought (r j)) in
      (f.nought, subst (IsInSpan f rs) (sym e) (in_span-nought rs))

  pub in_span-plus : (rs : List (ℕ → K)) (v w : ℕ → K) → IsInSpan f rs v → IsInSpan f rs w → IsInSpan f rs (λ j. f.plus (v j) (w j))
  in_span-plus [] v w h k = λ j. rw (h j, k j) (f.plus-nought f.nought)
  in_span-plus (r ∷ rs) v w h k =
      let e : less f (λ j. f.plus (v j) (w j)) (f.plus h.0 k.0) r ≡ (λ j. f.plus (less f v h.0 r j) (less f w k.0 r j)) =
      funext (λ j. less-plus f (v j) (w j) h.0 k.0 (r j)) in
      (f.plus h.0 k.0, subst (IsInSpan f rs) (sym e) (in_span-plus rs _ _ h.1 k.1))

  pub in_span-times : (rs : List (ℕ → K)) (c : K) (v : ℕ → K) → IsInSpan f rs v → IsInSpan f rs (λ j. f.times c (v j))
  in_span-times [] c v h = λ j. rw (h j) (times-nought f c)
  in_span-times (r ∷ rs) c v h =
      let e : less f (λ j. f.times c (v j)) (f.times c h.0) r ≡ (λ j. f.times c (less f v h.0 r j)) =
      funext (λ j. less-times f c (v j) h.0 (r j)) in
      (f.times c h.0, subst (IsInSpan f rs) (sym e) (in_span-times rs c _ h.1))

  pub in_span-past : (r : ℕ → K) (rs : List (ℕ → K)) (v : ℕ → K) → IsInSpan f rs v → IsInSpan f (r ∷ rs) v
  in_span-past r rs v h =
      let e : less f v f.nought r ≡ v = funext (λ j. less-nought f (v j) (r j)) in
      (f.nought, subst (IsInSpan f rs) (sym e) h)

  pub in_span-head : (r : ℕ → K) (rs : List (ℕ → K)) → IsInSpan f (r ∷ rs) r
  in_span-head r rs =
      let e : less f r f.unit r ≡ (λ _. f.nought) = funext (λ j. less-self f (r j)) in
      (f.unit, subst (IsInSpan f rs) (sym e) (in_span-nought rs))

  -- a member of rows that are 0 at p is 0 at p
  pub in_span-at : (p : ℕ) (rs : List (ℕ × (ℕ → K))) (v : ℕ → K) → ArePast f p rs → IsInSpan f (row_vectors rs) v → v p ≡ f.nought
  in_span-at p [] v a h = h p
  in_span-at p (r ∷ rs) v a h =
      let e : less f v h.0 r.1 p ≡ f.nought = in_span-at p rs _ a.2 h.1 in
      let d : less f v h.0 r.1 p ≡ v p = less-at v h.0 r.1 p a.1 in
      sym d ∙ e

  -- the multiple of the first row is the entry at its pivot
  pub in_span-coefficient : (r : ℕ × (ℕ → K)) (rs : List (ℕ × (ℕ → K))) (v : ℕ → K) → EndsAt f r.0 r.1 → ArePast f r.0 rs →
      (h : IsInSpan f (row_vectors (r ∷ rs)) v) → h.0 ≡ v r.0
  in_span-coefficient r rs v e a h =
      let z : less f v h.0 r.1 r.0 ≡ f.nought = in_span-at r.0 rs _ a h.1 in
      less-coefficient f (v r.0) h.0 (ap (λ x. f.plus (v r.0) (f.neg (f.times h.0 x))) (sym e.0) ∙ z)

  pub in_span-less : (r : ℕ × (ℕ → K)) (rs : List (ℕ × (ℕ → K))) (v : ℕ → K) → EndsAt f r.0 r.1 → ArePast f r.0 rs →
      IsInSpan f (row_vectors (r ∷ rs)) v → IsInSpan f (row_vectors rs) (less f v (v r.0) r.1)
  in_span-less r rs v e a h = subst (λ (c : K). IsInSpan f (row_vectors rs) (less f v c r.1)) (in_span-coefficient r rs v e a h) h.1

  pub in_span-rest : (r : ℕ × (ℕ → K)) (rs : List (ℕ × (ℕ → K))) (v : ℕ → K) → EndsAt f r.0 r.1 → ArePast f r.0 rs →
      IsInSpan f (row_vectors (r ∷ rs)) v → v r.0 ≡ f.nought → IsInSpan f (row_vectors rs) v
  in_span-rest r rs v e a h z =
      let k : IsInSpan f (row_vectors rs) (less f v f.nought r.1) = subst (λ (c : K). IsInSpan f (row_vectors rs) (less f v c r.1)) (in_span-coefficient r rs v e a h ∙ z) h.1 in
      subst (IsInSpan f (row_vectors rs)) (funext (λ j. less-nought f (v j) (r.1 j))) k

  pub unit-not-nought : f.unit ≡ f.nought → ⊥
  unit-not-nought e =
      let t : true ≡ false = sym f.is_nought-nought ∙ ap f.is_nought (sym e) ∙ f.is_nought-unit in cc

  -- a member that is 0 at each pivot is 0
  pub clear-nought : (rs : List (ℕ × (ℕ → K))) (v : ℕ → K) → IsReduced f rs → IsInSpan f (row_vectors rs) v → IsClear f rs v → (j : ℕ) → v j ≡ f.nought
  clear-nought [] v r h z = h
  clear-nought (b ∷ rs) v r h z = clear-nought rs v r.2 (in_span-rest b rs v r.0 r.1 h z.0) z.1

  -- the last column of a member that isn't 0 there is a pivot
  pub last-pivot : (rs : List (ℕ × (ℕ → K))) (v : ℕ → K) (p : ℕ) → IsReduced f rs → IsInSpan f (row_vectors rs) v →
      (v p ≡ f.nought → ⊥) → ((j : ℕ) → p < j → v j ≡ f.nought) → IsPivot p rs
  last-pivot [] v p r h n z = n (h p)
  last-pivot (b ∷ rs) v p r h n z =
      elim (order p b.0) [
        | inl p_below ↦ inr (last-pivot rs v p r.2 (in_span-rest b rs v r.0 r.1 h (z b.0 p_below)) n z)
        | inr (inl p_is) ↦ inl p_is
        | inr (inr p_above) ↦
            let at : (j : ℕ) → b.0 < j → less f v (v b.0) b.1 j ≡ v j =
            λ j past. less-at v (v b.0) b.1 j (r.0.1 j past) in
            inr (last-pivot rs (less f v (v b.0) b.1) p r.2 (in_span-less b rs v r.0 r.1 h)
            (λ e. n (sym (at p p_above) ∙ e))
            (λ j past. let q : b.0 < j = omega arith in at j q ∙ z j past))
      ]

  pub pivot-past : (p q : ℕ) (rs : List (ℕ × (ℕ → K))) → ArePast f p rs → IsPivot q rs → p < q
  pivot-past p q [] a h = absurd h
  pivot-past p q (r ∷ rs) a h = elim h [ inl e ↦ let l : p < r.0 = a.0 in omega arith | inr k ↦ pivot-past p q rs a.2 k ]

  -- the difference of two rows that are 0 at each of the pivots is 0 there
  pub past-clear : (p : ℕ) (u v : ℕ → K) (rs : List (ℕ × (ℕ → K))) → ArePast f p rs → EndsAt f p u → EndsAt f p v →
      IsClear f rs (less f u f.unit v)
  past-clear p u v [] a h k = tt
  past-clear p u v (r ∷ rs) a h k =
      (less-at u f.unit v r.0 (k.1 r.0 a.0) ∙ h.1 r.0 a.0, past-clear p u v rs a.2 h k)

  -- two reduced forms of one span are one
  pub reduced-unique : (rs ss : List (ℕ × (ℕ → K))) → IsReduced f rs → IsReduced f ss →
      ((v : ℕ → K) → IsInSpan f (row_vectors rs) v → IsInSpan f (row_vectors ss) v) → ((v : ℕ → K) → IsInSpan f (row_vectors ss) v → IsInSpan f (row_vectors rs) v) → rs ≡ ss
  reduced-unique [] [] r s to from = refl
  reduced-unique [] (b ∷ ss) r s to from = absurd (unit-not-nought (sym s.0.0 ∙ from b.1 (in_span-head b.1 (row_vectors ss)) b.0))
  reduced-unique (a ∷ rs) [] r s to from = absurd (unit-not-nought (sym r.0.0 ∙ to a.1 (in_span-head a.1 (row_vectors rs)) a.0))
  reduced-unique (a ∷ rs) (b ∷ ss) r s to from =
      let a_last : IsPivot a.0 (b ∷ ss) = last-pivot (b ∷ ss) a.1 a.0 s (to a.1 (in_span-head a.1 (row_vectors rs))) (λ e. unit-not-nought (sym r.0.0 ∙ e)) r.0.1 in
      let b_last : IsPivot b.0 (a ∷ rs) = last-pivot (a ∷ rs) b.1 b.0 r (from b.1 (in_span-head b.1 (row_vectors ss))) (λ e. unit-not-nought (sym s.0.0 ∙ e)) s.0.1 in
      let le : b.0 ≤ a.0 = elim a_last [ inl e ↦ omega arith | inr k ↦ let l : b.0 < a.0 = pivot-past b.0 a.0 ss s.1 k in omega arith ] in
      let ge : a.0 ≤ b.0 = elim b_last [ inl e ↦ omega arith | inr k ↦ let l : a.0 < b.0 = pivot-past a.0 b.0 rs r.1 k in omega arith ] in
      let p : a.0 ≡ b.0 = omega arith in
      let to_rest : (v : ℕ → K) → IsInSpan f (row_vectors rs) v → IsInSpan f (row_vectors ss) v =
      λ v h. in_span-rest b ss v s.0 s.1 (to v (in_span-past a.1 (row_vectors rs) v h)) (subst (λ (q : ℕ). v q ≡ f.nought) p (in_span-at a.0 rs v r.1 h)) in
      let from_rest : (v : ℕ → K) → IsInSpan f (row_vectors ss) v → IsInSpan f (row_vectors rs) v =
      λ v h. in_span-rest a rs v r.0 r.1 (from v (in_span-past b.1 (row_vectors ss) v h)) (subst (λ (q : ℕ). v q ≡ f.nought) (sym p) (in_span-at b.0 ss v s.1 h)) in
      let rest : rs ≡ ss = reduced-unique rs ss r.2 s.2 to_rest from_rest in
      let b_ends : EndsAt f a.0 b.1 = subst (λ (q : ℕ). EndsAt f q b.1) (sym p) s.0 in
      let b_in : IsInSpan f (row_vectors rs) (less f b.1 (b.1 a.0) a.1) = in_span-less a rs b.1 r.0 r.1 (from b.1 (in_span-head b.1 (row_vectors ss))) in
      let b_one : IsInSpan f (row_vectors rs) (less f b.1 f.unit a.1) = subst (λ (c : K). IsInSpan f (row_vectors rs) (less f b.1 c a.1)) b_ends.0 b_in in
      let none : (j : ℕ) → less f b.1 f.unit a.1 j ≡ f.nought = clear-nought rs _ r.2 b_one (past-clear a.0 b.1 a.1 rs r.1 b_ends r.0) in
      let row : b.1 ≡ a.1 = funext (λ j. less-same f (b.1 j) (a.1 j) (none j)) in
      let head : a ≡ b = λ i. (p i, sym row i) in
      λ i. head i ∷ rest i
