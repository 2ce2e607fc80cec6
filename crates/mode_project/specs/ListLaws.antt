-- Spans of lists of vectors, and lists that grow at the end.
--
-- rows-append, rows-front, rows-back: what each row of two lists has
-- vectors-append, vectors-marked: the vectors of rows
-- span-within: rows that are members of another span
-- last-same, same-more: spans with one more row
-- span-split: a member of the span of two lists is a sum
-- plain-same: the rows of a list, by their numbers, have its span
-- ind-none, ind-more: independent lists
use Rattle.std.proofs.Common.{◌≡◌, ℕ, suc, zero, ◌+◌, ◌<◌, inl, inr, refl, sym, ◌∙◌, ap, subst, arith, List, [], ◌∷◌, ◌++◌, length}
use Rattle.algebra.specs.ListLaws.{length-more}
use Rattle.cyclo24.specs.FieldOn.{FieldOn}
use Rattle.cyclo24.specs.FieldLaws.{less-at-nought, unit-times, neg-plus-neg}
use Rattle.cyclo24.specs.TotalLaws.{total-same}
use Rattle.lin_alg.specs.IndependenceLaws.{independent-none, independent-more}
use Rattle.lin_alg.specs.InsertLaws.{span-least, span-subspace, span-rows}
use Rattle.lin_alg.specs.Solving.{AreIndependent, plain_rows}
use Rattle.lin_alg.specs.SpanLaws.{funext, in_span-head, in_span-past}
use Rattle.lin_alg.specs.Spans.{row_vectors, less, IsInSpan, HasRows, AreSame}
use Rattle.lin_alg.specs.UnionLaws.{lower}
use Rattle.mode_project.specs.Modes.{marked, vector_at}

module _ {K : Type 0} where
  pub rows-append : (P : (ℕ → K) → Type 0) (xs ys : List (ℕ → K)) → HasRows P xs → HasRows P ys → HasRows P (xs ++ ys)
  rows-append P [] ys a b = b
  rows-append P (x ∷ xs) ys a b = (a.0, rows-append P xs ys a.1 b)

  pub rows-front : (P : (ℕ → K) → Type 0) (xs ys : List (ℕ → K)) → HasRows P (xs ++ ys) → HasRows P xs
  rows-front P [] ys a = tt
  rows-front P (x ∷ xs) ys a = (a.0, rows-front P xs ys a.1)

  pub rows-back : (P : (ℕ → K) → Type 0) (xs ys : List (ℕ → K)) → HasRows P (xs ++ ys) → HasRows P ys
  rows-back P [] ys a = a
  rows-back P (x ∷ xs) ys a = rows-back P xs ys a.1

  pub vectors-append : (ms ns : List (ℕ × (ℕ → K))) → row_vectors (ms ++ ns) ≡ row_vectors ms ++ row_vectors ns
  vectors-append [] ns = refl
  vectors-append (m ∷ ms) ns = ap (λ xs. m.1 ∷ xs) (vectors-append ms ns)

  pub vectors-marked : (j : ℕ) (rs : List (ℕ × (ℕ → K))) → row_vectors (marked j rs) ≡ row_vectors rs
  vectors-marked j [] = refl
  vectors-marked j (r ∷ rs) = ap (λ xs. r.1 ∷ xs) (vectors-marked j rs)

  pub vectors-length : (rs : List (ℕ × (ℕ → K))) → length (row_vectors rs) ≡ length rs
  vectors-length [] = refl
  vectors-length (r ∷ rs) = ap suc (vectors-length rs)

  pub plain-each : (a : ℕ → ℕ → K) (P : (ℕ → K) → Type 0) (m : ℕ) → ((k : ℕ) → k < m → P (a k)) → HasRows P (plain_rows a m)
  plain-each a P zero h = tt
  plain-each a P (suc m) h = (h m (omega arith), plain-each a P m (λ k l. h k (omega arith)))

module _ {K : Type 0} (f : FieldOn K) where
  -- the span of rows that are members of another span is within it
  pub span-within : (rs ss : List (ℕ → K)) → HasRows (IsInSpan f ss) rs → (v : ℕ → K) → IsInSpan f rs v → IsInSpan f ss v
  span-within rs ss a v h = span-least f (IsInSpan f ss) (span-subspace f ss) rs a v h

  pub front-rows : (xs ys : List (ℕ → K)) → HasRows (IsInSpan f (xs ++ ys)) xs
  front-rows xs ys = rows-front (IsInSpan f (xs ++ ys)) xs ys (span-rows f (xs ++ ys))

  pub back-rows : (xs ys : List (ℕ → K)) → HasRows (IsInSpan f (xs ++ ys)) ys
  back-rows xs ys = rows-back (IsInSpan f (xs ++ ys)) xs ys (span-rows f (xs ++ ys))

  -- the span with one more row, in either order
  pub last-same : (xs : List (ℕ → K)) (x : ℕ → K) → AreSame (IsInSpan f (x ∷ xs)) (IsInSpan f (xs ++ x ∷ []))
  last-same xs x v = (
    span-within (x ∷ xs) (xs ++ x ∷ []) ((back-rows xs (x ∷ [])).0, front-rows xs (x ∷ [])) v,
    (let rows = span-rows f (x ∷ xs) in span-within (xs ++ x ∷ []) (x ∷ xs) (rows-append (IsInSpan f (x ∷ xs)) xs (x ∷ []) rows.1 (rows.0, tt)) v),
  )

  -- one more row on both sides
  pub same-more : (rs ss : List (ℕ → K)) (x : ℕ → K) → AreSame (IsInSpan f rs) (IsInSpan f ss) → AreSame (IsInSpan f (x ∷ rs)) (IsInSpan f (x ∷ ss))
  same-more rs ss x e v = (λ h. (h.0, (e (less f v h.0 x)).0 h.1), λ h. (h.0, (e (less f v h.0 x)).1 h.1))

  -- a member of the span of two lists is a member of the first and one of the second
  pub span-split : (xs ys : List (ℕ → K)) (v : ℕ → K) → IsInSpan f (xs ++ ys) v → (u : ℕ → K) × IsInSpan f xs u × IsInSpan f ys (less f v f.unit u)
  span-split [] ys v h =
      let e : v ≡ less f v f.unit (λ _. f.nought) = funext (λ j. sym (less-at-nought f (v j) f.unit)) in
      ((λ _. f.nought), (λ j. refl), subst (IsInSpan f ys) e h)
  span-split (x ∷ xs) ys v h =
      let c : K = h.0 in
      let k = span-split xs ys (less f v c x) h.1 in
      let u : ℕ → K = k.0 in
      let w : ℕ → K = λ j. f.plus (u j) (f.times c (x j)) in
      let back : u ≡ less f w c x =
      funext (λ j. sym (f.plus_assoc (u j) (f.times c (x j)) (f.neg (f.times c (x j))) ∙ ap (f.plus (u j)) (f.plus-neg (f.times c (x j))) ∙ f.plus-nought (u j))) in
      let rest : less f (less f v c x) f.unit u ≡ less f v f.unit w =
      funext (λ j. f.plus_assoc (v j) (f.neg (f.times c (x j))) (f.neg (f.times f.unit (u j)))
      ∙ ap (f.plus (v j)) (neg-plus-neg f (f.times c (x j)) (f.times f.unit (u j))
      ∙ ap f.neg (ap (f.plus (f.times c (x j))) (unit-times f (u j)) ∙ f.plus_comm (f.times c (x j)) (u j) ∙ sym (unit-times f (w j))))) in
      (w, (c, subst (IsInSpan f xs) back k.1), subst (IsInSpan f ys) rest k.2)

  -- vectors by their numbers
  pub at-front : (xs ys : List (ℕ → K)) (k : ℕ) → k < length xs → vector_at f (xs ++ ys) k ≡ vector_at f xs k
  at-front [] ys k l = absurd (omega arith)
  at-front (x ∷ xs) ys zero l = refl
  at-front (x ∷ xs) ys (suc k) l = at-front xs ys k (omega arith)

  pub at-last : (xs : List (ℕ → K)) (v : ℕ → K) → vector_at f (xs ++ v ∷ []) (length xs) ≡ v
  at-last [] v = refl
  at-last (x ∷ xs) v = at-last xs v

  pub each-row : (P : (ℕ → K) → Type 0) (xs : List (ℕ → K)) → HasRows P xs → (k : ℕ) → k < length xs → P (vector_at f xs k)
  each-row P [] a k l = absurd (omega arith)
  each-row P (x ∷ xs) a zero l = a.0
  each-row P (x ∷ xs) a (suc k) l = each-row P xs a.1 k (omega arith)

  pub rows-each : (P : (ℕ → K) → Type 0) (xs : List (ℕ → K)) → ((k : ℕ) → k < length xs → P (vector_at f xs k)) → HasRows P xs
  rows-each P [] h = tt
  rows-each P (x ∷ xs) h = (h 0 (omega arith), rows-each P xs (λ k l. h (suc k) (omega arith)))

  pub plain-member : (a : ℕ → ℕ → K) (m k : ℕ) → k < m → IsInSpan f (plain_rows a m) (a k)
  plain-member a zero k l = absurd (omega arith)
  plain-member a (suc m) k l =
      elim (lower k m l) [
        | inl b ↦ in_span-past f (a m) (plain_rows a m) (a k) (plain-member a m k b)
        | inr e ↦ subst (λ (i : ℕ). IsInSpan f (plain_rows a (suc m)) (a i)) (sym e) (in_span-head f (a m) (plain_rows a m))
      ]

  pub plain-same : (xs : List (ℕ → K)) → AreSame (IsInSpan f (plain_rows (vector_at f xs) (length xs))) (IsInSpan f xs)
  plain-same xs v = (
    span-within (plain_rows (vector_at f xs) (length xs)) xs (plain-each (vector_at f xs) (IsInSpan f xs) (length xs) (each-row (IsInSpan f xs) xs (span-rows f xs))) v,
    span-within xs (plain_rows (vector_at f xs) (length xs)) (rows-each (IsInSpan f (plain_rows (vector_at f xs) (length xs))) xs (plain-member (vector_at f xs) (length xs))) v,
  )

  -- the vectors of a list are independent
  abbrev pub IsIndependentList : List (ℕ → K) → Type 0
  IsIndependentList xs = AreIndependent f (length xs) (vector_at f xs)

  pub ind-none : IsIndependentList []
  ind-none = independent-none f (vector_at f [])

  pub ind-more : (xs : List (ℕ → K)) (v : ℕ → K) → IsIndependentList xs → (IsInSpan f xs v → ⊥) → IsIndependentList (xs ++ v ∷ [])
  ind-more xs v ind out =
      let a : ℕ → ℕ → K = vector_at f (xs ++ v ∷ []) in
      let n = length xs in
      let old : AreIndependent f n a =
      λ x h i l. ind x (λ j. total-same f n _ _ (λ k m. ap (λ z. f.times (x k) (z j)) (sym (at-front xs (v ∷ []) k m))) ∙ h j) i l in
      let apart : IsInSpan f (plain_rows a n) (a n) → ⊥ =
      λ h. out (subst (IsInSpan f xs) (at-last xs v)
      (span-within (plain_rows a n) xs (plain-each a (IsInSpan f xs) n (λ k l. subst (IsInSpan f xs) (sym (at-front xs (v ∷ []) k l)) (each-row (IsInSpan f xs) xs (span-rows f xs) k l))) (a n) h)) in
      let e : suc n ≡ length (xs ++ v ∷ []) = let k : length (xs ++ v ∷ []) ≡ n + 1 = length-more xs v in omega (arith, k) in
      subst (λ (m : ℕ). AreIndependent f m a) e (independent-more f a n old apart)
