-- What rows that are kept where they are new obey.
--
-- kept-append, kept-split: more rows behind the first
-- kept-each, kept-over, kept-under: what each kept row has; spans of kept rows
-- range-more, range-split: the rows of one more irrep, and those of the first irreps
-- range-sum: the rows of the ranges span the sum of the ranges
-- kept-before: the kept rows of the first irreps
use Rattle.std.proofs.Common.{◌≡◌, ℕ, suc, zero, ◌+◌, ◌<◌, ◌≤◌, inl, inr, refl, sym, ◌∙◌, ap, subst, arith, List, [], ◌∷◌, ◌++◌, length, append_assoc, append-nil, take, ltb, lt-ltb, le-ltb, if◌then◌else◌}
use Rattle.cyclo24.specs.FieldOn.{FieldOn}
use Rattle.lin_alg.specs.InsertLaws.{span-subspace, span-rows, rows-mono, has_back}
use Rattle.lin_alg.specs.Spans.{row_vectors, less, IsInSpan, HasRows, AreSame}
use Rattle.mode_project.specs.AtomSpace.{AtomSpace, size_of}
use Rattle.mode_project.specs.ListLaws.{rows-append, vectors-append, vectors-marked, span-within, front-rows, back-rows, span-split}
use Rattle.mode_project.specs.Modes.{marked, AreRangeRows, AreKept, before_irrep}
use Rattle.mode_project.specs.Projection.{projection, IsInRange, IsInSum, IsReducedFormOf}

-- each pair of the list has P
abbrev pub EachPair : {V : Type 0} → ((ℕ × V) → Type 0) → List (ℕ × V) → Type 0
EachPair P [] = Unit {0}
EachPair P (c ∷ cs) = P c × EachPair P cs

module _ {V : Type 0} where
  pub pairs-append : (P : (ℕ × V) → Type 0) (xs ys : List (ℕ × V)) → EachPair P xs → EachPair P ys → EachPair P (xs ++ ys)
  pairs-append P [] ys a b = b
  pairs-append P (x ∷ xs) ys a b = (a.0, pairs-append P xs ys a.1 b)

  pub pairs-mono : (P Q : (ℕ × V) → Type 0) → ((c : ℕ × V) → P c → Q c) → (xs : List (ℕ × V)) → EachPair P xs → EachPair Q xs
  pairs-mono P Q t [] a = tt
  pairs-mono P Q t (x ∷ xs) a = (t x a.0, pairs-mono P Q t xs a.1)

  pairs-marked : (P : (ℕ × V) → Type 0) (j : ℕ) → ((v : V) → P (j, v)) → (rs : List (ℕ × V)) → EachPair P (marked j rs)
  pairs-marked P j h [] = tt
  pairs-marked P j h (r ∷ rs) = (h r.1, pairs-marked P j h rs)

  -- all of them are of irreps below j
  pub before-all : (j : ℕ) (ms : List (ℕ × V)) → EachPair (λ c. c.0 < j) ms → before_irrep j ms ≡ ms
  before-all j [] a = refl
  before-all j (m ∷ ms) a = ap (λ b. if b then m ∷ before_irrep j ms else before_irrep j ms) (lt-ltb m.0 j a.0) ∙ ap (λ xs. m ∷ xs) (before-all j ms a.1)

  -- a row of irrep j or behind it adds nothing
  before-more : (j : ℕ) (ms : List (ℕ × V)) (c : ℕ × V) → j ≤ c.0 → before_irrep j (ms ++ c ∷ []) ≡ before_irrep j ms
  before-more j [] c l = ap (λ b. if b then c ∷ [] else []) (le-ltb c.0 j l)
  before-more j (m ∷ ms) c l = ap (λ xs. if ltb m.0 j then m ∷ xs else xs) (before-more j ms c l)

module _ {K : Type 0} (f : FieldOn K) where
  pub kept-append : (ms cs ds mid kept : List (ℕ × (ℕ → K))) → AreKept f ms cs mid → AreKept f mid ds kept → AreKept f ms (cs ++ ds) kept
  kept-append ms [] ds mid kept h k = subst (λ xs. AreKept f xs ds kept) h k
  kept-append ms (c ∷ cs) ds mid kept h k = (h.0, h.1, kept-append h.0 cs ds mid kept h.2 k)

  pub kept-split : (ms cs ds kept : List (ℕ × (ℕ → K))) → AreKept f ms (cs ++ ds) kept → (mid : List (ℕ × (ℕ → K))) × AreKept f ms cs mid × AreKept f mid ds kept
  kept-split ms [] ds kept h = (ms, refl, h)
  kept-split ms (c ∷ cs) ds kept h =
      let k = kept-split h.0 cs ds kept h.2 in
      (k.0, (h.0, h.1, k.1), k.2)

  -- what a row that is new keeps, all of them keep
  pub kept-each : (Q : List (ℕ × (ℕ → K)) → Type 0) (P : (ℕ × (ℕ → K)) → Type 0)
      → ((ms : List (ℕ × (ℕ → K))) (c : ℕ × (ℕ → K)) → P c → Q ms → (IsInSpan f (row_vectors ms) c.1 → ⊥) → Q (ms ++ c ∷ []))
      → (ms cs kept : List (ℕ × (ℕ → K))) → EachPair P cs → AreKept f ms cs kept → Q ms → Q kept
  kept-each Q P step ms [] kept a h q = subst Q (sym h) q
  kept-each Q P step ms (c ∷ cs) kept a h q =
      kept-each Q P step h.0 cs kept a.1 h.2 (elim h.1 [ inl k ↦ subst Q (sym k.1) q | inr k ↦ subst Q (sym k.1) (step ms c a.0 q k.0) ])

  -- the rows are in the span of the kept rows
  pub kept-over : (ms cs kept : List (ℕ × (ℕ → K))) → AreKept f ms cs kept
      → HasRows (IsInSpan f (row_vectors kept)) (row_vectors ms) × HasRows (IsInSpan f (row_vectors kept)) (row_vectors cs)
  kept-over ms [] kept h = (subst (λ xs. HasRows (IsInSpan f (row_vectors xs)) (row_vectors ms)) (sym h) (span-rows f (row_vectors ms)), tt)
  kept-over ms (c ∷ cs) kept h =
      let next = h.0 in
      let later = kept-over next cs kept h.2 in
      let both : HasRows (IsInSpan f (row_vectors next)) (row_vectors ms) × IsInSpan f (row_vectors next) c.1 =
      elim h.1 [
        | inl k ↦ subst (λ xs. HasRows (IsInSpan f (row_vectors xs)) (row_vectors ms) × IsInSpan f (row_vectors xs) c.1) (sym k.1) (span-rows f (row_vectors ms), k.0)
        | inr k ↦
            let e : row_vectors ms ++ c.1 ∷ [] ≡ row_vectors next = sym (ap row_vectors k.1 ∙ vectors-append ms (c ∷ [])) in
            subst (λ xs. HasRows (IsInSpan f xs) (row_vectors ms) × IsInSpan f xs c.1) e (front-rows f (row_vectors ms) (c.1 ∷ []), (back-rows f (row_vectors ms) (c.1 ∷ [])).0)
      ] in
      let up : (v : ℕ → K) → IsInSpan f (row_vectors next) v → IsInSpan f (row_vectors kept) v = span-within f (row_vectors next) (row_vectors kept) later.0 in
      (rows-mono f (IsInSpan f (row_vectors next)) (IsInSpan f (row_vectors kept)) up (row_vectors ms) both.0, (up c.1 both.1, later.1))

  -- what the rows have, the kept rows have
  pub kept-under : (P : (ℕ → K) → Type 0) (ms cs kept : List (ℕ × (ℕ → K))) → AreKept f ms cs kept → HasRows P (row_vectors ms) → HasRows P (row_vectors cs) → HasRows P (row_vectors kept)
  kept-under P ms [] kept h a b = subst (λ xs. HasRows P (row_vectors xs)) (sym h) a
  kept-under P ms (c ∷ cs) kept h a b =
      kept-under P h.0 cs kept h.2
      (elim h.1 [
        | inl k ↦ subst (λ xs. HasRows P (row_vectors xs)) (sym k.1) a
        | inr k ↦ subst (HasRows P) (sym (ap row_vectors k.1 ∙ vectors-append ms (c ∷ []))) (rows-append P (row_vectors ms) (c.1 ∷ []) a (b.0, tt))
      ]) b.1

  -- kept rows have the span of all rows
  pub kept-span : (cs kept : List (ℕ × (ℕ → K))) → AreKept f [] cs kept → AreSame (IsInSpan f (row_vectors kept)) (IsInSpan f (row_vectors cs))
  kept-span cs kept h v = (
    span-within f (row_vectors kept) (row_vectors cs) (kept-under (IsInSpan f (row_vectors cs)) [] cs kept h tt (span-rows f (row_vectors cs))) v,
    span-within f (row_vectors cs) (row_vectors kept) (kept-over [] cs kept h).1 v,
  )

  module _ (s : AtomSpace) where
    pub range-more : (j : ℕ) (ws : List (ℕ → K)) (w : ℕ → K) (cs rs : List (ℕ × (ℕ → K))) → AreRangeRows f s j ws cs
        → IsReducedFormOf f (size_of s) (IsInRange f (size_of s) (projection f s w)) rs → AreRangeRows f s j (ws ++ w ∷ []) (cs ++ marked (j + length ws) rs)
    range-more j [] w cs rs h r =
        let e : j + 0 ≡ j = omega arith in
        (rs, r, ([], refl, ap (λ xs. xs ++ marked (j + 0) rs) h ∙ ap (λ i. marked i rs) e ∙ sym (append-nil (marked j rs))))
    range-more j (u ∷ ws) w cs rs h r =
        let rest = h.2.0 in
        let e : j + suc (length ws) ≡ suc j + length ws = omega arith in (
          h.0,
          h.1,
          (
            rest ++ marked (suc j + length ws) rs,
            range-more (suc j) ws w rest rs h.2.1 r,
            ap (λ xs. xs ++ marked (j + suc (length ws)) rs) h.2.2 ∙ append_assoc (marked j h.0) rest (marked (j + suc (length ws)) rs)
                ∙ ap (λ i. marked j h.0 ++ (rest ++ marked i rs)) e,
          ),
        )

    -- the rows of the irreps from j on
    range-marks : (j : ℕ) (ws : List (ℕ → K)) (cs : List (ℕ × (ℕ → K))) → AreRangeRows f s j ws cs → EachPair (λ c. j ≤ c.0) cs
    range-marks j [] cs h = subst (EachPair (λ c. j ≤ c.0)) (sym h) tt
    range-marks j (w ∷ ws) cs h =
        let own : j ≤ j = omega arith in
        let later = pairs-mono (λ c. suc j ≤ c.0) (λ c. j ≤ c.0) (λ c l. omega (arith, l)) h.2.0 (range-marks (suc j) ws h.2.0 h.2.1) in
        subst (EachPair (λ c. j ≤ c.0)) (sym h.2.2) (pairs-append (λ c. j ≤ c.0) (marked j h.0) h.2.0 (pairs-marked (λ c. j ≤ c.0) j (λ v. own) h.0) later)

    -- the rows of the first k irreps, and the others
    pub record IsSplit (j : ℕ) (ws : List (ℕ → K)) (k : ℕ) (cs front back : List (ℕ × (ℕ → K))) : Type 0 where
      pub is : cs ≡ front ++ back
      pub rows : AreRangeRows f s j (take k ws) front
      pub first : EachPair (λ c. c.0 < j + k) front
      pub others : EachPair (λ c. j + k ≤ c.0) back

    pub range-split : (j : ℕ) (ws : List (ℕ → K)) (cs : List (ℕ × (ℕ → K))) → AreRangeRows f s j ws cs → (k : ℕ) → k ≤ length ws
        → (front back : List (ℕ × (ℕ → K))) × IsSplit j ws k cs front back
    range-split j ws cs h zero l =
        let e : j ≡ j + 0 = omega arith in
        ([], cs, record { is = refl; rows = refl; first = tt; others = subst (λ (i : ℕ). EachPair (λ c. i ≤ c.0) cs) e (range-marks j ws cs h) })
    range-split j [] cs h (suc k) l = absurd (omega arith)
    range-split j (w ∷ ws) cs h (suc k) l =
        let m : k ≤ length ws = omega arith in
        let t = range-split (suc j) ws h.2.0 h.2.1 k m in
        let split = t.2 in
        let e : suc j + k ≡ j + suc k = omega arith in
        let own : j < j + suc k = omega arith in (
          marked j h.0 ++ t.0,
          t.1,
          record {
            is = h.2.2 ∙ ap (λ xs. marked j h.0 ++ xs) split.is ∙ sym (append_assoc (marked j h.0) t.0 t.1);
            rows = (h.0, h.1, (t.0, split.rows, refl));
            first = pairs-append (λ c. c.0 < j + suc k) (marked j h.0) t.0 (pairs-marked (λ c. c.0 < j + suc k) j (λ v. own) h.0) (subst (λ (i : ℕ). EachPair (λ c. c.0 < i) t.0) e split.first);
            others = subst (λ (i : ℕ). EachPair (λ c. i ≤ c.0) t.1) e split.others;
          },
        )

    pub range-sum : (j : ℕ) (ws : List (ℕ → K)) (cs : List (ℕ × (ℕ → K))) → AreRangeRows f s j ws cs → AreSame (IsInSpan f (row_vectors cs)) (IsInSum f s ws)
    range-sum j [] cs h v = subst (λ xs. (IsInSpan f (row_vectors xs) v → IsInSum f s [] v) × (IsInSum f s [] v → IsInSpan f (row_vectors xs) v)) (sym h) (λ k. k, λ k. k)
    range-sum j (w ∷ ws) cs h v =
        let rs = h.0 in
        let rest = h.2.0 in
        let e : row_vectors cs ≡ row_vectors rs ++ row_vectors rest = ap row_vectors h.2.2 ∙ vectors-append (marked j rs) rest ∙ ap (λ xs. xs ++ row_vectors rest) (vectors-marked j rs) in
        let later = range-sum (suc j) ws rest h.2.1 in
        let all : List (ℕ → K) = row_vectors rs ++ row_vectors rest in (
          λ k.
              let t = span-split f (row_vectors rs) (row_vectors rest) v (subst (λ xs. IsInSpan f xs v) e k) in
              (t.0, (h.1.spans t.0).0 t.1, (later (less f v f.unit t.0)).0 t.2),
          λ k. subst (λ xs. IsInSpan f xs v) (sym e)
              (has_back f (IsInSpan f all) (span-subspace f all) v f.unit k.0
              (span-within f (row_vectors rest) all (back-rows f (row_vectors rs) (row_vectors rest)) (less f v f.unit k.0) ((later (less f v f.unit k.0)).1 k.2))
              (span-within f (row_vectors rs) all (front-rows f (row_vectors rs) (row_vectors rest)) k.0 ((h.1.spans k.0).1 k.1))),
        )

    -- the kept rows of the first k irreps span the sum of their ranges
    pub kept-before : (ws : List (ℕ → K)) (cs kept : List (ℕ × (ℕ → K))) → AreRangeRows f s 0 ws cs → AreKept f [] cs kept → (k : ℕ) → k ≤ length ws
        → AreSame (IsInSpan f (row_vectors (before_irrep k kept))) (IsInSum f s (take k ws))
    kept-before ws cs kept h t k l v =
        let both = range-split 0 ws cs h k l in
        let front = both.0 in
        let split = both.2 in
        let parts = kept-split [] front both.1 kept (subst (λ xs. AreKept f [] xs kept) split.is t) in
        let mid = parts.0 in
        let zero_plus : 0 + k ≡ k = omega arith in
        let first : EachPair (λ c. c.0 < k) front = subst (λ (i : ℕ). EachPair (λ c. c.0 < i) front) zero_plus split.first in
        let others : EachPair (λ c. k ≤ c.0) both.1 = subst (λ (i : ℕ). EachPair (λ c. i ≤ c.0) both.1) zero_plus split.others in
        let low : EachPair (λ c. c.0 < k) mid =
        kept-each (EachPair (λ c. c.0 < k)) (λ c. c.0 < k) (λ ms c p a _. pairs-append (λ c. c.0 < k) ms (c ∷ []) a (p, tt)) [] front mid first parts.1 tt in
        let e : before_irrep k kept ≡ mid =
        kept-each (λ ms. before_irrep k ms ≡ mid) (λ c. k ≤ c.0) (λ ms c p a _. before-more k ms c p ∙ a) mid both.1 kept others parts.2 (before-all k mid low) in
        let same = kept-span front mid parts.1 v in
        let sum = range-sum 0 (take k ws) front split.rows v in (
          λ x. sum.0 (same.0 (subst (λ xs. IsInSpan f (row_vectors xs) v) e x)),
          λ x. subst (λ xs. IsInSpan f (row_vectors xs) v) (sym e) (same.1 (sum.1 x)),
        )
