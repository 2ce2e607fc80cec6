-- The modes of an orbit are a basis.
--
-- modes-count: as many as there are columns
-- modes-independent: independent
-- modes-span: they span all vectors
-- modes-sums: those of the first irreps span the sum of the ranges of their projections
use Rattle.std.proofs.Common.{◌≡◌, ℕ, suc, zero, ◌+◌, ◌<◌, ◌≤◌, ◌⊎◌, ◌||◌, Bool, true, false, inl, inr, refl, sym, ◌∙◌, ap, subst, arith, List, [], ◌∷◌, ◌++◌, length, map, append_assoc, append-nil, take, nat_eq, ltb, if◌then◌else◌}
use Rattle.std.proofs.lemmas.List.{length-map, length-append, map-append}
use Rattle.std.proofs.lemmas.Bool.Decides.{eqb_tells}
use Rattle.cyclo24.specs.FieldOn.{FieldOn}
use Rattle.cyclo24.specs.FieldLaws.{less-own, nought-times, neg-nought}
use Rattle.lin_alg.specs.EquationLaws.{dec, eq-self, unit-other, within-subspace}
use Rattle.lin_alg.specs.Equations.{unit_vector}
use Rattle.lin_alg.specs.FreeLaws.{AllPast, AreRising, free-count}
use Rattle.lin_alg.specs.InsertLaws.{span-least, span-subspace, span-rows, reduce-has, reduce-clear, reduce-differs, member-reduce, has_back, inserted-reduced, inserted-within, inserted-has}
use Rattle.lin_alg.specs.Reduced.{IsReduced, IsClear, IsWithin, ArePast, PivotsBelow, is_pivot, free_columns, reduce, cleared, placed, inserted, scaled}
use Rattle.lin_alg.specs.Solving.{AreIndependent}
use Rattle.lin_alg.specs.SpanLaws.{funext, less-at, clear-nought, reduced-unique, unit-not-nought}
use Rattle.lin_alg.specs.Spans.{row_vectors, less, IsInSpan, IsSubspace, HasRows, AreSame}
use Rattle.mode_project.specs.AtomSpace.{AtomSpace, size_of}
use Rattle.mode_project.specs.KeptLaws.{EachPair, kept-each, kept-before}
use Rattle.mode_project.specs.ListLaws.{rows-append, rows-front, rows-back, vectors-append, vectors-marked, vectors-length, span-within, front-rows, back-rows, last-same, IsIndependentList, ind-none, ind-more}
use Rattle.mode_project.specs.Modes.{marked, AreRangeRows, AreModes, all_modes, vector_at, before_irrep}
use Rattle.mode_project.specs.Projection.{IsInSum}

or-left : (a b : Bool) → (a || b) ≡ false → a ≡ false
or-left true b h = let e : true ≡ false = h in absurd cc
or-left false b h = refl

or-right : (a b : Bool) → (a || b) ≡ false → b ≡ false
or-right true b h = let e : true ≡ false = h in absurd cc
or-right false b h = h

numbers-differ : (d p : ℕ) → nat_eq d p ≡ false → d ≡ p → ⊥
numbers-differ d p h e = let t : true ≡ false = sym (ap (nat_eq d) (sym e) ∙ eq-self d) ∙ h in cc

module _ {K : Type 0} (f : FieldOn K) where
  at_or_past : (n j : ℕ) → n ≤ j → (j ≡ n) ⊎ (suc n ≤ j)
  at_or_past n j l = grind arith

  -- the last column that isn't 0, below which all are
  last-or : (n : ℕ) (v : ℕ → K) → ((j : ℕ) → n ≤ j → v j ≡ f.nought) → ((j : ℕ) → v j ≡ f.nought) ⊎ ((p : ℕ) × (f.is_nought (v p) ≡ false) × ((j : ℕ) → p < j → v j ≡ f.nought))
  last-or zero v h = inl (λ j. h j (omega arith))
  last-or (suc n) v h =
      (elim (f.is_nought (v n)) as (λ b. (f.is_nought (v n) ≡ b) → ((j : ℕ) → v j ≡ f.nought) ⊎ ((p : ℕ) × (f.is_nought (v p) ≡ false) × ((j : ℕ) → p < j → v j ≡ f.nought))) [
        | true ↦ λ e. last-or n v (λ j l. elim (at_or_past n j l) [ inl q ↦ ap v q ∙ f.is_nought-true (v n) e | inr m ↦ h j m ])
        | false ↦ λ e. inr (n, e, λ j l. h j (omega arith))
      ]) refl

  length-cleared : (p : ℕ) (u : ℕ → K) (rs : List (ℕ × (ℕ → K))) → length (cleared f p u rs) ≡ length rs
  length-cleared p u [] = refl
  length-cleared p u (r ∷ rs) = ap suc (length-cleared p u rs)

  length-placed : (p : ℕ) (u : ℕ → K) (rs : List (ℕ × (ℕ → K))) → length (placed p u rs) ≡ suc (length rs)
  length-placed p u [] = refl
  length-placed p u (r ∷ rs) =
      elim (ltb p r.0) as (λ b. length (if b then (p, u) ∷ r ∷ rs else r ∷ placed p u rs) ≡ suc (suc (length rs))) [
        | true ↦ refl
        | false ↦ ap suc (length-placed p u rs)
      ]

  -- rows of d entries that are independent, and a form of their span with as many rows
  pub record HasForm (d : ℕ) (ms : List (ℕ × (ℕ → K))) : Type 0 where
    pub within : HasRows (IsWithin f d) (row_vectors ms)
    pub form : List (ℕ × (ℕ → K))
    pub reduced : IsReduced f form
    pub same : AreSame (IsInSpan f (row_vectors form)) (IsInSpan f (row_vectors ms))
    pub count : length form ≡ length ms
    pub independent : IsIndependentList f (row_vectors ms)

  module _ (d : ℕ) where
    none-form : HasForm d []
    none-form = record { within = tt; form = []; reduced = tt; same = λ v. (λ h. h, λ h. h); count = refl; independent = ind-none f }

    form-rows-within : (ms rs : List (ℕ × (ℕ → K))) → HasRows (IsWithin f d) (row_vectors ms) → AreSame (IsInSpan f (row_vectors rs)) (IsInSpan f (row_vectors ms)) → HasRows (IsWithin f d) (row_vectors rs)
    form-rows-within ms rs a e =
        let each : (v : ℕ → K) → IsInSpan f (row_vectors rs) v → IsWithin f d v = λ v h. span-least f (IsWithin f d) (within-subspace f d) (row_vectors ms) a v ((e v).0 h) in
        rows-all (row_vectors rs) (row_vectors rs) each (span-rows f (row_vectors rs))
      where
        rows-all : (ss xs : List (ℕ → K)) → ((v : ℕ → K) → IsInSpan f ss v → IsWithin f d v) → HasRows (IsInSpan f ss) xs → HasRows (IsWithin f d) xs
        rows-all ss [] t h = tt
        rows-all ss (x ∷ xs) t h = (t x h.0, rows-all ss xs t h.1)

    -- one more row that is new
    more-form : (ms : List (ℕ × (ℕ → K))) (c : ℕ × (ℕ → K)) → IsWithin f d c.1 → HasForm d ms → (IsInSpan f (row_vectors ms) c.1 → ⊥) → HasForm d (ms ++ c ∷ [])
    more-form ms c w h out =
        let rs = h.form in
        let v : ℕ → K = c.1 in
        let e : row_vectors ms ++ v ∷ [] ≡ row_vectors (ms ++ c ∷ []) = sym (vectors-append ms (c ∷ [])) in
        let left : IsWithin f d (reduce f rs v) = reduce-has f (IsWithin f d) (within-subspace f d) rs (form-rows-within ms rs h.within h.same) v w in
        elim (last-or d (reduce f rs v) left) [
          | inl z ↦ absurd (out ((h.same v).0 (member-reduce f rs v z)))
          | inr p ↦
              let new : List (ℕ × (ℕ → K)) = inserted f rs v p.0 in
              let n : length new ≡ suc (length rs) =
              length-placed p.0 (scaled f p.0 (reduce f rs v)) (cleared f p.0 (scaled f p.0 (reduce f rs v)) rs) ∙ ap suc (length-cleared p.0 (scaled f p.0 (reduce f rs v)) rs) in
              let m : length (ms ++ c ∷ []) ≡ length ms + 1 = length-append ms (c ∷ []) in
              let k : length rs ≡ length ms = h.count in
              let both : AreSame (IsInSpan f (row_vectors new)) (IsInSpan f (row_vectors ms ++ v ∷ [])) =
              λ x. (
                λ t. let i = inserted-within f rs v p.0 x t in (last-same f (row_vectors ms) v x).0 (i.0, (h.same (less f x i.0 v)).0 i.1),
                λ t. let i = (last-same f (row_vectors ms) v x).1 t in inserted-has f rs v p.0 p.1 x (i.0, (h.same (less f x i.0 v)).1 i.1),
              ) in
              record {
                within = subst (HasRows (IsWithin f d)) e (rows-append (IsWithin f d) (row_vectors ms) (v ∷ []) h.within (w, tt));
                form = new;
                reduced = inserted-reduced f rs v p.0 h.reduced p.1 p.2;
                same = subst (λ xs. AreSame (IsInSpan f (row_vectors new)) (IsInSpan f xs)) e both;
                count = omega (arith, n, m, k);
                independent = subst (IsIndependentList f) e (ind-more f (row_vectors ms) v h.independent out);
              }
        ]

    past-of : (p : ℕ) (rs : List (ℕ × (ℕ → K))) → ArePast f p rs → AllPast p rs
    past-of p [] a = tt
    past-of p (r ∷ rs) a = (a.0, past-of p rs a.2)

    rising-of : (rs : List (ℕ × (ℕ → K))) → IsReduced f rs → PivotsBelow d rs → AreRising d rs
    rising-of [] r b = tt
    rising-of (x ∷ rs) r b = (b.0, past-of x.0 rs r.1, rising-of rs r.2 b.1)

    module _ (rs : List (ℕ × (ℕ → K))) where
      -- the columns have no pivot, and are below w
      AreFree : ℕ → List ℕ → Type 0
      AreFree w [] = Unit {0}
      AreFree w (u ∷ us) = (u < w) × (is_pivot u rs ≡ false) × AreFree w us

      free-later : (w : ℕ) (us : List ℕ) → AreFree w us → AreFree (suc w) us
      unfolding AreFree
      free-later w [] a = tt
      free-later w (u ∷ us) a = (let l : u < w = a.0 in omega (arith, l), a.1, free-later w us a.2)

      free-append : (w : ℕ) (us : List ℕ) (c : ℕ) → AreFree w us → c < w → is_pivot c rs ≡ false → AreFree w (us ++ c ∷ [])
      unfolding AreFree
      free-append w [] c a l h = (l, h, tt)
      free-append w (u ∷ us) c a l h = (a.0, a.1, free-append w us c a.2 l h)

      columns-free : (w : ℕ) → AreFree w (free_columns w rs)
      unfolding AreFree
      columns-free zero = tt
      columns-free (suc w) =
          let later : AreFree (suc w) (free_columns w rs) = free-later w (free_columns w rs) (columns-free w) in
          let own : w < suc w = omega arith in
          (elim (is_pivot w rs) as (λ b. (is_pivot w rs ≡ b) → AreFree (suc w) (if b then free_columns w rs else free_columns w rs ++ w ∷ [])) [
            | true ↦ λ h. later
            | false ↦ λ h. free-append (suc w) (free_columns w rs) w later own h
          ]) refl

      unit-clear : (w : ℕ) (ss : List (ℕ × (ℕ → K))) → is_pivot w ss ≡ false → IsClear f ss (unit_vector f w)
      unit-clear w [] h = tt
      unit-clear w (x ∷ ss) h =
          (unit-other f w x.0 (λ e. numbers-differ w x.0 (or-left (nat_eq w x.0) (is_pivot w ss) h) (sym e)), unit-clear w ss (or-right (nat_eq w x.0) (is_pivot w ss) h))

      less-clear : (v : ℕ → K) (k : K) (u : ℕ → K) (ss : List (ℕ × (ℕ → K))) → IsClear f ss u → IsClear f ss v → IsClear f ss (less f v k u)
      less-clear v k u [] a b = tt
      less-clear v k u (x ∷ ss) a b = (less-at f v k u x.0 a.0 ∙ b.0, less-clear v k u ss a.1 b.1)

      -- a member of the span of the rows and of unit vectors at columns without pivot other than w, which is 0 at the pivots, is 0 at w
      site-nought : (xs : List (ℕ → K)) → IsReduced f rs → AreSame (IsInSpan f (row_vectors rs)) (IsInSpan f xs) → (w : ℕ) (us : List ℕ) → AreFree w us
          → (v : ℕ → K) → IsInSpan f (map (unit_vector f) us ++ xs) v → IsClear f rs v → v w ≡ f.nought
      unfolding AreFree
      site-nought xs r e w [] a v h z = clear-nought f rs v r ((e v).1 h) z w
      site-nought xs r e w (u ∷ us) a v h z =
          let n : w ≡ u → ⊥ = λ t. let l : u < w = a.0 in absurd (omega (arith, l, t)) in
          sym (less-at f v h.0 (unit_vector f u) w (unit-other f u w n))
          ∙ site-nought xs r e w us a.2 (less f v h.0 (unit_vector f u)) h.1 (less-clear v h.0 (unit_vector f u) rs (unit-clear u rs a.1) z)

      swap-span : (xs ys : List (ℕ → K)) (v : ℕ → K) → IsInSpan f (xs ++ ys) v → IsInSpan f (ys ++ xs) v
      swap-span xs ys = span-within f (xs ++ ys) (ys ++ xs) (rows-append (IsInSpan f (ys ++ xs)) xs ys (back-rows f ys xs) (front-rows f ys xs))

      site-new : (xs : List (ℕ → K)) → IsReduced f rs → AreSame (IsInSpan f (row_vectors rs)) (IsInSpan f xs) → (w : ℕ) → is_pivot w rs ≡ false
          → IsInSpan f (xs ++ map (unit_vector f) (free_columns w rs)) (unit_vector f w) → ⊥
      site-new xs r e w p h =
          let t : unit_vector f w w ≡ f.nought =
          site-nought xs r e w (free_columns w rs) (columns-free w) (unit_vector f w) (swap-span xs (map (unit_vector f) (free_columns w rs)) (unit_vector f w) h) (unit-clear w rs p) in
          let own : unit_vector f w w ≡ f.unit = ap (λ b. if b then f.unit else f.nought) (eq-self w) in
          unit-not-nought f (sym own ∙ t)

      sites-independent : (xs : List (ℕ → K)) → IsReduced f rs → AreSame (IsInSpan f (row_vectors rs)) (IsInSpan f xs) → IsIndependentList f xs
          → (w : ℕ) → IsIndependentList f (xs ++ map (unit_vector f) (free_columns w rs))
      sites-independent xs r e ind zero = subst (IsIndependentList f) (sym (append-nil xs)) ind
      sites-independent xs r e ind (suc w) =
          let old = sites-independent xs r e ind w in
          let us = free_columns w rs in
          (elim (is_pivot w rs) as (λ b. (is_pivot w rs ≡ b) → IsIndependentList f (xs ++ map (unit_vector f) (if b then us else us ++ w ∷ []))) [
            | true ↦ λ h. old
            | false ↦ λ h.
                let same : (xs ++ map (unit_vector f) us) ++ unit_vector f w ∷ [] ≡ xs ++ map (unit_vector f) (us ++ w ∷ []) =
                append_assoc xs (map (unit_vector f) us) (unit_vector f w ∷ []) ∙ ap (λ ys. xs ++ ys) (sym (map-append (unit_vector f) us (w ∷ []))) in
                subst (IsIndependentList f) same (ind-more f (xs ++ map (unit_vector f) us) (unit_vector f w) old (site-new xs r e w h))
          ]) refl

      -- a vector that is 0 at each pivot, by the unit vectors at the other columns
      free-member : (P : (ℕ → K) → Type 0) (w j : ℕ) → HasRows P (map (unit_vector f) (free_columns w rs)) → j < w → is_pivot j rs ≡ false → P (unit_vector f j)
      free-member P zero j a l h = absurd (omega arith)
      free-member P (suc w) j a l h =
          let us = free_columns w rs in
          let cut : HasRows P (map (unit_vector f) (us ++ w ∷ [])) → HasRows P (map (unit_vector f) us ++ unit_vector f w ∷ []) = subst (HasRows P) (map-append (unit_vector f) us (w ∷ [])) in
          let both : (b : Bool) → is_pivot w rs ≡ b → HasRows P (map (unit_vector f) (if b then us else us ++ w ∷ [])) → HasRows P (map (unit_vector f) us) × (b ≡ false → P (unit_vector f w)) =
          elim [
            | true ↦ λ t x. (x, λ y. let z : true ≡ false = y in absurd cc)
            | false ↦ λ t x. (rows-front P (map (unit_vector f) us) (unit_vector f w ∷ []) (cut x), λ _. (rows-back P (map (unit_vector f) us) (unit_vector f w ∷ []) (cut x)).0)
          ] in
          let parts = both (is_pivot w rs) refl a in
          elim (dec j w) [
            | inl m ↦ free-member P w j parts.0 m h
            | inr m ↦
                let e : j ≡ w = omega (arith, l, m) in
                subst (λ (i : ℕ). P (unit_vector f i)) (sym e) (parts.1 (ap (λ i. is_pivot i rs) (sym e) ∙ h))
          ]

      clear-at : (ss : List (ℕ × (ℕ → K))) (v : ℕ → K) (p : ℕ) → IsClear f ss v → is_pivot p ss ≡ true → v p ≡ f.nought
      clear-at [] v p c h = let t : false ≡ true = h in absurd cc
      clear-at (x ∷ ss) v p c h =
          elim (eqb_tells p x.0) [
            | inl m ↦ ap v m.1 ∙ c.0
            | inr m ↦ clear-at ss v p c.1 (sym (ap (λ b. b || is_pivot p ss) m.0) ∙ h)
          ]

    -- a vector by its columns
    columns-sum : (P : (ℕ → K) → Type 0) → IsSubspace f P → (n : ℕ) (b : ℕ → K) → IsWithin f n b → ((j : ℕ) → j < n → (b j ≡ f.nought) ⊎ P (unit_vector f j)) → P b
    columns-sum P s zero b w h = subst P (sym (funext (λ j. w j (omega arith)))) s.has_nought
    columns-sum P s (suc n) b w h =
        let u : ℕ → K = unit_vector f n in
        let own : u n ≡ f.unit = ap (λ t. if t then f.unit else f.nought) (eq-self n) in
        let at : (j : ℕ) → (j ≡ n → ⊥) → less f b (b n) u j ≡ b j = λ j m. less-at f b (b n) u j (unit-other f n j m) in
        let cut : IsWithin f n (less f b (b n) u) =
        λ j l. elim (at_or_past n j l) [
          | inl e ↦ subst (λ (i : ℕ). less f b (b n) u i ≡ f.nought) (sym e) (ap (λ x. f.plus (b n) (f.neg (f.times (b n) x))) own ∙ less-own f (b n))
          | inr m ↦ at j (λ e. absurd (omega (arith, m, e))) ∙ w j m
        ] in
        let rest : P (less f b (b n) u) =
        columns-sum P s n (less f b (b n) u) cut
        (λ j l. elim (h j (omega (arith, l))) [
          | inl z ↦ inl (at j (λ e. absurd (omega (arith, l, e))) ∙ z)
          | inr p ↦ inr p
        ]) in
        elim (h n (omega arith)) [
          | inl z ↦
              let e : less f b (b n) u ≡ b = funext (λ j. ap (λ c. f.plus (b j) (f.neg (f.times c (u j)))) z ∙ zero-times (b j) (u j)) in
              subst P e rest
          | inr p ↦ has_back f P s b (b n) u rest p
        ]
      where
        zero-times : (x y : K) → f.plus x (f.neg (f.times f.nought y)) ≡ x
        zero-times x y = rw (nought-times f y, neg-nought f) (f.plus-nought x)

  module _ (s : AtomSpace) (ws : List (ℕ → K)) (ms : List (ℕ × (ℕ → K))) (sites : List ℕ) (h : AreModes f s ws ms sites) where
    abbrev d : ℕ
    d = size_of s

    rows-of-pairs : (cs : List (ℕ × (ℕ → K))) → HasRows (IsWithin f d) (row_vectors cs) → EachPair (λ c. IsWithin f d c.1) cs
    rows-of-pairs [] a = tt
    rows-of-pairs (c ∷ cs) a = (a.0, rows-of-pairs cs a.1)

    candidates-within : (j : ℕ) (vs : List (ℕ → K)) (cs : List (ℕ × (ℕ → K))) → AreRangeRows f s j vs cs → HasRows (IsWithin f d) (row_vectors cs)
    candidates-within j [] cs k = subst (λ xs. HasRows (IsWithin f d) (row_vectors xs)) (sym k) tt
    candidates-within j (w ∷ vs) cs k =
        let e : row_vectors cs ≡ row_vectors k.0 ++ row_vectors k.2.0 = ap row_vectors k.2.2 ∙ vectors-append (marked j k.0) k.2.0 ∙ ap (λ xs. xs ++ row_vectors k.2.0) (vectors-marked j k.0) in
        subst (HasRows (IsWithin f d)) (sym e) (rows-append (IsWithin f d) (row_vectors k.0) (row_vectors k.2.0) k.1.form.within (candidates-within (suc j) vs k.2.0 k.2.1))

    form-of-modes : HasForm d ms
    form-of-modes =
        let cs = h.irreps.0 in
        kept-each f (HasForm d) (λ c. IsWithin f d c.1) (λ xs c p a out. more-form d xs c p a out) [] cs ms (rows-of-pairs cs (candidates-within 0 ws cs h.irreps.1)) h.irreps.2 (none-form d)

    same-form : form-of-modes.form ≡ h.free.0
    same-form =
        let a = form-of-modes in
        let b = h.free.1 in
        reduced-unique f a.form h.free.0 a.reduced b.form.reduced (λ v k. (b.spans v).1 ((a.same v).0 k)) (λ v k. (a.same v).1 ((b.spans v).0 k))

    pub modes-count : length ms + length sites ≡ d
    modes-count =
        let rs = h.free.0 in
        let form = h.free.1.form in
        let e : length rs ≡ length ms = ap length (sym same-form) ∙ form-of-modes.count in
        let n : length (free_columns d rs) + length rs ≡ d = free-count d rs (rising-of d rs form.reduced form.pivots) in
        let k : length sites ≡ length (free_columns d rs) = ap length h.free.2 in
        omega (arith, e, n, k)

    all-is : row_vectors ms ++ map (unit_vector f) (free_columns d h.free.0) ≡ all_modes f ms sites
    all-is = ap (λ us. row_vectors ms ++ map (unit_vector f) us) (sym h.free.2)

    pub modes-length : length (all_modes f ms sites) ≡ d
    modes-length =
        let e : length (row_vectors ms ++ map (unit_vector f) sites) ≡ length (row_vectors ms) + length (map (unit_vector f) sites) = length-append (row_vectors ms) (map (unit_vector f) sites) in
        let k : length (row_vectors ms) ≡ length ms = vectors-length ms in
        let l : length (map (unit_vector f) sites) ≡ length sites = rw length-map refl in
        let n : length ms + length sites ≡ d = modes-count in
        omega (arith, e, k, l, n)

    pub modes-independent : AreIndependent f d (vector_at f (all_modes f ms sites))
    modes-independent =
        let b = h.free.1 in
        let ind : IsIndependentList f (row_vectors ms ++ map (unit_vector f) (free_columns d h.free.0)) =
        sites-independent d h.free.0 (row_vectors ms) b.form.reduced b.spans form-of-modes.independent d in
        subst (λ (n : ℕ). AreIndependent f n (vector_at f (all_modes f ms sites))) modes-length (subst (IsIndependentList f) all-is ind)

    units-within : (w : ℕ) (us : List ℕ) → AreFree d h.free.0 d us → HasRows (IsWithin f d) (map (unit_vector f) us)
    unfolding AreFree
    units-within w [] a = tt
    units-within w (u ∷ us) a =
        (λ j l. unit-other f u j (λ e. let k : u < d = a.0 in absurd (omega (arith, k, l, e))), units-within w us a.2)

    pub modes-span : AreSame (IsInSpan f (all_modes f ms sites)) (IsWithin f d)
    modes-span v =
        let rs = h.free.0 in
        let b = h.free.1 in
        let units : List (ℕ → K) = map (unit_vector f) (free_columns d rs) in
        let all : List (ℕ → K) = row_vectors ms ++ units in
        let P : (ℕ → K) → Type 0 = IsInSpan f all in
        let sub : IsSubspace f P = span-subspace f all in
        let to_all : (x : ℕ → K) → IsInSpan f (row_vectors rs) x → P x = λ x k. span-within f (row_vectors ms) all (front-rows f (row_vectors ms) units) x ((b.spans x).0 k) in
        let rows : HasRows (IsWithin f d) all = rows-append (IsWithin f d) (row_vectors ms) units form-of-modes.within (units-within d (free_columns d rs) (columns-free d rs d)) in
        let both : AreSame P (IsWithin f d) =
        λ x. (
          span-least f (IsWithin f d) (within-subspace f d) all rows x,
          λ k.
              let left : ℕ → K = reduce f rs x in
              let inside : IsWithin f d left = reduce-has f (IsWithin f d) (within-subspace f d) rs b.form.within x k in
              let clear : IsClear f rs left = reduce-clear f rs x b.form.reduced in
              let part : P left =
              columns-sum d P sub d left inside (λ j l. elim (pivot-or (is_pivot j rs)) [
                | inl t ↦ inl (clear-at d rs rs left j clear t)
                | inr t ↦ inr (free-member d rs P d j (back-rows f (row_vectors ms) units) l t)
              ]) in
              has_back f P sub x f.unit left (to_all (less f x f.unit left) (reduce-differs f rs x)) part,
        ) in
        subst (λ xs. AreSame (IsInSpan f xs) (IsWithin f d)) all-is both v
      where
        pivot-or : (b : Bool) → (b ≡ true) ⊎ (b ≡ false)
        pivot-or true = inl refl
        pivot-or false = inr refl

    pub modes-sums : (j : ℕ) → j ≤ length ws → AreSame (IsInSpan f (row_vectors (before_irrep j ms))) (IsInSum f s (take j ws))
    modes-sums = kept-before f s ws h.irreps.0 ms h.irreps.1 h.irreps.2
