-- What free vectors obey.
--
-- free-past: the free vector of a column is 0 before the pivots, but at the column
-- free-other: at a column without pivot it is 1 where that is its own, else 0
-- free_columns-at, column-held: the free columns are those below the width without pivot
-- free-count: there are as many as columns less rows
-- free-span: a row that vanishes on the free basis of a form is in its span
use Rattle.std.proofs.Common.{◌≡◌, ℕ, suc, zero, ◌<◌, ◌≤◌, inl, inr, ◌||◌, ◌+◌, lt-ltb, le-ltb, ltb, Bool, true, false, refl, sym, ◌∙◌, ap, subst, List, [], ◌∷◌, ◌++◌, length, arith, nat_eq, if◌then◌else◌}
use Rattle.std.proofs.lemmas.Bool.Decides.{eqb_tells}
use Rattle.std.specs.List.{slice_index}
use Rattle.cyclo24.specs.FieldOn.{FieldOn}
use Rattle.cyclo24.specs.FieldLaws.{less-at-nought}
use Rattle.lin_alg.specs.Spans.{row_vectors, IsInSpan, HasRows}
use Rattle.lin_alg.specs.Reduced.{ArePast, IsClear, IsWithin, IsForm, reduce, is_pivot, free_columns}
use Rattle.lin_alg.specs.InsertLaws.{reduce-has, reduce-clear, member-reduce}
use Rattle.lin_alg.specs.UnionLaws.{lower}
use Rattle.lin_alg.specs.SpanLaws.{order}
use Rattle.lin_alg.specs.Equations.{dot, unit_vector, free_vector}
use Rattle.lin_alg.specs.EquationLaws.{unit-other, eq-self, eq-other, dec, dot-clear, free-vanishes, vanish-subspace, within-subspace}

or-false : (a b : Bool) → (a || b) ≡ false → (a ≡ false) × (b ≡ false)
or-false true b h = let e : true ≡ false = h in absurd cc
or-false false b h = (refl, h)

same-differ : (d p : ℕ) → nat_eq d p ≡ false → d ≡ p → ⊥
same-differ d p h e =
    let t : true ≡ false = sym (ap (nat_eq d) (sym e) ∙ eq-self d) ∙ h in cc

module _ {K : Type 0} (f : FieldOn K) where
  -- taking a multiple of a unit vector away changes nothing elsewhere
  unit-apart : (x b : K) (p j : ℕ) → (j ≡ p → ⊥) → f.plus x (f.neg (f.times b (unit_vector f p j))) ≡ x
  unit-apart x b p j n = ap (λ z. f.plus x (f.neg (f.times b z))) (unit-other f p j n) ∙ less-at-nought f x b

  pub free-past : (rs : List (ℕ × (ℕ → K))) (c p : ℕ) → (p ≡ c → ⊥) → ArePast f p rs → free_vector f rs c p ≡ f.nought
  free-past [] c p n a = unit-other f c p n
  free-past (r ∷ rs) c p n a =
      let d : p ≡ r.0 → ⊥ = λ e. let l : p < r.0 = a.0 in absurd (omega (arith, e, l)) in
      unit-apart (free_vector f rs c p) (r.1 c) r.0 p d ∙ free-past rs c p n a.2

  pub free-other : (rs : List (ℕ × (ℕ → K))) (c d : ℕ) → is_pivot d rs ≡ false → free_vector f rs c d ≡ unit_vector f c d
  free-other [] c d h = refl
  free-other (r ∷ rs) c d h =
      let both = or-false (nat_eq d r.0) (is_pivot d rs) h in
      unit-apart (free_vector f rs c d) (r.1 c) r.0 d (same-differ d r.0 both.0) ∙ free-other rs c d both.1

-- j is an entry of the list
Held : List ℕ → ℕ → Type 0
Held cs j = (i : ℕ) × (i < length cs) × (slice_index cs i ≡ j)

held-first : (cs : List ℕ) (c j : ℕ) → Held cs j → Held (cs ++ c ∷ []) j
unfolding Held
held-first [] c j h = let l : h.0 < 0 = h.1 in absurd (omega (arith, l))
held-first (d ∷ cs) c j (zero, l, e) = (zero, omega arith, e)
held-first (d ∷ cs) c j (suc i, l, e) =
    let l' : i < length cs = omega (arith, l) in
    let k = held-first cs c j (i, l', e) in
    let m : k.0 < length (cs ++ c ∷ []) = k.1 in
    (suc k.0, omega (arith, m), k.2)

held-last : (cs : List ℕ) (c : ℕ) → Held (cs ++ c ∷ []) c
unfolding Held
held-last [] c = (zero, omega arith, refl)
held-last (d ∷ cs) c =
    let k = held-last cs c in
    let m : k.0 < length (cs ++ c ∷ []) = k.1 in
    (suc k.0, omega (arith, m), k.2)

module _ {V : Type 0} where
  AllFree : ℕ → List (ℕ × V) → List ℕ → Type 0
  AllFree w rs [] = Unit {0}
  AllFree w rs (c ∷ cs) = (c < w) × (is_pivot c rs ≡ false) × AllFree w rs cs

  all-later : (w : ℕ) (rs : List (ℕ × V)) (cs : List ℕ) → AllFree w rs cs → AllFree (suc w) rs cs
  unfolding AllFree
  all-later w rs [] a = tt
  all-later w rs (c ∷ cs) a = (let l : c < w = a.0 in omega (arith, l), a.1, all-later w rs cs a.2)

  all-append : (w : ℕ) (rs : List (ℕ × V)) (cs : List ℕ) (c : ℕ) → AllFree w rs cs → c < w → is_pivot c rs ≡ false → AllFree w rs (cs ++ c ∷ [])
  unfolding AllFree
  all-append w rs [] c a l h = (l, h, tt)
  all-append w rs (d ∷ cs) c a l h = (a.0, a.1, all-append w rs cs c a.2 l h)

  columns-free : (w : ℕ) (rs : List (ℕ × V)) → AllFree w rs (free_columns w rs)
  unfolding AllFree
  columns-free zero rs = tt
  columns-free (suc w) rs =
      let below : AllFree (suc w) rs (free_columns w rs) = all-later w rs (free_columns w rs) (columns-free w rs) in
      let own : w < suc w = omega arith in
      (elim (is_pivot w rs) as (λ b. (is_pivot w rs ≡ b) → AllFree (suc w) rs (if b then free_columns w rs else free_columns w rs ++ w ∷ [])) [
        | true ↦ λ h. below
        | false ↦ λ h. all-append (suc w) rs (free_columns w rs) w below own h
      ]) refl

  all-at : (w : ℕ) (rs : List (ℕ × V)) (cs : List ℕ) → AllFree w rs cs → (i : ℕ) → i < length cs → (slice_index cs i < w) × (is_pivot (slice_index cs i) rs ≡ false)
  unfolding AllFree
  all-at w rs [] a i l = absurd (omega arith)
  all-at w rs (c ∷ cs) a zero l = (a.0, a.1)
  all-at w rs (c ∷ cs) a (suc i) l = all-at w rs cs a.2 i (omega arith)

  -- each of the free columns is below the width, and no pivot
  pub free_columns-at : (w : ℕ) (rs : List (ℕ × V)) (i : ℕ) → i < length (free_columns w rs) →
      (slice_index (free_columns w rs) i < w) × (is_pivot (slice_index (free_columns w rs) i) rs ≡ false)
  free_columns-at w rs i l = all-at w rs (free_columns w rs) (columns-free w rs) i l

  -- each column below the width without pivot is one of the free columns
  pub column-held : (w : ℕ) (rs : List (ℕ × V)) (j : ℕ) → j < w → is_pivot j rs ≡ false → (i : ℕ) × (i < length (free_columns w rs)) × (slice_index (free_columns w rs) i ≡ j)
  unfolding Held
  column-held zero rs j l h = absurd (omega (arith, l))
  column-held (suc w) rs j l h =
      let rest : (is_pivot w rs ≡ true → Held (free_columns w rs) j) × (is_pivot w rs ≡ false → Held (free_columns w rs ++ w ∷ []) j) =
      elim (lower j w l) [
        | inl m ↦ let k : Held (free_columns w rs) j = column-held w rs j m h in (λ _. k, λ _. held-first (free_columns w rs) w j k)
        | inr e ↦ (
          λ t. let t' : true ≡ false = sym t ∙ ap (λ z. is_pivot z rs) (sym e) ∙ h in absurd cc,
          λ _. subst (Held (free_columns w rs ++ w ∷ [])) (sym e) (held-last (free_columns w rs) w),
        )
      ] in
      (elim (is_pivot w rs) as (λ b. (is_pivot w rs ≡ b) → Held (if b then free_columns w rs else free_columns w rs ++ w ∷ []) j) [
        | true ↦ rest.0
        | false ↦ rest.1
      ]) refl

module _ {K : Type 0} (f : FieldOn K) where
  clear-at : (rs : List (ℕ × (ℕ → K))) (v : ℕ → K) (p : ℕ) → IsClear f rs v → is_pivot p rs ≡ true → v p ≡ f.nought
  clear-at [] v p c h = let t : false ≡ true = h in absurd cc
  clear-at (r ∷ rs) v p c h =
      elim (eqb_tells p r.0) [
        | inl m ↦ ap v m.1 ∙ c.0
        | inr m ↦ clear-at rs v p c.1 (sym (ap (λ b. b || is_pivot p rs) m.0) ∙ h)
      ]

  -- a row that vanishes on the free basis of a form is in its span
  pub free-span : (w : ℕ) (rs : List (ℕ × (ℕ → K))) (x : ℕ → K) → IsForm f w rs → IsWithin f w x →
      ((i : ℕ) → i < length (free_columns w rs) → dot f w x (free_vector f rs (slice_index (free_columns w rs) i)) ≡ f.nought) → IsInSpan f (row_vectors rs) x
  free-span w rs x form within h =
      member-reduce f rs x (λ j. elim (dec j w) [
        | inr l ↦ reduce-has f (IsWithin f w) (within-subspace f w) rs form.within x within j l
        | inl l ↦
            (elim (is_pivot j rs) as (λ b. (is_pivot j rs ≡ b) → reduce f rs x j ≡ f.nought) [
              | true ↦ λ p. clear-at rs (reduce f rs x) j (reduce-clear f rs x form.reduced) p
              | false ↦ λ p.
                  let k = column-held w rs j l p in
                  let v : ℕ → K = free_vector f rs j in
                  let rows : HasRows (λ y. dot f w y v ≡ f.nought) (row_vectors rs) = free-vanishes f w rs j l form.pivots form.reduced in
                  let own : dot f w x v ≡ f.nought = subst (λ (z : ℕ). dot f w x (free_vector f rs z) ≡ f.nought) k.2 (h k.0 k.1) in
                  sym (dot-clear f w rs (reduce f rs x) j l form.pivots (reduce-clear f rs x form.reduced))
                  ∙ reduce-has f (λ y. dot f w y v ≡ f.nought) (vanish-subspace f w v) rs rows x own
            ]) refl
      ])

-- each pivot is past p
abbrev pub AllPast : {V : Type 0} → ℕ → List (ℕ × V) → Type 0
AllPast p [] = Unit {0}
AllPast p (r ∷ rs) = (p < r.0) × AllPast p rs

-- the pivots rise, and are below w
abbrev pub AreRising : {V : Type 0} → ℕ → List (ℕ × V) → Type 0
AreRising w [] = Unit {0}
AreRising w (r ∷ rs) = (r.0 < w) × AllPast r.0 rs × AreRising w rs

-- how many pivots are below w
abbrev below : {V : Type 0} → ℕ → List (ℕ × V) → ℕ
below w [] = 0
below w (r ∷ rs) = if ltb r.0 w then suc (below w rs) else below w rs

abbrev digit : Bool → ℕ
digit b = if b then 1 else 0

length-last : (xs : List ℕ) (x : ℕ) → length (xs ++ x ∷ []) ≡ length xs + 1
length-last [] x = refl
length-last (y ∷ xs) x = let e : length (xs ++ x ∷ []) ≡ length xs + 1 = length-last xs x in omega (arith, e)

module _ {V : Type 0} where
  past-none : (p : ℕ) (rs : List (ℕ × V)) → AllPast p rs → is_pivot p rs ≡ false
  past-none p [] a = refl
  past-none p (r ∷ rs) a =
      let n : p ≡ r.0 → ⊥ = λ e. let l : p < r.0 = a.0 in absurd (omega (arith, e, l)) in
      λ i. eq-other p r.0 n i || past-none p rs a.1 i

  -- one more column has one more pivot where it is one
  below-step : (w v : ℕ) (rs : List (ℕ × V)) → AreRising v rs → below (suc w) rs ≡ below w rs + digit (is_pivot w rs)
  below-step w v [] a = refl
  below-step w v (r ∷ rs) a =
      let rest : below (suc w) rs ≡ below w rs + digit (is_pivot w rs) = below-step w v rs a.2 in
      let more : ℕ → Bool → ℕ = λ n b. if b then suc n else n in
      elim (order r.0 w) [
        | inl l ↦
            let n : w ≡ r.0 → ⊥ = λ e. absurd (omega (arith, e, l)) in
            let l' : r.0 < suc w = omega (arith, l) in
            ap (λ b. if b then suc (below (suc w) rs) else below (suc w) rs) (lt-ltb r.0 (suc w) l')
            ∙ (let e : suc (below (suc w) rs) ≡ suc (below w rs) + digit (is_pivot w rs) = omega (arith, rest) in e)
            ∙ (λ i. (if sym (lt-ltb r.0 w l) i then suc (below w rs) else below w rs) + digit (sym (eq-other w r.0 n) i || is_pivot w rs))
        | inr (inl e) ↦
            let l' : r.0 < suc w = omega (arith, e) in
            let g : w ≤ r.0 = omega (arith, e) in
            let own : nat_eq w r.0 ≡ true = ap (nat_eq w) e ∙ eq-self w in
            let none : is_pivot w rs ≡ false = ap (λ z. is_pivot z rs) (sym e) ∙ past-none r.0 rs a.1 in
            ap (λ b. if b then suc (below (suc w) rs) else below (suc w) rs) (lt-ltb r.0 (suc w) l')
            ∙ ap suc (rest ∙ ap (λ b. below w rs + digit b) none)
            ∙ (let e' : suc (below w rs + 0) ≡ below w rs + 1 = omega arith in e')
            ∙ (λ i. (if sym (le-ltb r.0 w g) i then suc (below w rs) else below w rs) + digit (sym own i || is_pivot w rs))
        | inr (inr l) ↦
            let n : w ≡ r.0 → ⊥ = λ e. absurd (omega (arith, e, l)) in
            let g' : suc w ≤ r.0 = omega (arith, l) in
            let g : w ≤ r.0 = omega (arith, l) in
            ap (λ b. if b then suc (below (suc w) rs) else below (suc w) rs) (le-ltb r.0 (suc w) g')
            ∙ rest
            ∙ (λ i. (if sym (le-ltb r.0 w g) i then suc (below w rs) else below w rs) + digit (sym (eq-other w r.0 n) i || is_pivot w rs))
      ]

  none-below : (rs : List (ℕ × V)) → below 0 rs ≡ 0
  none-below [] = refl
  none-below (r ∷ rs) = ap (λ b. if b then suc (below 0 rs) else below 0 rs) (le-ltb r.0 0 (omega arith)) ∙ none-below rs

  all-below : (w : ℕ) (rs : List (ℕ × V)) → AreRising w rs → below w rs ≡ length rs
  all-below w [] a = refl
  all-below w (r ∷ rs) a = ap (λ b. if b then suc (below w rs) else below w rs) (lt-ltb r.0 w a.0) ∙ ap suc (all-below w rs a.2)

  columns-count : (w v : ℕ) (rs : List (ℕ × V)) → AreRising v rs → length (free_columns w rs) + below w rs ≡ w
  columns-count zero v rs a = let e : below 0 rs ≡ 0 = none-below rs in omega (arith, e)
  columns-count (suc w) v rs a =
      let rest : length (free_columns w rs) + below w rs ≡ w = columns-count w v rs a in
      let step : below (suc w) rs ≡ below w rs + digit (is_pivot w rs) = below-step w v rs a in
      (elim (is_pivot w rs) as (λ b. (below (suc w) rs ≡ below w rs + digit b) → length (if b then free_columns w rs else free_columns w rs ++ w ∷ []) + below (suc w) rs ≡ suc w) [
        | true ↦ λ h. omega (arith, rest, h)
        | false ↦ λ h. let e : length (free_columns w rs ++ w ∷ []) ≡ length (free_columns w rs) + 1 = length-last (free_columns w rs) w in omega (arith, rest, h, e)
      ]) step

  -- a form has as many free columns as columns less rows
  pub free-count : (w : ℕ) (rs : List (ℕ × V)) → AreRising w rs → length (free_columns w rs) + length rs ≡ w
  free-count w rs a = ap (λ n. length (free_columns w rs) + n) (sym (all-below w rs a)) ∙ columns-count w w rs a
