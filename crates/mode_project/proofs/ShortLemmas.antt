use Rattle.std.proofs.Common.{◌≡◌, ℕ, ◌+◌, ◌<◌, inl, inr, sym, ◌∙◌, ap, subst, arith, List, [], ◌∷◌, ◌++◌, length, map, take, drop, get_or, Vec}
use Rattle.std.specs.Prelude.{slice_index_or}
use Rattle.std.proofs.lemmas.List.{get_or-map, map-append, take_more, take_all, drop_all, append-nil, length-map}
use Rattle.algebra.specs.NumberedGroup.{Group}
use Rattle.cyclo24.specs.ExactField.{ExactField, Value}
use Rattle.cyclo24.specs.ExactK24.{Exact24, k24, k24_laws}
use Rattle.cyclo24.specs.ExactShort.{IsShortField}
use Rattle.cyclo24.specs.K24.{exact24}
use Rattle.cyclo24.specs.declared.k24.K24.{K24}
use Rattle.lin_alg.specs.Echelon.{EchelonView}
use Rattle.lin_alg.specs.EquationLaws.{dec}
use Rattle.lin_alg.specs.Matrices.{IsClassFunction}
use Rattle.lin_alg.specs.Reduced.{free_columns}
use Rattle.lin_alg.specs.RowLaws.{vector-past}
use Rattle.lin_alg.specs.Rows.{vector, exact_rows}
use Rattle.lin_alg.specs.SpanLaws.{funext}
use Rattle.short_rows.specs.CarriedLaws.{to_long, to_short}
use Rattle.super_group.specs.Quotient.{SupercellGroup, order_of, quotient_group}
use Rattle.mode_project.specs.AtomSpace.{AtomSpace, size_of}
use Rattle.mode_project.specs.DirectionModes.{AreModesOf}
use Rattle.mode_project.specs.Joined.{lines_in, joined_rows_in, AreLong, IsJoined}
use Rattle.mode_project.specs.Modes.{AreIrrepModes, AreModes}
use Rattle.mode_project.specs.Parts.{rows_in}
use Rattle.mode_project.specs.Weights.{AreWeights, exact_weights}
use Rattle.mode_project.proofs.FinalLemmas.{weight-at, final-modes}
use Rattle.mode_project.proofs.JointLemmas.{joined-last, long-last}
use Rattle.mode_project.proofs.VectorsLemmas.{rows-length}

-- a list that is written over
pub written-over : {A : Type 0} (xs ys : List A) (n : ℕ) → length xs ≡ length ys → length ys ≡ n → take n (xs ++ drop (length xs) ys) ≡ xs
written-over xs ys n e k = ap (λ zs. take n (xs ++ zs)) (drop_all (length xs) ys (omega (arith, e))) ∙ ap (take n) (append-nil xs) ∙ take_all n xs (omega (arith, e, k))

-- lists of one length with the same exact values below it
pub vectors-same : {A B : Type 0} (u : A → Exact24) (v : B → Exact24) (xs : List A) (ys : List B) → length xs ≡ length ys → ((j : ℕ) → j < length ys → vector k24_laws u xs j ≡ vector k24_laws v ys j) → vector k24_laws u xs ≡ vector k24_laws v ys
vectors-same u v xs ys n h =
    funext (λ j. elim (dec j (length ys)) [
      | inl l ↦ h j l
      | inr l ↦ vector-past k24 u xs j (omega (arith, n, l)) ∙ sym (vector-past k24 v ys j l)
    ])

-- lists of the same exact values
module _ {A B : Type 0} (u : A → Exact24) (v : B → Exact24) (xs : List A) (ys : List B) (e : map u xs ≡ map v ys) where
  pub values-vector : vector k24_laws u xs ≡ vector k24_laws v ys
  values-vector = λ i. λ j. get_or (e i) j k24_laws.nought

  pub values-length : length xs ≡ length ys
  values-length = sym (length-map xs u) ∙ ap length e ∙ length-map ys v

-- one more of each list
module _ {A B V W : Type 0} (f : List A → V) (g : List B → V) (all : List (Vec B W)) (i : ℕ) (y : Vec B W) (l : i < length all) (is : y ≡ get_or all i y) where
  front-next : map g (rows_in (take (i + 1) all)) ≡ map g (rows_in (take i all)) ++ g y.items ∷ []
  front-next =
      ap (λ (xs : List (Vec B W)). map g (rows_in xs)) (take_more all i y l ∙ ap (λ z. take i all ++ z ∷ []) (sym is))
      ∙ ap (map g) (map-append (λ (z : Vec B W). z.items) (take i all) (y ∷ [])) ∙ map-append g (rows_in (take i all)) (y.items ∷ [])

  pub lists-next : {Z : Type 0} (old new : List (Vec A Z)) (x : Vec A Z) → new ≡ old ++ x ∷ [] → f x.items ≡ g y.items → map f (rows_in old) ≡ map g (rows_in (take i all)) → map f (rows_in new) ≡ map g (rows_in (take (i + 1) all))
  lists-next {Z} old new x e p h =
      ap (λ (xs : List (Vec A Z)). map f (rows_in xs)) e ∙ ap (map f) (map-append (λ (z : Vec A Z). z.items) old (x ∷ [])) ∙ map-append f (rows_in old) (x.items ∷ [])
      ∙ (λ k. h k ++ p k ∷ []) ∙ sym front-next

-- an item of each of two lists
pub items-same : {X Y V : Type 0} (f : X → V) (g : Y → V) (xs : List X) (ys : List Y) (j : ℕ) (d : X) (e : Y) → map f xs ≡ map g ys → j < length xs → f (slice_index_or xs j d) ≡ g (slice_index_or ys j e)
items-same f g xs ys j d e h l =
    let n : length xs ≡ length ys = sym (length-map xs f) ∙ ap length h ∙ length-map ys g in
    let m : j < length ys = omega (arith, l, n) in
    sym (get_or-map f xs j d (f d) l) ∙ ap (λ zs. get_or zs j (f d)) h ∙ get_or-map g ys j e (f d) m

-- the weights in short values
module _ {A Z W : Type 0} (exact : A → Exact24) (g : SupercellGroup) (shorts : List (Vec A Z)) (vs : List (Vec K24 W)) (lists : List (List K24)) (e : rows_in vs ≡ lists) (h : AreWeights g lists)
    (long : map length (rows_in shorts) ≡ map length (rows_in vs)) (same : map (vector k24_laws exact) (rows_in shorts) ≡ map (vector k24_laws exact24) (rows_in vs)) where
  short-inside : (j : ℕ) → j < length shorts → j < length (rows_in shorts)
  short-inside j l = subst (λ (n : ℕ). j < n) (sym (rows-length shorts)) l

  long-inside : (j : ℕ) → j < length shorts → j < length vs
  long-inside j l =
      let n : length (rows_in shorts) ≡ length (rows_in vs) = sym (length-map (rows_in shorts) length) ∙ ap length long ∙ length-map (rows_in vs) length in
      omega (arith, l, n, rows-length shorts, rows-length vs)

  pub short-count : (j : ℕ) → j < length shorts → length (slice_index_or (rows_in shorts) j []) ≡ order_of g
  short-count j l = items-same length length (rows_in shorts) (rows_in vs) j [] [] long (short-inside j l) ∙ (weight-at g vs lists e h j (long-inside j l)).count

  pub short-class : (j : ℕ) → j < length shorts → IsClassFunction (quotient_group g) (vector k24_laws exact (slice_index_or (rows_in shorts) j []))
  short-class j l =
      subst (IsClassFunction (quotient_group g)) (sym (items-same (vector k24_laws exact) (vector k24_laws exact24) (rows_in shorts) (rows_in vs) j [] [] same (short-inside j l)))
      (weight-at g vs lists e h j (long-inside j l)).class

  pub short-weights : map (vector k24_laws exact) (rows_in shorts) ≡ exact_weights lists
  short-weights = same ∙ ap exact_weights e

long-split : {A : Type 0} (n : ℕ) (rs : List (ℕ × List A)) (s : ℕ × List A) → AreLong n (rs ++ s ∷ []) → AreLong n rs × (length s.1 ≡ n)
long-split n [] s h = (tt, h.0)
long-split n (t ∷ rs) s h = ((h.0, (long-split n rs s h.1).0), (long-split n rs s h.1).1)

-- one more row with its number
module _ {A B Z W : Type 0} (u : A → Exact24) (v : B → Exact24) (all : List (ℕ × Vec B W)) (i : ℕ) (r : ℕ × Vec B W) (l : i < length all) (is : r ≡ get_or all i r) (old new : List (ℕ × Vec A Z)) (x : Vec A Z)
    (e : new ≡ old ++ (r.0, x) ∷ []) where
  all-next : take (i + 1) all ≡ take i all ++ (r.0, r.1) ∷ []
  all-next = take_more all i r l ∙ ap (λ z. take i all ++ z ∷ []) (sym is)

  pub joined-next : vector k24_laws u x.items ≡ vector k24_laws v r.1.items → joined_rows_in k24_laws u old ≡ joined_rows_in k24_laws v (take i all)
      → joined_rows_in k24_laws u new ≡ joined_rows_in k24_laws v (take (i + 1) all)
  joined-next p h = joined-last k24_laws u old new r.0 x e ∙ (λ k. h k ++ (r.0, p k) ∷ []) ∙ sym (joined-last k24_laws v (take i all) (take (i + 1) all) r.0 r.1 all-next)

  pub long-next : length x.items ≡ length r.1.items → ((n : ℕ) → AreLong n (lines_in (take i all)) → AreLong n (lines_in old))
      → (n : ℕ) → AreLong n (lines_in (take (i + 1) all)) → AreLong n (lines_in new)
  long-next p h n a =
      let line : ℕ × Vec A Z → ℕ × List A = λ z. (z.0, z.1.items) in
      let from : ℕ × Vec B W → ℕ × List B = λ z. (z.0, z.1.items) in
      let more : lines_in new ≡ lines_in old ++ (r.0, x.items) ∷ [] = ap (λ (zs : List (ℕ × Vec A Z)). lines_in zs) e ∙ map-append line old ((r.0, x) ∷ []) in
      let given : lines_in (take (i + 1) all) ≡ lines_in (take i all) ++ (r.0, r.1.items) ∷ [] = ap (λ (zs : List (ℕ × Vec B W)). lines_in zs) all-next ∙ map-append from (take i all) ((r.0, r.1) ∷ []) in
      let b = long-split n (lines_in (take i all)) (r.0, r.1.items) (subst (AreLong n) given a) in
      subst (AreLong n) (sym more) (long-last k24_laws u n (lines_in old) (r.0, x.items) (h n b.0) (p ∙ b.1))

-- what holds in a short type
module _ {A : Type 0} (f : ExactField) (value : A → Value f) (exact : A → Exact24) (e : IsShortField f value exact) where
  pub class-short : (g : Group) (xs : List A) → IsClassFunction g (vector k24_laws exact xs) → IsClassFunction g (vector f.laws value xs)
  class-short g xs h = to_short f value exact e (λ k v. IsClassFunction g (vector k.laws v xs)) h

  pub modes-long : (s : AtomSpace) (lists : List (List A)) (rows : List (ℕ × List A)) (sites : List ℕ) → AreModes f.laws s (map (vector f.laws value) lists) (exact_rows f.laws value rows) sites
      → AreModes k24_laws s (map (vector k24_laws exact) lists) (exact_rows k24_laws exact rows) sites
  modes-long s lists rows sites h = to_long f value exact e (λ k v. AreModes k.laws s (map (vector k.laws v) lists) (exact_rows k.laws v rows) sites) h

  pub direction-long : (s : AtomSpace) (w : List A) (stab : List ℕ) (rows : List (ℕ × List A)) → AreModesOf f.laws s (vector f.laws value w) stab (exact_rows f.laws value rows)
      → AreModesOf k24_laws s (vector k24_laws exact w) stab (exact_rows k24_laws exact rows)
  direction-long s w stab rows h = to_long f value exact e (λ k v. AreModesOf k.laws s (vector k.laws v w) stab (exact_rows k.laws v rows)) h

  pub found-long : {Z : Type 0} (s : AtomSpace) (lists : List (List A)) (form : EchelonView A) (rows : List (ℕ × Vec A Z)) (sites : List ℕ) → IsJoined f.laws value form rows → form.width ≡ size_of s
      → AreIrrepModes f.laws s (map (vector f.laws value) lists) (joined_rows_in f.laws value rows) → sites ≡ free_columns form.width form.rows
      → AreModes k24_laws s (map (vector k24_laws exact) lists) (joined_rows_in k24_laws exact rows) sites
  found-long s lists form rows sites h w m k = modes-long s lists (lines_in rows) sites (final-modes f value s (map (vector f.laws value) lists) form rows sites h w m k)
