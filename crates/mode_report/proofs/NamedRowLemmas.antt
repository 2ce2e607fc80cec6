-- Rows of matrices with names, as the program holds them.
use Rattle.std.proofs.Common.{◌≡◌, refl, sym, ap, ◌∙◌, ◌⊎◌, inl, inr, ℕ, zero, suc, ◌+◌, ◌-◌, ◌*◌, ◌<◌, ◌≤◌, List, [], ◌∷◌, ◌++◌, length, take, drop, get_or, map, arith, append_assoc, Some, slice_get}
use Rattle.std.specs.List.{range_with_len}
use Rattle.std.proofs.lemmas.Bool.{le-ltb}
use Rattle.std.proofs.lemmas.List.{map-append, length-append, length-map, append-nil, take_all, drop_all}
use Rattle.std.proofs.lemmas.Option.{same_Some, none-some}
use Rattle.report_buffer.specs.PieceLaws.{made-piece}
use Rattle.std.proofs.lemmas.List.FromFn.{length-map-range_with_len, get_or-map-range_with_len, map-range_with_len_more}
use Rattle.std.specs.Prelude.{cond}
use Rattle.cyclo24.specs.FieldOn.{FieldOn}
use Rattle.cyclo24.specs.declared.k24.K24.{K24}
use Rattle.cyclo24.specs.ExactK24.{Exact24, k24_laws}
use Rattle.cyclo24.specs.K24.{exact24}
use Rattle.iso_text.specs.declared.sections.IrrepText.{IrrepText}
use Rattle.lin_alg.specs.Matrix.{MatrixView, entry}
use Rattle.lin_alg.specs.Rows.{vector}
use Rattle.mode_report.specs.DirectionHeld.{matrix_rows, named_by, named_matrices}
use Rattle.mode_report.proofs.ListLemmas.{back-at, front-at}

-- past what is made of the numbers from a on
made-past : {K : Type 0} (e : ℕ → K) (a n j : ℕ) (d : K) → n ≤ j → get_or (map e (range_with_len a n)) j d ≡ d
made-past e a zero j d l = refl
made-past e a (suc n) zero d l = absurd (omega arith)
made-past e a (suc n) (suc j) d l = made-past e (a + 1) n j d (omega arith)

below-or : (j n : ℕ) → (j < n) ⊎ (n ≤ j)
below-or j n = grind arith

module _ {A K : Type 0} (f : FieldOn K) (value : A → K) where
  entry-at : (e : ℕ → K) (n : ℕ) (xs : List A) → ((j : ℕ) → n ≤ j → e j ≡ f.nought) → map value xs ≡ map e (range_with_len 0 n) → (j : ℕ) → e j ≡ vector f value xs j
  entry-at e n xs past h j = elim (below-or j n) [
    | inl l ↦ sym (ap (λ ys. get_or ys j f.nought) h ∙ get_or-map-range_with_len e 0 n j j f.nought l (omega arith))
    | inr l ↦ past j l ∙ sym (ap (λ ys. get_or ys j f.nought) h ∙ made-past e 0 n j f.nought l)
  ]

  past-columns : (m : MatrixView A) (i j : ℕ) → m.cols ≤ j → entry f value m i j ≡ f.nought
  past-columns m i j l = ap (λ b. cond b (vector f value m.entries (i * m.cols + j)) f.nought) (le-ltb j m.cols l)

  -- a row that was copied
  row-of : (m : MatrixView A) (i : ℕ) (xs : List A) → map value xs ≡ map (entry f value m i) (range_with_len 0 m.cols) → entry f value m i ≡ vector f value xs
  row-of m i xs h = λ t j. entry-at (entry f value m i) m.cols xs (past-columns m i) h j t

  row-length : (m : MatrixView A) (i : ℕ) (xs : List A) → map value xs ≡ map (entry f value m i) (range_with_len 0 m.cols) → length xs ≡ m.cols
  row-length m i xs h =
      sym (length-map xs value) ∙ ap (λ ys. length ys) h ∙ length-map-range_with_len (entry f value m i) 0 m.cols

  -- one entry more
  entry-more : (e : ℕ → K) (j : ℕ) (xs ys : List A) (x : A) → map value xs ≡ map e (range_with_len 0 j) → ys ≡ xs ++ x ∷ [] → value x ≡ e j → map value ys ≡ map e (range_with_len 0 (j + 1))
  entry-more e j xs ys x h a v = ap (map value) a ∙ map-append value xs (x ∷ []) ∙ (λ t. h t ++ v t ∷ []) ∙ sym (map-range_with_len_more e 0 j j (omega arith))

pub copied-row : (m : MatrixView K24) (i : ℕ) (xs : List K24) → map exact24 xs ≡ map (entry k24_laws exact24 m i) (range_with_len 0 m.cols) → entry k24_laws exact24 m i ≡ vector k24_laws exact24 xs
copied-row m i xs h = row-of k24_laws exact24 m i xs h

pub copied-length : (m : MatrixView K24) (i : ℕ) (xs : List K24) → map exact24 xs ≡ map (entry k24_laws exact24 m i) (range_with_len 0 m.cols) → length xs ≡ m.cols
copied-length m i xs h = row-length k24_laws exact24 m i xs h

pub copied-more : (m : MatrixView K24) (i j : ℕ) (xs ys : List K24) (x : K24) → map exact24 xs ≡ map (entry k24_laws exact24 m i) (range_with_len 0 j) → ys ≡ xs ++ x ∷ []
    → exact24 x ≡ entry k24_laws exact24 m i j → map exact24 ys ≡ map (entry k24_laws exact24 m i) (range_with_len 0 (j + 1))
copied-more m i j xs ys x h a v = entry-more k24_laws exact24 (entry k24_laws exact24 m i) j xs ys x h a v

-- ---- rows with a name

-- the rows of one matrix more
pub matrices-more : (irreps : List IrrepText) (ms : List (MatrixView K24)) (j : ℕ) (i : IrrepText) (m : MatrixView K24) → j < length irreps → j < length ms
    → named_matrices (take (j + 1) irreps) (take (j + 1) ms) ≡ named_matrices (take j irreps) (take j ms) ++ named_by (get_or irreps j i).name (get_or ms j m)
matrices-more [] ms j i m k l = absurd (omega arith)
matrices-more (x ∷ irreps) [] j i m k l = absurd (omega arith)
matrices-more (x ∷ irreps) (y ∷ ms) zero i m k l = append-nil (named_by x.name y)
matrices-more (x ∷ irreps) (y ∷ ms) (suc j) i m k l =
    let s : suc j + 1 ≡ suc (j + 1) = omega arith in
    ap (λ n. named_matrices (take n (x ∷ irreps)) (take n (y ∷ ms))) s
    ∙ ap (λ t. named_by x.name y ++ t) (matrices-more irreps ms j i m (omega arith) (omega arith))
    ∙ sym (append_assoc (named_by x.name y) (named_matrices (take j irreps) (take j ms)) (named_by (get_or irreps j i).name (get_or ms j m)))

-- how many rows a matrix has
pub named-count : (name : List ℕ) (m : MatrixView K24) → length (named_by name m) ≡ m.rows
named-count name m =
    let g : (ℕ → Exact24) → List ℕ × (ℕ → Exact24) = λ v. (name, v) in
    length-map (matrix_rows m) g ∙ length-map-range_with_len (entry k24_laws exact24 m) 0 m.rows

-- the rows of one matrix more, counted
pub count-more : (irreps : List IrrepText) (ms : List (MatrixView K24)) (j : ℕ) (m : MatrixView K24) → length irreps ≡ length ms → j < length ms
    → length (named_matrices (take (j + 1) irreps) (take (j + 1) ms)) ≡ length (named_matrices (take j irreps) (take j ms)) + (get_or ms j m).rows
count-more [] [] j m e l = absurd (omega arith)
count-more [] (y ∷ ms) j m e l = absurd (omega arith)
count-more (x ∷ irreps) [] j m e l = absurd (omega arith)
count-more (x ∷ irreps) (y ∷ ms) j m e l =
    ap (λ xs. length xs) (matrices-more (x ∷ irreps) (y ∷ ms) j x m (omega (arith, e, l)) l)
    ∙ length-append (named_matrices (take j (x ∷ irreps)) (take j (y ∷ ms))) (named_by (get_or (x ∷ irreps) j x).name (get_or (y ∷ ms) j m))
    ∙ ap (λ n. length (named_matrices (take j (x ∷ irreps)) (take j (y ∷ ms))) + n) (named-count (get_or (x ∷ irreps) j x).name (get_or (y ∷ ms) j m))

pub count-next : (irreps : List IrrepText) (ms : List (MatrixView K24)) (j now rows new : ℕ) (m : MatrixView K24) → length irreps ≡ length ms → j < length ms → m ≡ get_or ms j m → rows ≡ m.rows
    → now ≡ length (named_matrices (take j irreps) (take j ms)) → new ≡ now + rows → new ≡ length (named_matrices (take (j + 1) irreps) (take (j + 1) ms))
count-next irreps ms j now rows new m e l s r a b =
    let h = count-more irreps ms j m e l in
    b ∙ (λ t. a t + (r ∙ ap (λ (x : MatrixView K24). x.rows) s) t) ∙ sym h

pub count-whole : (irreps : List IrrepText) (ms : List (MatrixView K24)) (j now : ℕ) → length irreps ≡ length ms → length ms ≤ j → now ≡ length (named_matrices (take j irreps) (take j ms)) → now ≡ length (named_matrices irreps ms)
count-whole irreps ms j now e l a = a ∙ (λ t. length (named_matrices (take_all j irreps (omega (arith, e, l)) t) (take_all j ms l t)))

-- ---- a row by its number among all

-- there is an element
pub some-of : {X : Type 0} (xs : List X) (j : ℕ) → j < length xs → X
some-of [] j l = absurd (omega arith)
some-of (x ∷ xs) j l = x

-- the rows from matrix j on
rows-from : (irreps : List IrrepText) (ms : List (MatrixView K24)) (j : ℕ) (i : IrrepText) (m : MatrixView K24) → j < length irreps → j < length ms
    → named_matrices (drop j irreps) (drop j ms) ≡ named_by (get_or irreps j i).name (get_or ms j m) ++ named_matrices (drop (j + 1) irreps) (drop (j + 1) ms)
rows-from [] ms j i m k l = absurd (omega arith)
rows-from (x ∷ irreps) [] j i m k l = absurd (omega arith)
rows-from (x ∷ irreps) (y ∷ ms) zero i m k l = refl
rows-from (x ∷ irreps) (y ∷ ms) (suc j) i m k l =
    let s : suc j + 1 ≡ suc (j + 1) = omega arith in
    rows-from irreps ms j i m (omega arith) (omega arith)
    ∙ ap (λ n. named_by (get_or irreps j i).name (get_or ms j m) ++ named_matrices (drop n (x ∷ irreps)) (drop n (y ∷ ms))) (sym s)

-- row k of a matrix under a name
named-at : (name : List ℕ) (m : MatrixView K24) (k : ℕ) → k < m.rows → slice_get (named_by name m) k ≡ Some (name, entry k24_laws exact24 m k)
named-at name m k l =
    let e = entry k24_laws exact24 m in
    let g : (ℕ → Exact24) → List ℕ × (ℕ → Exact24) = λ v. (name, v) in
    made-piece g (matrix_rows m) k (e k) (made-piece e (range_with_len 0 m.rows) k k (range-at 0 m.rows k l ∙ (let z : 0 + k ≡ k = omega arith in ap (λ n. Some n) z)))
  where
    range-at : (a n i : ℕ) → i < n → slice_get (range_with_len a n) i ≡ Some (a + i)
    range-at a zero i h = absurd (omega arith)
    range-at a (suc n) zero h = let z : a ≡ a + 0 = omega arith in ap (λ t. Some t) z
    range-at a (suc n) (suc i) h = let s : a + 1 + i ≡ a + suc i = omega arith in range-at (a + 1) n i (omega arith) ∙ ap (λ t. Some t) s

module _ (irreps : List IrrepText) (ms : List (MatrixView K24)) (j left : ℕ) (i : IrrepText) (m : MatrixView K24) (x : List ℕ × (ℕ → Exact24)) (k : j < length irreps) (l : j < length ms) where
  -- it is one of this matrix
  pub row-here : i ≡ get_or irreps j i → m ≡ get_or ms j m → left < m.rows → slice_get (named_matrices (drop j irreps) (drop j ms)) left ≡ Some x → (i.name, entry k24_laws exact24 m left) ≡ x
  row-here a b n s =
      let rest = named_matrices (drop (j + 1) irreps) (drop (j + 1) ms) in
      let here = front-at (named_by i.name m) rest left (i.name, entry k24_laws exact24 m left) (named-at i.name m left n) in
      let from = rows-from irreps ms j i m k l ∙ (λ t. named_by (sym a t).name (sym b t) ++ rest) in
      same_Some (i.name, entry k24_laws exact24 m left) x (sym here ∙ sym (ap (λ ys. slice_get ys left) from) ∙ s)

  -- it is behind them
  pub row-behind : (rows : ℕ) → m ≡ get_or ms j m → rows ≡ m.rows → rows ≤ left → slice_get (named_matrices (drop j irreps) (drop j ms)) left ≡ Some x
      → slice_get (named_matrices (drop (j + 1) irreps) (drop (j + 1) ms)) (left - rows) ≡ Some x
  row-behind rows b r n s =
      let name = (get_or irreps j i).name in
      let rest = named_matrices (drop (j + 1) irreps) (drop (j + 1) ms) in
      let from = rows-from irreps ms j i m k l ∙ (λ t. named_by name (sym b t) ++ rest) in
      let count = named-count name m in
      let past : length (named_by name m) ≤ left = omega (arith, n, r, count) in
      let q : left - rows ≡ left - length (named_by name m) = omega (arith, r, count) in
      ap (slice_get rest) q ∙ sym (back-at (named_by name m) rest left past) ∙ sym (ap (λ ys. slice_get ys left) from) ∙ s

-- none is behind all
pub row-past : (irreps : List IrrepText) (ms : List (MatrixView K24)) (j left : ℕ) (x : List ℕ × (ℕ → Exact24)) → length irreps ≡ length ms → length ms ≤ j → slice_get (named_matrices (drop j irreps) (drop j ms)) left ≡ Some x → ⊥
row-past irreps ms j left x e l s =
    none-some x (sym (λ t. slice_get (named_matrices (drop_all j irreps (omega (arith, e, l)) t) (drop_all j ms l t)) left) ∙ s)
