use Rattle.std.proofs.Common.{◌≡◌, ℕ, suc, zero, ◌+◌, ◌<◌, ◌≤◌, inl, inr, true, refl, sym, ◌∙◌, ap, subst, arith, List, [], ◌∷◌, ◌++◌, length, map, take, get_or, Vec, length-append}
use Rattle.std.specs.Prelude.{slice_index_or}
use Rattle.std.proofs.lemmas.List.{take_more, map-append}
use Rattle.cyclo24.specs.ExactField.{ExactField, Value}
use Rattle.cyclo24.specs.FieldOn.{FieldOn}
use Rattle.lin_alg.specs.Echelon.{EchelonView, IsEchelon, IsSpanned}
use Rattle.lin_alg.specs.Insertion.{IsWideInsert}
use Rattle.lin_alg.specs.InsertLaws.{span-rows}
use Rattle.lin_alg.specs.Rows.{vector, exact_rows, HaveWidth}
use Rattle.lin_alg.specs.Solving.{plain_rows}
use Rattle.lin_alg.specs.SpanLaws.{in_span-head}
use Rattle.lin_alg.specs.Spans.{row_vectors, IsInSpan, HasRows, AreSame}
use Rattle.mode_project.specs.AtomSpace.{AtomSpace, size_of}
use Rattle.mode_project.specs.Joined.{lines_in, joined_rows_in, AreLong, IsJoined}
use Rattle.mode_project.specs.KeptLaws.{kept-append, kept-over, kept-under, range-more}
use Rattle.mode_project.specs.ListLaws.{rows-append, vectors-append, vectors-length, span-within, front-rows, back-rows, last-same, same-more, plain-same}
use Rattle.mode_project.specs.Modes.{marked, AreRangeRows, IsKept, AreKept, AreIrrepModes, vector_at}
use Rattle.mode_project.specs.Projection.{projection, IsInRange, IsReducedFormOf}
use Rattle.mode_project.specs.Wide.{IsWideModes}
use Rattle.mode_project.specs.WideParts.{IsWideRows}
use Rattle.mode_project.proofs.RangeLemmas.{plain-equal}

module _ {A K : Type 0} (f : FieldOn K) (value : A → K) where
  rows-last : (rs : List (ℕ × List A)) (r : ℕ × List A) → exact_rows f value (rs ++ r ∷ []) ≡ exact_rows f value rs ++ (r.0, vector f value r.1) ∷ []
  rows-last [] r = refl
  rows-last (s ∷ rs) r = ap (λ z. (s.0, vector f value s.1) ∷ z) (rows-last rs r)

  pub joined-last : {Z : Type 0} (rows new : List (ℕ × Vec A Z)) (j : ℕ) (own : Vec A Z) → new ≡ rows ++ (j, own) ∷ [] → joined_rows_in f value new ≡ joined_rows_in f value rows ++ (j, vector f value own.items) ∷ []
  joined-last {Z} rows new j own e =
      let h : ℕ × Vec A Z → ℕ × List A = λ r. (r.0, r.1.items) in
      ap (λ xs. joined_rows_in f value xs) e ∙ ap (exact_rows f value) (map-append h rows ((j, own) ∷ [])) ∙ rows-last (lines_in rows) (j, own.items)

  pub long-last : (n : ℕ) (rs : List (ℕ × List A)) (r : ℕ × List A) → AreLong n rs → length r.1 ≡ n → AreLong n (rs ++ r ∷ [])
  long-last n [] r h e = (e, tt)
  long-last n (s ∷ rs) r h e = (h.0, long-last n rs r h.1 e)

  pub joined-start : {Z : Type 0} (form : EchelonView A) (rows : List (ℕ × Vec A Z)) → form.whole ≡ true → IsEchelon f value form → form.rows ≡ [] → rows ≡ [] → IsJoined f value form rows
  joined-start {Z} form rows w s er e = record {
    whole = w;
    long = subst (λ (xs : List (ℕ × Vec A Z)). AreLong form.width (lines_in xs)) (sym e) tt;
    shape = s;
    span =
        let none : AreSame (IsInSpan f []) (IsInSpan f []) = λ v. (λ h. h, λ h. h) in
        let one : AreSame (IsInSpan f []) (IsInSpan f (row_vectors (joined_rows_in f value rows))) = subst (λ (xs : List (ℕ × Vec A Z)). AreSame (IsInSpan f []) (IsInSpan f (row_vectors (joined_rows_in f value xs)))) (sym e) none in
        subst (λ (rs : List (ℕ × List A)). AreSame (IsInSpan f (row_vectors (exact_rows f value rs))) (IsInSpan f (row_vectors (joined_rows_in f value rows)))) (sym er) one;
  }

  module _ {Z : Type 0} (old new : EchelonView A) (rows : List (ℕ × Vec A Z)) (x : ℕ → K) (h : IsJoined f value old rows) (whole : new.whole ≡ true) (shape : IsEchelon f value new)
      (span : AreSame (IsSpanned f value new) (IsInSpan f (x ∷ row_vectors (exact_rows f value old.rows)))) where
    abbrev ms : List (ℕ × (ℕ → K))
    ms = joined_rows_in f value rows

    -- a row that is new
    pub joined-yes : (width : new.width ≡ old.width) (j : ℕ) (more : List (ℕ × Vec A Z)) (own : Vec A Z) → more ≡ rows ++ (j, own) ∷ [] → length own.items ≡ old.width → vector f value own.items ≡ x → IsJoined f value new more
    joined-yes width j more own e len ex =
        let vectors : row_vectors (joined_rows_in f value more) ≡ row_vectors ms ++ x ∷ [] =
        ap row_vectors (joined-last rows more j own e ∙ ap (λ v. ms ++ (j, v) ∷ []) ex) ∙ vectors-append ms ((j, x) ∷ []) in
        let line : ℕ × Vec A Z → ℕ × List A = λ r. (r.0, r.1.items) in
        let lines : lines_in more ≡ lines_in rows ++ (j, own.items) ∷ [] = ap (λ (xs : List (ℕ × Vec A Z)). lines_in xs) e ∙ map-append line rows ((j, own) ∷ []) in
        record {
          whole = whole;
          long = subst (λ (n : ℕ). AreLong n (lines_in more)) (sym width) (subst (AreLong old.width) (sym lines) (long-last old.width (lines_in rows) (j, own.items) h.long len));
          shape = shape;
          span =
              let both : AreSame (IsSpanned f value new) (IsInSpan f (row_vectors ms ++ x ∷ [])) =
              λ v. (
                λ k. (last-same f (row_vectors ms) x v).0 ((same-more f (row_vectors (exact_rows f value old.rows)) (row_vectors ms) x h.span v).0 ((span v).0 k)),
                λ k. (span v).1 ((same-more f (row_vectors (exact_rows f value old.rows)) (row_vectors ms) x h.span v).1 ((last-same f (row_vectors ms) x v).1 k)),
              ) in
              subst (λ xs. AreSame (IsSpanned f value new) (IsInSpan f xs)) (sym vectors) both;
        }

    pub kept-yes : (j : ℕ) (more : List (ℕ × Vec A Z)) → joined_rows_in f value more ≡ ms ++ (j, x) ∷ [] → (IsSpanned f value old x → ⊥) → IsKept f ms (j, x) (joined_rows_in f value more)
    kept-yes j more e out = inr (λ k. out ((h.span x).1 k), e)

    -- a row that is not
    joined-member : new.rows ≡ old.rows → IsInSpan f (row_vectors ms) x
    joined-member same =
        let in_new : IsInSpan f (row_vectors (exact_rows f value new.rows)) x = (span x).1 (in_span-head f x (row_vectors (exact_rows f value old.rows))) in
        (h.span x).0 (subst (λ (rs : List (ℕ × List A)). IsInSpan f (row_vectors (exact_rows f value rs)) x) same in_new)

    pub joined-no : new.width ≡ old.width → new.rows ≡ old.rows → IsJoined f value new rows
    joined-no width same = record {
      whole = whole;
      long = subst (λ (n : ℕ). AreLong n (lines_in rows)) (sym width) h.long;
      shape = shape;
      span = subst (λ (rs : List (ℕ × List A)). AreSame (IsInSpan f (row_vectors (exact_rows f value rs))) (IsInSpan f (row_vectors ms))) (sym same) h.span;
    }

    pub kept-no : (j : ℕ) → new.rows ≡ old.rows → IsKept f ms (j, x) ms
    kept-no j same = inl (joined-member same, refl)

  -- the rows of a form by their numbers
  pub row-at : (rows : List (ℕ × List A)) (k : ℕ) → k < length rows → (n : ℕ × (ℕ → K)) → get_or (exact_rows f value rows) k n ≡ ((slice_index_or rows k (0, [])).0, vector f value (slice_index_or rows k (0, [])).1)
  row-at [] k l n = absurd (omega (arith, l))
  row-at (r ∷ rows) zero l n = refl
  row-at (r ∷ rows) (suc k) l n = row-at rows k (omega (arith, l)) n

  pub exact-length : (rows : List (ℕ × List A)) → length (exact_rows f value rows) ≡ length rows
  exact-length [] = refl
  exact-length (r ∷ rows) = ap suc (exact-length rows)

module _ {V : Type 0} where
  marked-append : (j : ℕ) (xs ys : List (ℕ × V)) → marked j (xs ++ ys) ≡ marked j xs ++ marked j ys
  marked-append j [] ys = refl
  marked-append j (x ∷ xs) ys = ap (λ zs. (j, x.1) ∷ zs) (marked-append j xs ys)

  marked-take : (j k : ℕ) (xs : List (ℕ × V)) → take k (marked j xs) ≡ marked j (take k xs)
  marked-take j zero xs = refl
  marked-take j (suc k) [] = refl
  marked-take j (suc k) (x ∷ xs) = ap (λ zs. (j, x.1) ∷ zs) (marked-take j k xs)

  pub marked-length : (j : ℕ) (xs : List (ℕ × V)) → length (marked j xs) ≡ length xs
  marked-length j [] = refl
  marked-length j (x ∷ xs) = ap suc (marked-length j xs)

  pub marked-next : (j k : ℕ) (xs : List (ℕ × V)) (n : ℕ × V) (v : V) → k < length xs → (get_or xs k n).1 ≡ v → marked j (take (k + 1) xs) ≡ marked j (take k xs) ++ (j, v) ∷ []
  marked-next j k xs n v l e = ap (marked j) (take_more xs k n l) ∙ marked-append j (take k xs) (get_or xs k n ∷ []) ∙ ap (λ w. marked j (take k xs) ++ (j, w) ∷ []) e

module _ {K : Type 0} (f : FieldOn K) where
  pub kept-more : (ms cs mid next : List (ℕ × (ℕ → K))) (c : ℕ × (ℕ → K)) → AreKept f ms cs mid → IsKept f mid c next → AreKept f ms (cs ++ c ∷ []) next
  kept-more ms cs mid next c h k = kept-append f ms cs (c ∷ []) mid next h (next, k, refl)

  -- kept rows have the span of those before and of all rows
  pub kept-same : (ms cs kept : List (ℕ × (ℕ → K))) → AreKept f ms cs kept → AreSame (IsInSpan f (row_vectors kept)) (IsInSpan f (row_vectors (ms ++ cs)))
  kept-same ms cs kept h v =
      let e : row_vectors ms ++ row_vectors cs ≡ row_vectors (ms ++ cs) = sym (vectors-append ms cs) in
      let all : List (ℕ → K) = row_vectors ms ++ row_vectors cs in
      let over = kept-over f ms cs kept h in
      let under : HasRows (IsInSpan f all) (row_vectors kept) = kept-under f (IsInSpan f all) ms cs kept h (front-rows f (row_vectors ms) (row_vectors cs)) (back-rows f (row_vectors ms) (row_vectors cs)) in
      subst (λ xs. (IsInSpan f (row_vectors kept) v → IsInSpan f xs v) × (IsInSpan f xs v → IsInSpan f (row_vectors kept) v)) e
      (span-within f (row_vectors kept) all under v, span-within f all (row_vectors kept) (rows-append (IsInSpan f (row_vectors kept)) (row_vectors ms) (row_vectors cs) over.0 over.1) v)

  up-rows : (xs ys : List (ℕ → K)) → ((v : ℕ → K) → IsInSpan f xs v → IsInSpan f ys v) → (rs : List (ℕ → K)) → HasRows (IsInSpan f xs) rs → HasRows (IsInSpan f ys) rs
  up-rows xs ys t [] a = tt
  up-rows xs ys t (r ∷ rs) a = (t r a.0, up-rows xs ys t rs a.1)

  rows-of : (xs ys zs : List (ℕ → K)) → ((v : ℕ → K) → IsInSpan f xs v → IsInSpan f ys v) → HasRows (IsInSpan f (ys ++ zs)) xs
  rows-of xs ys zs t = up-rows ys (ys ++ zs) (span-within f ys (ys ++ zs) (front-rows f ys zs)) xs (up-rows xs ys t xs (span-rows f xs))

  append-same : (xs ys zs : List (ℕ → K)) → AreSame (IsInSpan f xs) (IsInSpan f ys) → AreSame (IsInSpan f (xs ++ zs)) (IsInSpan f (ys ++ zs))
  append-same xs ys zs t v = (
    span-within f (xs ++ zs) (ys ++ zs) (rows-append (IsInSpan f (ys ++ zs)) xs zs (rows-of xs ys zs (λ u. (t u).0)) (back-rows f ys zs)) v,
    span-within f (ys ++ zs) (xs ++ zs) (rows-append (IsInSpan f (xs ++ zs)) ys zs (rows-of ys xs zs (λ u. (t u).1)) (back-rows f xs zs)) v,
  )

  vectors-take : (k : ℕ) (cs : List (ℕ × (ℕ → K))) → row_vectors (take k cs) ≡ take k (row_vectors cs)
  vectors-take zero cs = refl
  vectors-take (suc k) [] = refl
  vectors-take (suc k) (c ∷ cs) = ap (λ xs. c.1 ∷ xs) (vectors-take k cs)

  take-past : (xs ys : List (ℕ × (ℕ → K))) (k : ℕ) → take (length xs + k) (xs ++ ys) ≡ xs ++ take k ys
  take-past [] ys k = let e : 0 + k ≡ k = omega arith in ap (λ n. take n ys) e
  take-past (x ∷ xs) ys k = (let e : suc (length xs) + k ≡ suc (length xs + k) = omega arith in ap (λ n. take n (x ∷ (xs ++ ys))) e) ∙ ap (λ zs. x ∷ zs) (take-past xs ys k)

  at-take : (k m : ℕ) (xs : List (ℕ → K)) → k < m → vector_at f (take m xs) k ≡ vector_at f xs k
  at-take k zero xs l = absurd (omega (arith, l))
  at-take k (suc m) [] l = refl
  at-take zero (suc m) (x ∷ xs) l = refl
  at-take (suc k) (suc m) (x ∷ xs) l = at-take k m xs (omega (arith, l))

  pub at-past : (xs ys : List (ℕ → K)) (k : ℕ) → vector_at f (xs ++ ys) (length xs + k) ≡ vector_at f ys k
  at-past [] ys k = let e : 0 + k ≡ k = omega arith in ap (vector_at f ys) e
  at-past (x ∷ xs) ys k = (let e : suc (length xs) + k ≡ suc (length xs + k) = omega arith in ap (vector_at f (x ∷ (xs ++ ys))) e) ∙ at-past xs ys k

  -- the first k rows of a list
  plain-take : (xs : List (ℕ → K)) (k : ℕ) → k ≤ length xs → AreSame (IsInSpan f (plain_rows (vector_at f xs) k)) (IsInSpan f (take k xs))
  plain-take xs k l =
      let n : length (take k xs) ≡ k = take-length k xs l in
      let rows : plain_rows (vector_at f (take k xs)) (length (take k xs)) ≡ plain_rows (vector_at f xs) k =
      ap (plain_rows (vector_at f (take k xs))) n ∙ plain-equal (vector_at f (take k xs)) (vector_at f xs) k (λ i m. at-take i k xs m) in
      subst (λ ys. AreSame (IsInSpan f ys) (IsInSpan f (take k xs))) rows (plain-same f (take k xs))
    where
      take-length : (k : ℕ) (xs : List (ℕ → K)) → k ≤ length xs → length (take k xs) ≡ k
      take-length zero xs l = refl
      take-length (suc k) [] l = absurd (omega (arith, l))
      take-length (suc k) (x ∷ xs) l = ap suc (take-length k xs (omega (arith, l)))

module _ (f : ExactField) (s : AtomSpace) where
  -- the rows of one irrep more
  pub modes-next : (j : ℕ) (ws next : List (ℕ → Value f)) (w : ℕ → Value f) (ms more : List (ℕ × (ℕ → Value f))) → length ws ≡ j → next ≡ ws ++ w ∷ [] → AreIrrepModes f.laws s ws ms
      → (rs : List (ℕ × (ℕ → Value f))) × IsReducedFormOf f.laws (size_of s) (IsInRange f.laws (size_of s) (projection f.laws s w)) rs × AreKept f.laws ms (marked j rs) more
      → AreIrrepModes f.laws s next more
  modes-next j ws next w ms more e en h k =
      let cs = h.0 in
      let rs = k.0 in
      let e' : 0 + length ws ≡ j = omega (arith, e) in
      let rows : AreRangeRows f.laws s 0 (ws ++ w ∷ []) (cs ++ marked j rs) = subst (λ (i : ℕ). AreRangeRows f.laws s 0 (ws ++ w ∷ []) (cs ++ marked i rs)) e' (range-more f.laws s 0 ws w cs rs h.1 k.1) in
      subst (λ xs. AreIrrepModes f.laws s xs more) (sym en) (cs ++ marked j rs, rows, kept-append f.laws [] cs (marked j rs) ms more h.2 k.2)

  -- a wide row of the range of one irrep more
  pub rows-wide : (j : ℕ) (ws all : List (ℕ → Value f)) (w : ℕ → Value f) (ms : List (ℕ × (ℕ → Value f))) → length ws ≡ j → j < length all → take (suc j) all ≡ ws ++ w ∷ [] → AreIrrepModes f.laws s ws ms
      → (rs : List (ℕ × (ℕ → Value f))) × IsReducedFormOf f.laws (size_of s) (IsInRange f.laws (size_of s) (projection f.laws s w)) rs × IsWideRows f ms (marked j rs)
      → IsWideModes f s all
  rows-wide j ws all w ms e lj en h k =
      let g = f.laws in
      let cs = h.0 in
      let rs = k.0 in
      let ds = marked j rs in
      let bad = k.2 in
      let i = bad.0 in
      let li : i < length ds = bad.1 in
      let e' : 0 + length ws ≡ j = omega (arith, e) in
      let rows : AreRangeRows g s 0 (ws ++ w ∷ []) (cs ++ ds) = subst (λ (n : ℕ). AreRangeRows g s 0 (ws ++ w ∷ []) (cs ++ marked n rs)) e' (range-more g s 0 ws w cs rs h.1 k.1) in
      let m : length (cs ++ ds) ≡ length cs + length ds = length-append cs ds in
      let lk : length cs + i < length (cs ++ ds) = omega (arith, m, li) in
      let vs = row_vectors (cs ++ ds) in
      let lv : length cs + i ≤ length vs = let t : length vs ≡ length (cs ++ ds) = vectors-length (cs ++ ds) in omega (arith, t, lk) in
      let cut : take (length cs + i) vs ≡ row_vectors cs ++ row_vectors (take i ds) =
      sym (vectors-take g (length cs + i) (cs ++ ds)) ∙ ap row_vectors (take-past g cs ds i) ∙ vectors-append cs (take i ds) in
      let same = kept-same g [] cs ms h.2 in
      let both : AreSame (IsInSpan g (row_vectors (ms ++ take i ds))) (IsInSpan g (row_vectors cs ++ row_vectors (take i ds))) =
      subst (λ xs. AreSame (IsInSpan g xs) (IsInSpan g (row_vectors cs ++ row_vectors (take i ds)))) (sym (vectors-append ms (take i ds))) (append-same g (row_vectors ms) (row_vectors cs) (row_vectors (take i ds)) same) in
      let at : vector_at g (row_vectors ds) i ≡ vector_at g vs (length cs + i) =
      sym (ap (λ xs. vector_at g xs (length cs + i)) (vectors-append cs ds) ∙ ap (λ n. vector_at g (row_vectors cs ++ row_vectors ds) (n + i)) (sym (vectors-length cs)) ∙ at-past g (row_vectors cs) (row_vectors ds) i) in
      let plain : AreSame (IsInSpan g (plain_rows (vector_at g vs) (length cs + i))) (IsInSpan g (row_vectors cs ++ row_vectors (take i ds))) =
      subst (λ xs. AreSame (IsInSpan g (plain_rows (vector_at g vs) (length cs + i))) (IsInSpan g xs)) cut (plain-take g vs (length cs + i) lv) in
      let n : suc j ≤ length all = omega (arith, lj) in
      inr (
        suc j,
        n,
        (
          cs ++ ds,
          subst (λ xs. AreRangeRows g s 0 xs (cs ++ ds)) (sym en) rows,
          (
            length cs + i,
            lk,
            bad.2,
            bad.3,
            λ v. (λ t. (plain v).1 ((both v).0 ((bad.4 v).0 t)), λ t. (bad.4 v).1 ((both v).1 ((plain v).0 t))),
            subst (λ (v : ℕ → Value f). IsWideInsert f bad.2 v) at bad.5,
          ),
        ),
      )

-- a row of a form as a vector
pub row-vector : {A : Type 0} (f : ExactField) (value : A → Value f) (rows : List (ℕ × List A)) (k : ℕ) → k < length rows → vector_at f.laws (row_vectors (exact_rows f.laws value rows)) k ≡ vector f.laws value (slice_index_or rows k (0, [])).1
row-vector f value [] k l = absurd (omega (arith, l))
row-vector f value (r ∷ rows) zero l = refl
row-vector f value (r ∷ rows) (suc k) l = row-vector f value rows k (omega (arith, l))

-- the width of a row
pub width-at : {A : Type 0} (w : ℕ) (rows : List (ℕ × List A)) (k : ℕ) → k < length rows → HaveWidth w rows → length (slice_index_or rows k (0, [])).1 ≡ w
width-at w [] k l h = absurd (omega (arith, l))
width-at w (r ∷ rows) zero l h = h.1
width-at w (r ∷ rows) (suc k) l h = width-at w rows k (omega (arith, l)) h.2

-- lists of weights
module _ {A : Type 0} (f : ExactField) (value : A → Value f) where
  pub lists-length : (lists : List (List A)) → length (map (vector f.laws value) lists) ≡ length lists
  lists-length [] = refl
  lists-length (x ∷ lists) = ap suc (lists-length lists)

  pub list-at : (lists : List (List A)) (j : ℕ) → j < length lists → vector_at f.laws (map (vector f.laws value) lists) j ≡ vector f.laws value (slice_index_or lists j [])
  list-at [] j l = absurd (omega (arith, l))
  list-at (x ∷ lists) zero l = refl
  list-at (x ∷ lists) (suc j) l = list-at lists j (omega (arith, l))

  pub lists-take : (lists : List (List A)) (j : ℕ) → j < length lists → take (suc j) (map (vector f.laws value) lists) ≡ take j (map (vector f.laws value) lists) ++ vector f.laws value (slice_index_or lists j []) ∷ []
  lists-take [] j l = absurd (omega (arith, l))
  lists-take (x ∷ lists) zero l = refl
  lists-take (x ∷ lists) (suc j) l = ap (λ ws. vector f.laws value x ∷ ws) (lists-take lists j (omega (arith, l)))

  pub lists-front : (lists : List (List A)) (j : ℕ) → j < length lists → length (take j (map (vector f.laws value) lists)) ≡ j
  lists-front [] j l = absurd (omega (arith, l))
  lists-front (x ∷ lists) zero l = refl
  lists-front (x ∷ lists) (suc j) l = ap suc (lists-front lists j (omega (arith, l)))

-- a row of a range
module _ {A : Type 0} (f : ExactField) (value : A → Value f) (j k : ℕ) (rows : List (ℕ × List A)) (l : k < length rows) where
  abbrev own : List A
  own = (slice_index_or rows k (0, [])).1

  pub range-row : marked j (take (k + 1) (exact_rows f.laws value rows)) ≡ marked j (take k (exact_rows f.laws value rows)) ++ (j, vector f.laws value own) ∷ []
  range-row =
      let n : ℕ × (ℕ → Value f) = (0, λ _. f.laws.nought) in
      let le : k < length (exact_rows f.laws value rows) = subst (λ (m : ℕ). k < m) (sym (exact-length f.laws value rows)) l in
      marked-next j k (exact_rows f.laws value rows) n (vector f.laws value own) le (ap (λ (p : ℕ × (ℕ → Value f)). p.1) (row-at f.laws value rows k l n))

  vector-of : (rs : List (ℕ × List A)) (i : ℕ) → i < length rs → vector_at f.laws (row_vectors (marked j (exact_rows f.laws value rs))) i ≡ vector f.laws value (slice_index_or rs i (0, [])).1
  vector-of [] i m = absurd (omega (arith, m))
  vector-of (r ∷ rs) zero m = refl
  vector-of (r ∷ rs) (suc i) m = vector-of rs i (omega (arith, m))

  pub range-row-wide : {Z : Type 0} (ms : List (ℕ × (ℕ → Value f))) (form : EchelonView A) (held : List (ℕ × Vec A Z)) → IsJoined f.laws value form held
      → AreKept f.laws ms (marked j (take k (exact_rows f.laws value rows))) (joined_rows_in f.laws value held)
      → (row : List A) → row ≡ own → IsWideInsert f (exact_rows f.laws value form.rows) (vector f.laws value row) → IsWideRows f ms (marked j (exact_rows f.laws value rows))
  range-row-wide {Z} ms form held h kept row e w =
      let cs = marked j (exact_rows f.laws value rows) in
      let n : length cs ≡ length rows = marked-length j (exact_rows f.laws value rows) ∙ exact-length f.laws value rows in
      let lc : k < length cs = subst (λ (m : ℕ). k < m) (sym n) l in
      let same = kept-same f.laws ms (marked j (take k (exact_rows f.laws value rows))) (joined_rows_in f.laws value held) kept in
      let cut : ms ++ marked j (take k (exact_rows f.laws value rows)) ≡ ms ++ take k cs = ap (λ xs. ms ++ xs) (sym (marked-take j k (exact_rows f.laws value rows))) in
      let both : AreSame (IsSpanned f.laws value form) (IsInSpan f.laws (row_vectors (ms ++ take k cs))) =
      subst (λ xs. AreSame (IsSpanned f.laws value form) (IsInSpan f.laws (row_vectors xs))) cut (λ v. (λ t. (same v).0 ((h.span v).0 t), λ t. (h.span v).1 ((same v).1 t))) in (
        k,
        lc,
        exact_rows f.laws value form.rows,
        (h.shape.form h.whole).reduced,
        both,
        subst (λ (v : ℕ → Value f). IsWideInsert f (exact_rows f.laws value form.rows) v) (ap (vector f.laws value) e ∙ sym (vector-of rows k l)) w,
      )
