use Rattle.std.proofs.Common.{◌≡◌, ℕ, suc, zero, ◌+◌, ◌<◌, ◌≤◌, inl, inr, refl, sym, ◌∙◌, ap, subst, arith, below_more, List, [], ◌∷◌, ◌++◌, length, map, get_or, Vec}
use Rattle.std.proofs.lemmas.List.{get_or_append_left, get_or_push, map-append, length-map}
use Rattle.std.specs.List.{slice_index, Contains}
use Rattle.std.specs.Prelude.{slice_index_or, IsTrue}
use Rattle.cyclo24.specs.ExactField.{ExactField, Value}
use Rattle.cyclo24.specs.TotalLaws.{total-same}
use Rattle.lin_alg.specs.EquationLaws.{dec}
use Rattle.lin_alg.specs.Equations.{unit_vector}
use Rattle.lin_alg.specs.Insertion.{IsWideInsert, IsWideReduce}
use Rattle.lin_alg.specs.Matrix.{IsWideDot}
use Rattle.lin_alg.specs.RowLaws.{vector-past}
use Rattle.lin_alg.specs.Rows.{vector}
use Rattle.lin_alg.specs.Solving.{combination, AreIndependent, joined, joined_rows, IsWideSolve}
use Rattle.lin_alg.specs.SpanLaws.{funext}
use Rattle.lin_alg.specs.Spans.{row_vectors, IsInSpan, AreSame}
use Rattle.mode_project.specs.Amplitudes.{AreAmplitudes, IsModeBasis, ArePivotColumns, cut_to, cut_row, IsWideRest, IsWideAmplitudes}
use Rattle.mode_project.specs.Joined.{lines_in, joined_rows_in, AreLong}
use Rattle.mode_project.specs.Modes.{all_modes, vector_at}
use Rattle.mode_project.proofs.AmplitudeLemmas.{cut-at, cut-past, amplitudes-hold}
use Rattle.mode_project.proofs.FoundLemmas.{lines-length, long-at}
use Rattle.mode_project.proofs.JointLemmas.{row-vector, exact-length}

module _ {A : Type 0} (f : ExactField) (value : A → Value f) where
  -- a list with one number more
  pub vector-kept : (xs : List A) (x : A) (k : ℕ) → k < length xs → vector f.laws value (xs ++ x ∷ []) k ≡ vector f.laws value xs k
  vector-kept xs x k l =
      ap (λ ys. get_or ys k f.laws.nought) (map-append value xs (x ∷ []))
      ∙ get_or_append_left (map value xs) (value x ∷ []) f.laws.nought k (subst (λ (n : ℕ). k < n) (sym (length-map xs value)) l)

  pub vector-last : (xs : List A) (x : A) (k : ℕ) → length xs ≡ k → vector f.laws value (xs ++ x ∷ []) k ≡ value x
  vector-last xs x k e =
      ap (λ ys. get_or ys k f.laws.nought) (map-append value xs (x ∷ []))
      ∙ get_or_push (map value xs) (value x) f.laws.nought k (length-map xs value ∙ e)

  -- entries by their columns are a row cut to these
  pub cut-whole : (columns : List ℕ) (v : ℕ → Value f) (xs : List A) → length xs ≡ length columns → ((k : ℕ) → k < length columns → vector f.laws value xs k ≡ v (slice_index columns k))
      → vector f.laws value xs ≡ cut_to f.laws columns v
  cut-whole columns v xs e h =
      funext (λ k. elim (dec k (length columns)) [
        | inl l ↦ h k l ∙ sym (cut-at f.laws columns v k l)
        | inr l ↦ vector-past f value xs k (subst (λ (n : ℕ). n ≤ k) (sym e) l) ∙ sym (cut-past f.laws columns v k l)
      ])

-- a row as it is held
module _ {A Z : Type 0} (f : ExactField) (value : A → Value f) (rows : List (ℕ × Vec A Z)) (i : ℕ) (l : i < length rows) (line : List A) (e : line ≡ (slice_index_or (lines_in rows) i (0, [])).1) where
  inside : i < length (lines_in rows)
  inside = subst (λ (n : ℕ). i < n) (sym (lines-length rows)) l

  pub line-long : (d : ℕ) → AreLong d (lines_in rows) → length line ≡ d
  line-long d h = ap length e ∙ long-at d (lines_in rows) i inside h

  pub line-vector : vector f.laws value line ≡ vector_at f.laws (row_vectors (joined_rows_in f.laws value rows)) i
  line-vector = ap (vector f.laws value) e ∙ sym (row-vector f value (lines_in rows) i inside)

module _ {A Z : Type 0} (f : ExactField) (value : A → Value f) (rows : List (ℕ × Vec A Z)) where
  abbrev held : List (ℕ × (ℕ → Value f))
  held = joined_rows_in f.laws value rows

  abbrev own : ℕ → ℕ → Value f
  own = vector_at f.laws (row_vectors held)

  pub joined-length : length held ≡ length rows
  joined-length = exact-length f.laws value (lines_in rows) ∙ lines-length rows

  -- what is left at a column
  pub rest-dot : (t x : ℕ → Value f) (c : ℕ) → IsWideDot f (length rows) x (λ k. own k c) → IsWideRest f held t x c
  rest-dot t x c h = inl (subst (λ (n : ℕ). IsWideDot f n x (λ k. own k c)) (sym joined-length) h)

  pub rest-difference : (t x : ℕ → Value f) (c : ℕ) (sum : Value f) → sum ≡ combination f.laws (length rows) x own c → IsTrue (f.is_wide_difference (t c) sum) → IsWideRest f held t x c
  rest-difference t x c sum e h =
      inr (subst (λ (n : ℕ). IsTrue (f.is_wide_difference (t c) (combination f.laws n x own c))) (sym joined-length) (subst (λ (y : Value f). IsTrue (f.is_wide_difference (t c) y)) e h))

module _ {A : Type 0} (f : ExactField) (value : A → Value f) where
  -- one more amplitude
  pub rest-next : (all new : List A) (y : A) (r k : ℕ) (x t : ℕ → Value f) → new ≡ all ++ y ∷ [] → length all ≡ r + k → value y ≡ t k
      → ((m : ℕ) → m < r → vector f.laws value all m ≡ x m) → ((j : ℕ) → j < k → vector f.laws value all (r + j) ≡ t j)
      → ((m : ℕ) → m < r → vector f.laws value new m ≡ x m) × ((j : ℕ) → j < k + 1 → vector f.laws value new (r + j) ≡ t j)
  rest-next all new y r k x t e n h front behind =
      let at : (m : ℕ) → vector f.laws value new m ≡ vector f.laws value (all ++ y ∷ []) m = λ m. ap (λ xs. vector f.laws value xs m) e in (
        λ m l. at m ∙ vector-kept f value all y m (omega (arith, l, n)) ∙ front m l,
        below_more (λ j. vector f.laws value new (r + j) ≡ t j) k
            (λ j l. at (r + j) ∙ vector-kept f value all y (r + j) (omega (arith, l, n)) ∙ behind j l)
            (at (r + k) ∙ vector-last f value all y (r + k) n ∙ h),
      )

module _ (f : ExactField) where
  -- sums and independence by other rows
  pub same-sum : (n m : ℕ) (a b : ℕ → ℕ → Value f) (x : ℕ → Value f) (j : ℕ) → m ≡ n → ((i : ℕ) → i < n → a i ≡ b i) → combination f.laws m x a j ≡ combination f.laws n x b j
  same-sum n m a b x j e h =
      ap (λ k. combination f.laws k x a j) e ∙ total-same f.laws n _ _ (λ i l. ap (λ (u : ℕ → Value f). f.laws.times (x i) (u j)) (h i l))

  pub same-independent : (n m : ℕ) (a b : ℕ → ℕ → Value f) → m ≡ n → ((i : ℕ) → i < n → a i ≡ b i) → AreIndependent f.laws n b → AreIndependent f.laws m a
  same-independent n m a b e h ind x hz i l =
      ind x (λ j. sym (same-sum n m a b x j e h) ∙ hz j) i (subst (λ (k : ℕ). i < k) e l)

  same-joined : (n : ℕ) (a b : ℕ → ℕ → Value f) → ((i : ℕ) → i < n → a i ≡ b i) → (k : ℕ) → k ≤ n → joined_rows f.laws n a k ≡ joined_rows f.laws n b k
  same-joined n a b h zero l = refl
  same-joined n a b h (suc k) l =
      let own : a k ≡ b k = h k (omega (arith, l)) in
      let rest : joined_rows f.laws n a k ≡ joined_rows f.laws n b k = same-joined n a b h k (omega (arith, l)) in
      λ z. joined n (unit_vector f.laws k) (own z) ∷ rest z

  same-wide : (n : ℕ) (a b : ℕ → ℕ → Value f) (s t : ℕ → Value f) → ((i : ℕ) → i < n → a i ≡ b i) → s ≡ t → IsWideSolve f n a s → IsWideSolve f n b t
  same-wide n a b s t h e (inl w) =
      let lk : w.0 < n = w.1 in
      inl (
        w.0,
        w.1,
        w.2,
        w.3,
        subst (λ (xs : List (ℕ → Value f)). AreSame (IsInSpan f.laws (row_vectors w.2)) (IsInSpan f.laws xs)) (same-joined n a b h w.0 (omega (arith, lk))) w.4,
        subst (λ (u : ℕ → Value f). IsWideInsert f w.2 (joined n (unit_vector f.laws w.0) u)) (h w.0 w.1) w.5,
      )
  same-wide n a b s t h e (inr w) =
      inr (
        w.0,
        w.1,
        subst (λ (xs : List (ℕ → Value f)). AreSame (IsInSpan f.laws (row_vectors w.0)) (IsInSpan f.laws xs)) (same-joined n a b h n (omega arith)) w.2,
        subst (λ (u : ℕ → Value f). IsWideReduce f w.0 (joined n (λ _. f.laws.nought) u)) e w.3,
      )

  pub wide-solve : (n m : ℕ) (a b : ℕ → ℕ → Value f) (s t : ℕ → Value f) → m ≡ n → ((i : ℕ) → i < n → a i ≡ b i) → s ≡ t → IsWideSolve f m a s → IsWideSolve f n b t
  wide-solve n m a b s t e h q w = same-wide n a b s t h q (subst (λ (k : ℕ). IsWideSolve f k a s) e w)

  -- the same with another name for the number of rows
  module _ (d : ℕ) (ms : List (ℕ × (ℕ → Value f))) (sites : List ℕ) (h : IsModeBasis f.laws d ms sites) (n : ℕ) (e : length ms ≡ n) (columns : List ℕ) (p : ArePivotColumns d sites columns) (t x : ℕ → Value f)
      (hx : AreAmplitudes f.laws n (cut_row f.laws columns ms) (length columns) (cut_to f.laws columns t) x) where
    by-rows : AreAmplitudes f.laws (length ms) (cut_row f.laws columns ms) (length columns) (cut_to f.laws columns t) x
    by-rows = subst (λ (k : ℕ). AreAmplitudes f.laws k (cut_row f.laws columns ms) (length columns) (cut_to f.laws columns t) x) (sym e) hx

    pub solved-hold : (a : ℕ → Value f) → ((m : ℕ) → m < n → a m ≡ x m)
        → ((k : ℕ) → k < length sites → a (n + k) ≡ f.laws.plus (t (slice_index sites k)) (f.laws.neg (combination f.laws n x (vector_at f.laws (row_vectors ms)) (slice_index sites k))))
        → AreAmplitudes f.laws d (vector_at f.laws (all_modes f.laws ms sites)) d t a
    solved-hold a front behind =
        amplitudes-hold f.laws d ms sites h columns p t x a (subst (λ (k : ℕ). (m : ℕ) → m < k → a m ≡ x m) (sym e) front) by-rows
        (subst (λ (r : ℕ). (k : ℕ) → k < length sites → a (r + k) ≡ f.laws.plus (t (slice_index sites k)) (f.laws.neg (combination f.laws r x (vector_at f.laws (row_vectors ms)) (slice_index sites k)))) (sym e) behind)

    pub wide-rest : (c : ℕ) × Contains sites c × IsWideRest f ms t x c → IsWideAmplitudes f d ms sites t
    wide-rest w = (columns, p, inr (x, by-rows, w))
