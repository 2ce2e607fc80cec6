use Rattle.std.proofs.Common.{◌≡◌, ℕ, suc, zero, ◌+◌, ◌<◌, inl, inr, sym, ◌∙◌, ap, subst, arith, below_more, ℤ, pos, negsuc, false, List, [], ◌∷◌, ◌++◌, length, Vec}
use Rattle.std.proofs.lemmas.Int.{ints}
use Rattle.std.specs.List.{Contains}
use Rattle.std.specs.Prelude.{slice_index, ◌<ℤ◌, Err, Result, IsTrue}
use Rattle.algebra.specs.RisingListLaws.{listed-below}
use Rattle.mode_project.specs.declared.errors.AmpError.TheVariants as amp_error
use Rattle.cyclo24.specs.ExactField.{ExactField, Value}
use Rattle.cyclo24.specs.FieldOn.{FieldOn}
use Rattle.cyclo24.specs.Numerals.{of_whole}
use Rattle.lin_alg.specs.EquationLaws.{dec}
use Rattle.lin_alg.specs.Reduced.{is_pivot, free_columns}
use Rattle.lin_alg.specs.Rows.{vector, exact_rows}
use Rattle.lin_alg.specs.Solving.{combination, IsWideSolve}
use Rattle.lin_alg.specs.SpanLaws.{funext}
use Rattle.lin_alg.specs.Spans.{row_vectors}
use Rattle.mode_project.specs.AmplitudeLaws.{free-rising}
use Rattle.mode_project.specs.Amplitudes.{AreAmplitudes, IsModeBasis, ArePivotColumns, cut_to, cut_row, IsWideRest, IsWideAmplitudes}
use Rattle.mode_project.specs.AtomSpace.{AtomSpace, size_of}
use Rattle.mode_project.specs.Joined.{lines_in, joined_rows_in}
use Rattle.mode_project.specs.Modes.{AreModes, all_modes, vector_at}
use Rattle.mode_project.specs.OrbitAmplitudes.{quotient_of}
use Rattle.mode_project.proofs.AmplitudeLemmas.{cut-at, cut-past}
use Rattle.mode_project.proofs.JointLemmas.{exact-length}
use Rattle.mode_project.proofs.SolvedLemmas.{vector-kept, vector-last}

module _ {K : Type 0} (f : FieldOn K) where
  -- the number whose product with d is n
  quotient-is : (n d : ℤ) (x : K) → f.is_nought (of_whole f d) ≡ false → f.times x (of_whole f d) ≡ of_whole f n → x ≡ quotient_of f n d
  unfolding quotient_of
  quotient-is n d x z e =
      let y = of_whole f d in
      sym (f.times-unit x) ∙ ap (f.times x) (sym (f.times-inverse y z)) ∙ sym (f.times_assoc x y (f.inverse y)) ∙ ap (λ w. f.times w (f.inverse y)) e

  pub quotient-passed : (n d p q : ℤ) (x : K) → p ≡ n → q ≡ d → f.is_nought (of_whole f d) ≡ false → f.times x (of_whole f q) ≡ of_whole f p → x ≡ quotient_of f n d
  quotient-passed n d p q x en ed z e = quotient-is n d x z (ap (λ m. f.times x (of_whole f m)) (sym ed) ∙ e ∙ ap (of_whole f) en)

pub positive-some : (f : ExactField) (d : ℤ) → pos 0 <ℤ d → f.laws.is_nought (of_whole f.laws d) ≡ false
positive-some f (pos zero) l = absurd (omega (arith, ints, l))
positive-some f (pos (suc n)) l = f.characteristic_zero n
positive-some f (negsuc n) l = absurd (omega (arith, ints, l))

module _ {A : Type 0} (f : ExactField) (value : A → Value f) where
  pub number-next : (all new : List A) (y : A) (k : ℕ) (t : ℕ → Value f) → new ≡ all ++ y ∷ [] → length all ≡ k → value y ≡ t k
      → ((j : ℕ) → j < k → vector f.laws value all j ≡ t j) → (j : ℕ) → j < k + 1 → vector f.laws value new j ≡ t j
  number-next all new y k t e n h before =
      let at : (m : ℕ) → vector f.laws value new m ≡ vector f.laws value (all ++ y ∷ []) m = λ m. ap (λ xs. vector f.laws value xs m) e in
      below_more (λ j. vector f.laws value new j ≡ t j) k
      (λ j l. at j ∙ vector-kept f value all y j (omega (arith, l, n)) ∙ before j l) (at k ∙ vector-last f value all y k n ∙ h)

-- what the code holds, and what contracts see
module _ {A Z : Type 0} (f : ExactField) (value : A → Value f) (size : ℕ) (lines : List (ℕ × List A)) (sites : List ℕ)
    (basis : IsModeBasis f.laws size (exact_rows f.laws value lines) sites)
    (rows : List (ℕ × Vec A Z)) (er : lines_in rows ≡ lines) (us : List ℕ) (es : us ≡ sites) (n : ℕ) (en : n ≡ size) (t : ℕ → Value f) where
  abbrev Parts : Type 0
  Parts = ℕ × List (ℕ × List A) × List ℕ

  whole : ◌≡◌ {A = Parts} (n, lines_in rows, us) (size, lines, sites)
  whole = λ i. (en i, er i, es i)

  pub held-basis : IsModeBasis f.laws n (joined_rows_in f.laws value rows) us
  held-basis = subst (λ (q : Parts). IsModeBasis f.laws q.0 (exact_rows f.laws value q.1) q.2) (sym whole) basis

  held-count : length lines + length sites ≡ size
  held-count = ap (λ k. k + length sites) (sym (exact-length f.laws value lines)) ∙ basis.count

  pub seen-amplitudes : (a : ℕ → Value f) → AreAmplitudes f.laws n (vector_at f.laws (all_modes f.laws (joined_rows_in f.laws value rows) us)) n t a
      → AreAmplitudes f.laws (length lines + length sites) (vector_at f.laws (all_modes f.laws (exact_rows f.laws value lines) sites)) size t a
  seen-amplitudes a h =
      subst (λ (k : ℕ). AreAmplitudes f.laws k (vector_at f.laws (all_modes f.laws (exact_rows f.laws value lines) sites)) size t a) (sym held-count)
      (subst (λ (q : Parts). AreAmplitudes f.laws q.0 (vector_at f.laws (all_modes f.laws (exact_rows f.laws value q.1) q.2)) q.0 t a) whole h)

  pub held-amplitudes : (a : ℕ → Value f) → AreAmplitudes f.laws (length lines + length sites) (vector_at f.laws (all_modes f.laws (exact_rows f.laws value lines) sites)) size t a
      → AreAmplitudes f.laws n (vector_at f.laws (all_modes f.laws (joined_rows_in f.laws value rows) us)) n t a
  held-amplitudes a h =
      subst (λ (q : Parts). AreAmplitudes f.laws q.0 (vector_at f.laws (all_modes f.laws (exact_rows f.laws value q.1) q.2)) q.0 t a) (sym whole)
      (subst (λ (k : ℕ). AreAmplitudes f.laws k (vector_at f.laws (all_modes f.laws (exact_rows f.laws value lines) sites)) size t a) held-count h)

  pub seen-wide : IsWideAmplitudes f n (joined_rows_in f.laws value rows) us t → IsWideAmplitudes f size (exact_rows f.laws value lines) sites t
  seen-wide h = subst (λ (q : Parts). IsWideAmplitudes f q.0 (exact_rows f.laws value q.1) q.2 t) whole h

-- the sites of modes are columns
pub site-below : {K : Type 0} (f : FieldOn K) (s : AtomSpace) (ws : List (ℕ → K)) (ms : List (ℕ × (ℕ → K))) (sites : List ℕ) → AreModes f s ws ms sites → (c : ℕ) → Contains sites c → c < size_of s
site-below f s ws ms sites h c k =
    let rs = h.free.0 in
    listed-below (size_of s) (λ j. is_pivot j rs ≡ false) (free_columns (size_of s) rs) (free-rising rs (size_of s)) c (subst (λ (us : List ℕ). Contains us c) h.free.2 k)

-- only the numbers in the columns matter
module _ (f : ExactField) (d : ℕ) (ms : List (ℕ × (ℕ → Value f))) (sites : List ℕ) (inside : (c : ℕ) → Contains sites c → c < d)
    (v w : ℕ → Value f) (same : (c : ℕ) → c < d → v c ≡ w c) where
  cut-same : (columns : List ℕ) → ArePivotColumns d sites columns → cut_to f.laws columns v ≡ cut_to f.laws columns w
  cut-same columns h =
      funext (λ k. elim (dec k (length columns)) [
        | inl l ↦ cut-at f.laws columns v k l ∙ same (slice_index columns k) (h.below k l) ∙ sym (cut-at f.laws columns w k l)
        | inr l ↦ cut-past f.laws columns v k l ∙ sym (cut-past f.laws columns w k l)
      ])

  rest-same : (x : ℕ → Value f) (c : ℕ) → Contains sites c → IsWideRest f ms v x c → IsWideRest f ms w x c
  rest-same x c k (inl h) = inl h
  rest-same x c k (inr h) =
      inr (subst (λ (y : Value f). IsTrue (f.is_wide_difference y (combination f.laws (length ms) x (vector_at f.laws (row_vectors ms)) c))) (same c (inside c k)) h)

  pub wide-below : IsWideAmplitudes f d ms sites v → IsWideAmplitudes f d ms sites w
  wide-below (columns, h, inl solve) =
      (columns, h, inl (subst (λ (t : ℕ → Value f). IsWideSolve f (length ms) (cut_row f.laws columns ms) t) (cut-same columns h) solve))
  wide-below (columns, h, inr (x, a, (c, k, rest))) = (
    columns,
    h,
    inr (x, subst (λ (t : ℕ → Value f). AreAmplitudes f.laws (length ms) (cut_row f.laws columns ms) (length columns) t x) (cut-same columns h) a, (c, k, rest-same x c k rest)),
  )

-- a family is told by its error
pub same-amp_family : {T : Type 0} (n f : ℕ) → ◌≡◌ {A = Result T amp_error.the_data} (Err (amp_error.Wide n)) (Err (amp_error.Wide f)) → f ≡ n
same-amp_family {T} n f e = cc
