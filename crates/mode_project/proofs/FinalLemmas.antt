use Rattle.std.proofs.Common.{◌≡◌, ℕ, suc, zero, ◌+◌, ◌<◌, refl, sym, ◌∙◌, ap, subst, if◌then◌else◌, List, [], ◌∷◌, ◌++◌, length, Vec, get_or}
use Rattle.std.specs.List.{slice_index, All}
use Rattle.std.specs.Prelude.{slice_index_or, Err, Result}
use Rattle.lin_alg.specs.declared.errors.LinError.TheVariants as lin_error
use Rattle.mode_project.specs.declared.errors.ModeError.TheVariants as mode_error
use Rattle.cyclo24.specs.declared.k24.K24.{K24}
use Rattle.super_group.specs.Quotient.{SupercellGroup, quotient_group}
use Rattle.cyclo24.specs.ExactK24.{k24, k24_laws}
use Rattle.cyclo24.specs.K24.{exact24}
use Rattle.lin_alg.specs.Matrices.{IsClassFunction}
use Rattle.cyclo24.specs.ExactField.{ExactField, Value}
use Rattle.lin_alg.specs.Echelon.{EchelonView}
use Rattle.lin_alg.specs.FreeLaws.{free_columns-at}
use Rattle.lin_alg.specs.Reduced.{IsForm, IsWithin, free_columns}
use Rattle.lin_alg.specs.RowLaws.{exact-pivot}
use Rattle.lin_alg.specs.Rows.{vector, exact_rows}
use Rattle.lin_alg.specs.Solving.{AreIndependent, plain_rows}
use Rattle.lin_alg.specs.Spans.{IsInSpan, AreSame}
use Rattle.mode_project.specs.AtomSpace.{AtomSpace, size_of}
use Rattle.mode_project.specs.Joined.{IsJoined, joined_rows_in}
use Rattle.mode_project.specs.ListLaws.{plain-same}
use Rattle.mode_project.specs.ModeLaws.{modes-count, modes-independent, modes-span, modes-length}
use Rattle.mode_project.specs.Modes.{AreIrrepModes, AreModes, all_modes, vector_at}
use Rattle.mode_project.specs.Parts.{rows_in}
use Rattle.mode_project.specs.Weights.{IsClassList, AreWeights, exact_weights}
use Rattle.mode_project.proofs.JointLemmas.{exact-length, list-at}
use Rattle.mode_project.proofs.VectorsLemmas.{rows-length, item-is}

module _ {A : Type 0} (f : ExactField) (value : A → Value f) (s : AtomSpace) (ws : List (ℕ → Value f)) (rows : List (ℕ × List A)) (sites : List ℕ)
    (h : AreModes f.laws s ws (exact_rows f.laws value rows) sites) where
  pub final-count : length rows + length sites ≡ size_of s
  final-count = ap (λ n. n + length sites) (sym (exact-length f.laws value rows)) ∙ modes-count f.laws s ws (exact_rows f.laws value rows) sites h

  pub final-independent : AreIndependent f.laws (length rows + length sites) (vector_at f.laws (all_modes f.laws (exact_rows f.laws value rows) sites))
  final-independent =
      subst (λ (n : ℕ). AreIndependent f.laws n (vector_at f.laws (all_modes f.laws (exact_rows f.laws value rows) sites))) (sym final-count) (modes-independent f.laws s ws (exact_rows f.laws value rows) sites h)

  pub final-span : AreSame (IsInSpan f.laws (plain_rows (vector_at f.laws (all_modes f.laws (exact_rows f.laws value rows) sites)) (length rows + length sites))) (IsWithin f.laws (size_of s))
  final-span =
      let all = all_modes f.laws (exact_rows f.laws value rows) sites in
      let n : length all ≡ length rows + length sites = modes-length f.laws s ws (exact_rows f.laws value rows) sites h ∙ sym final-count in
      let same : AreSame (IsInSpan f.laws (plain_rows (vector_at f.laws all) (length rows + length sites))) (IsInSpan f.laws all) =
      subst (λ (k : ℕ). AreSame (IsInSpan f.laws (plain_rows (vector_at f.laws all) k)) (IsInSpan f.laws all)) n (plain-same f.laws all) in
      let span = modes-span f.laws s ws (exact_rows f.laws value rows) sites h in
      λ v. (λ k. (span v).0 ((same v).0 k), λ k. (same v).1 ((span v).1 k))

-- the columns without a pivot, by the exact rows
pub free-exact : {A : Type 0} (f : ExactField) (value : A → Value f) (w : ℕ) (rows : List (ℕ × List A)) → free_columns w rows ≡ free_columns w (exact_rows f.laws value rows)
free-exact f value zero rows = refl
free-exact f value (suc w) rows =
    (λ i. if sym (exact-pivot f value w rows) i then free-exact f value w rows i else free-exact f value w rows i ++ w ∷ [])

module _ {A : Type 0} (f : ExactField) (value : A → Value f) (s : AtomSpace) (ws : List (ℕ → Value f)) where
  -- the modes of irreps and the columns without a pivot of their form
  pub final-modes : {Z : Type 0} (form : EchelonView A) (rows : List (ℕ × Vec A Z)) (sites : List ℕ) → IsJoined f.laws value form rows → form.width ≡ size_of s
      → AreIrrepModes f.laws s ws (joined_rows_in f.laws value rows) → sites ≡ free_columns form.width form.rows → AreModes f.laws s ws (joined_rows_in f.laws value rows) sites
  final-modes form rows sites h e m k = record {
    irreps = m;
    free = (
      exact_rows f.laws value form.rows,
      record { form = subst (λ (n : ℕ). IsForm f.laws n (exact_rows f.laws value form.rows)) e (h.shape.form h.whole); spans = h.span },
      k ∙ ap (λ n. free_columns n form.rows) e ∙ free-exact f value (size_of s) form.rows,
    );
  }

-- the columns without a pivot are columns
pub free-inside : {V : Type 0} (w : ℕ) (rows : List (ℕ × V)) (sites : List ℕ) → sites ≡ free_columns w rows → (k : ℕ) → k < length sites → slice_index sites k < w
free-inside w rows sites e k l =
    let l' : k < length (free_columns w rows) = subst (λ (xs : List ℕ). k < length xs) e l in
    subst (λ (xs : List ℕ). slice_index xs k < w) (sym e) (free_columns-at w rows k l').0

-- weights by their numbers
pub weight-at : {Z : Type 0} (g : SupercellGroup) (vs : List (Vec K24 Z)) (lists : List (List K24)) → rows_in vs ≡ lists → AreWeights g lists → (j : ℕ) → j < length vs → IsClassList g (slice_index_or (rows_in vs) j [])
weight-at {Z} g vs lists e h j l =
    let l' : j < length (rows_in vs) = subst (λ (n : ℕ). j < n) (sym (rows-length vs)) l in
    subst (All (IsClassList g)) (sym e) h j [] l'

-- an error is told by the result
pub same-error : {T : Type 0} (e f : lin_error.the_data) → ◌≡◌ {A = Result T lin_error.the_data} (Err e) (Err f) → e ≡ f
same-error {T} e f h = cc

pub same-cause : {T : Type 0} (e f : mode_error.the_data) → ◌≡◌ {A = Result T mode_error.the_data} (Err e) (Err f) → e ≡ f
same-cause {T} e f h = cc

-- a family is told by its error
pub same-family : {T : Type 0} (n f : ℕ) → ◌≡◌ {A = Result T mode_error.the_data} (Err (mode_error.Wide n)) (Err (mode_error.Wide f)) → f ≡ n
same-family {T} n f e = cc

pub weight-class : (g : SupercellGroup) (lists : List (List K24)) → AreWeights g lists → (j : ℕ) → j < length lists → IsClassFunction (quotient_group g) (vector_at k24_laws (exact_weights lists) j)
weight-class g lists h j l = subst (IsClassFunction (quotient_group g)) (sym (list-at k24 exact24 lists j l)) (h j [] l).class

-- the weights of one irrep
module _ {Z : Type 0} (g : SupercellGroup) (vs : List (Vec K24 Z)) (lists : List (List K24)) (e : rows_in vs ≡ lists) (j : ℕ) (l : j < length lists) (v : Vec K24 Z) (is : v ≡ get_or vs j v) (xs : List K24)
    (q : xs ≡ v.items) where
  inside : j < length vs
  inside = subst (λ (n : ℕ). j < n) (sym (ap length e) ∙ rows-length vs) l

  list-is : xs ≡ slice_index_or lists j []
  list-is = q ∙ sym (item-is vs j v inside is) ∙ ap (λ ys. slice_index_or ys j []) e

  pub weight-of : AreWeights g lists → IsClassList g xs
  weight-of h = subst (IsClassList g) (sym list-is) (h j [] l)

  pub weight-vector : vector k24_laws exact24 xs ≡ vector_at k24_laws (exact_weights lists) j
  weight-vector = ap (vector k24_laws exact24) list-is ∙ sym (list-at k24 exact24 lists j l)
