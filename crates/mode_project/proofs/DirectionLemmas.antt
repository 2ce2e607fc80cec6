use Rattle.std.proofs.Common.{◌≡◌, ℕ, ◌*◌, ◌<◌, ◌≤◌, ◌^◌, inl, inr, sym, ◌∙◌, ap, subst, arith, List, length}
use Rattle.std.proofs.lemmas.Nat.{mul-le}
use Rattle.std.specs.List.{slice_index}
use Rattle.cyclo24.specs.ExactField.{ExactField, Value}
use Rattle.lin_alg.specs.Echelon.{EchelonView}
use Rattle.lin_alg.specs.Equations.{dot, free_vector}
use Rattle.lin_alg.specs.FormLaws.{form-length}
use Rattle.lin_alg.specs.Insertion.{IsWideInsert}
use Rattle.lin_alg.specs.Matrix.{MatrixView, entry, IsWideDot}
use Rattle.lin_alg.specs.Reduced.{IsForm, free_columns}
use Rattle.lin_alg.specs.Rows.{exact_rows}
use Rattle.lin_alg.specs.Solving.{plain_rows, IsWideIndependent}
use Rattle.lin_alg.specs.SpanLaws.{funext}
use Rattle.lin_alg.specs.Spans.{row_vectors, IsInSpan, AreSame}
use Rattle.mode_project.specs.AtomSpace.{AtomSpace, size_of}
use Rattle.mode_project.specs.DirectionModes.{AreModesOf}
use Rattle.mode_project.specs.DirectionParts.{IsWideLeft, combined, IsWideCombined}
use Rattle.mode_project.specs.ListLaws.{vectors-length}
use Rattle.mode_project.specs.Modes.{vector_at}
use Rattle.mode_project.specs.Parts.{row_in, AreVectors, HoldsSpan}
use Rattle.mode_project.specs.Projection.{projection, IsInRange, IsReducedFormOf}
use Rattle.mode_project.specs.Wide.{left_row, free_rows, IsWideDirection}
use Rattle.mode_project.proofs.FinalLemmas.{free-exact}
use Rattle.mode_project.proofs.JointLemmas.{exact-length}
use Rattle.mode_project.proofs.LeftCode.{rows-are}
use Rattle.mode_project.proofs.LeftLemmas.{free-modes}
use Rattle.mode_project.proofs.RangeLemmas.{plain-equal}

independent-same : (f : ExactField) (n : ℕ) (a b : ℕ → ℕ → Value f) → ((k : ℕ) → k < n → a k ≡ b k) → IsWideIndependent f n a → IsWideIndependent f n b
independent-same f n a b e h =
    let k = h.0 in
    let lk : k < n = h.1 in
    let rows : plain_rows a k ≡ plain_rows b k = plain-equal a b k (λ i l. e i (omega (arith, l, lk))) in
    (k, lk, h.2, h.3, subst (λ xs. AreSame (IsInSpan f.laws (row_vectors h.2)) (IsInSpan f.laws xs)) rows h.4, subst (λ (v : ℕ → Value f). IsWideInsert f h.2 v) (e k lk) h.5)

module _ {A : Type 0} (f : ExactField) (value : A → Value f) (s : AtomSpace) (h : List ℕ) (bs : List (ℕ × (ℕ → Value f))) (lefts : EchelonView A) (x : MatrixView A) (m : ℕ) (b : ℕ → ℕ → Value f)
    (em : m ≡ length bs) (eb : b ≡ vector_at f.laws (row_vectors bs)) (left : HoldsSpan f.laws value m (left_row f.laws s h b) (length h * size_of s) lefts)
    (count : x.rows ≡ length (free_columns lefts.width lefts.rows))
    (vectors : (i : ℕ) → i < x.rows → (j : ℕ) → entry f.laws value x i j ≡ free_vector f.laws (exact_rows f.laws value lefts.rows) (slice_index (free_columns lefts.width lefts.rows) i) j) where
  abbrev d : ℕ
  d = size_of s

  abbrev c : ℕ → ℕ → Value f
  c = vector_at f.laws (row_vectors bs)

  abbrev rs : List (ℕ × (ℕ → Value f))
  rs = exact_rows f.laws value lefts.rows

  columns : free_columns lefts.width lefts.rows ≡ free_columns (length bs) rs
  columns = ap (λ n. free_columns n lefts.rows) (left.width ∙ em) ∙ free-exact f value (length bs) lefts.rows

  solutions : x.rows ≡ length (free_columns (length bs) rs)
  solutions = count ∙ ap length columns

  reduced : IsReducedFormOf f.laws (length bs) (IsInSpan f.laws (plain_rows (left_row f.laws s h c) (length h * d))) rs
  reduced = record {
    form = subst (λ (n : ℕ). IsForm f.laws n rs) (left.width ∙ em) (left.shape.form left.whole);
    spans = subst (λ (y : ℕ → ℕ → Value f). AreSame (IsInSpan f.laws (row_vectors rs)) (IsInSpan f.laws (plain_rows (left_row f.laws s h y) (length h * d)))) eb left.span;
  }

  factors : (n : ℕ) → n < x.rows → entry f.laws value x n ≡ free_vector f.laws rs (slice_index (free_columns (length bs) rs) n)
  factors n l = funext (λ j. vectors n l j ∙ ap (λ cs. free_vector f.laws rs (slice_index cs n) j) columns)

  combined-free : (n : ℕ) → n < x.rows → combined f.laws m (entry f.laws value x) b n ≡ free_rows f.laws (length bs) rs c n
  combined-free n l = λ t. λ i. dot f.laws (em t) (factors n l t) (λ k. eb t k i)

  pub direction-modes : (form : EchelonView A) → HoldsSpan f.laws value d (combined f.laws m (entry f.laws value x) b) x.rows form → (w : ℕ → Value f)
      → IsReducedFormOf f.laws d (IsInRange f.laws d (projection f.laws s w)) bs → AreModesOf f.laws s w h (exact_rows f.laws value form.rows)
  direction-modes form held w range =
      let ms = exact_rows f.laws value form.rows in
      let rows : plain_rows (combined f.laws m (entry f.laws value x) b) x.rows ≡ plain_rows (free_rows f.laws (length bs) rs c) (length (free_columns (length bs) rs)) =
      plain-equal (combined f.laws m (entry f.laws value x) b) (free_rows f.laws (length bs) rs c) x.rows combined-free ∙ ap (plain_rows (free_rows f.laws (length bs) rs c)) solutions in
      free-modes f.laws s h w bs rs range reduced ms (subst (λ (n : ℕ). IsForm f.laws n ms) held.width (held.shape.form held.whole))
      (subst (λ xs. AreSame (IsInSpan f.laws (row_vectors ms)) (IsInSpan f.laws xs)) rows held.span)

  pub combined-wide : IsWideCombined f d x.rows m (entry f.laws value x) b → IsWideDirection f s h bs
  combined-wide k =
      elim k [
        | inl z ↦
            let n = z.0 in
            let l : n < length (free_columns (length bs) rs) = subst (λ (i : ℕ). n < i) solutions z.2 in
            let own : IsWideDot f (length bs) (free_vector f.laws rs (slice_index (free_columns (length bs) rs) n)) (λ i. c i z.1) =
            subst (λ (y : ℕ → ℕ → Value f). IsWideDot f (length bs) (free_vector f.laws rs (slice_index (free_columns (length bs) rs) n)) (λ i. y i z.1)) eb
            (subst (λ (y : ℕ → Value f). IsWideDot f (length bs) y (λ i. b i z.1)) (factors n z.2) (subst (λ (i : ℕ). IsWideDot f i (entry f.laws value x n) (λ i. b i z.1)) em z.4)) in
            inr (inr (rs, reduced, inl (n, z.1, l, z.3, own)))
        | inr z ↦
            let own : IsWideIndependent f (length (free_columns (length bs) rs)) (free_rows f.laws (length bs) rs c) =
            subst (λ (n : ℕ). IsWideIndependent f n (free_rows f.laws (length bs) rs c)) solutions
            (independent-same f x.rows (combined f.laws m (entry f.laws value x) b) (free_rows f.laws (length bs) rs c) combined-free z) in
            inr (inr (rs, reduced, inr own))
      ]

pub left-wide : (f : ExactField) (s : AtomSpace) (h : List ℕ) (bs : List (ℕ × (ℕ → Value f))) (m : ℕ) (b : ℕ → ℕ → Value f) → m ≡ length bs → b ≡ vector_at f.laws (row_vectors bs)
    → IsWideLeft f s h m b → IsWideDirection f s h bs
left-wide f s h bs m b em eb k =
    let own : IsWideLeft f s h (length bs) (vector_at f.laws (row_vectors bs)) =
    subst (λ (y : ℕ → ℕ → Value f). IsWideLeft f s h (length bs) y) eb (subst (λ (n : ℕ). IsWideLeft f s h n b) em k) in
    elim own [ inl z ↦ inl z | inr z ↦ inr (inl z) ]

-- few numbers
pub few-numbers : (n c : ℕ) → n ≤ 384 → c ≤ 3 → n * c ≤ 1152
few-numbers n c l k = mul-le n c 384 3 l k

pub few-entries : (k d : ℕ) → k ≤ d → d ≤ 1152 → k * d < 2 ^ 32
few-entries k d l m =
    let e : k * d ≤ 1152 * 1152 = mul-le k d 1152 1152 (omega (arith, l, m)) m in
    omega (arith, e)

-- the rows of a form by their numbers
module _ {A : Type 0} (f : ExactField) (value : A → Value f) (w : ℕ) (form : List (ℕ × List A)) (rows : List (List A))
    (h : AreVectors f.laws value w (vector_at f.laws (row_vectors (exact_rows f.laws value form))) rows (length form)) where
  pub rows-count : length rows ≡ length (exact_rows f.laws value form)
  rows-count = h.count ∙ sym (exact-length f.laws value form)

  pub rows-same : row_in f.laws value rows ≡ vector_at f.laws (row_vectors (exact_rows f.laws value form))
  rows-same =
      let e : length form ≡ length (row_vectors (exact_rows f.laws value form)) = sym (vectors-length (exact_rows f.laws value form) ∙ exact-length f.laws value form) in
      rows-are f value w (row_vectors (exact_rows f.laws value form)) rows
      (subst (λ (n : ℕ). AreVectors f.laws value w (vector_at f.laws (row_vectors (exact_rows f.laws value form))) rows n) e h)

-- the rows of a form of displacements are few
pub few-rows : {A : Type 0} (f : ExactField) (value : A → Value f) (n : ℕ) (rows : List (ℕ × List A)) (width : ℕ) → n ≤ 384 → width ≡ n * 3 → IsForm f.laws (n * 3) (exact_rows f.laws value rows) → length rows * width < 2 ^ 32
few-rows f value n rows width few e form =
    let three : 3 ≤ 3 = omega arith in
    let all : n * 3 ≤ 1152 = few-numbers n 3 few three in
    let own : length (exact_rows f.laws value rows) ≤ n * 3 = form-length f.laws (n * 3) (exact_rows f.laws value rows) form in
    let exact = exact-length f.laws value rows in
    few-entries (length rows) width (omega (arith, own, exact, e)) (omega (arith, e, all))
