use Rattle.std.proofs.Common.{◌≡◌, ℕ, ◌+◌, ◌*◌, ◌/◌, ◌%◌, ◌<◌, true, sym, ◌∙◌, subst, arith, List, [], ◌∷◌, length}
use Rattle.cyclo24.specs.ExactField.{ExactField, Value}
use Rattle.cyclo24.specs.FieldOn.{FieldOn}
use Rattle.cyclo24.specs.Sums.{total}
use Rattle.lin_alg.specs.Echelon.{EchelonView, IsEchelon, IsSpanned}
use Rattle.lin_alg.specs.InsertLaws.{span-subspace, span-least, has_back}
use Rattle.lin_alg.specs.Matrices.{IsClassFunction}
use Rattle.lin_alg.specs.Rows.{exact_rows}
use Rattle.lin_alg.specs.Solving.{plain_rows}
use Rattle.lin_alg.specs.SpanLaws.{funext}
use Rattle.lin_alg.specs.Spans.{row_vectors, IsInSpan, IsSubspace, AreSame}
use Rattle.mode_project.specs.AtomSpace.{AtomSpace, size_of, matrix_of, IsAtomSpace}
use Rattle.mode_project.specs.AtomSpaceLaws.{row-at, number-at, atom-below, number-below, column-below, matrices-multiply}
use Rattle.mode_project.specs.ListLaws.{plain-each, plain-member}
use Rattle.mode_project.specs.Parts.{image_row}
use Rattle.mode_project.specs.Projection.{projection, IsInRange, column_of, IsReducedFormOf}
use Rattle.mode_project.specs.ProjectionLaws.{range-subspace}
use Rattle.mode_project.specs.Scaled.{IsScale, IsRank, image_at, IsInImages, IsInside}
use Rattle.mode_project.proofs.InsideLemmas.{image-in-range, first-trace, inside-range}
use Rattle.mode_project.proofs.ScaledLemmas.{square-scaled, trace-rank, rank-by-trace}

module _ {A K : Type 0} (f : FieldOn K) (value : A → K) (d : ℕ) (V : (ℕ → K) → Type 0) (sub : IsSubspace f V) where
  -- the empty form
  pub inside-start : (form : EchelonView A) → form.width ≡ d → form.whole ≡ true → form.rows ≡ [] → IsEchelon f value form → IsInside f value d V form
  inside-start form ew eh er shape = record {
    width = ew;
    whole = eh;
    shape = shape;
    inside =
        let none : (v : ℕ → K) → IsInSpan f [] v → V v = λ v h. subst V (sym (funext h)) sub.has_nought in
        subst (λ (rs : List (ℕ × List A)). (v : ℕ → K) → IsInSpan f (row_vectors (exact_rows f value rs)) v → V v) (sym er) none;
  }

  -- one more row of the space
  pub inside-next : (old new : EchelonView A) (x : ℕ → K) → IsInside f value d V old → V x → new.width ≡ old.width → new.whole ≡ true → IsEchelon f value new
      → AreSame (IsSpanned f value new) (IsInSpan f (x ∷ row_vectors (exact_rows f value old.rows))) → IsInside f value d V new
  inside-next old new x h own ew eh shape span = record {
    width = ew ∙ h.width;
    whole = eh;
    shape = shape;
    inside = λ v k. let t = (span v).0 k in has_back f V sub v t.0 x (h.inside _ t.1) own;
  }

module _ {K : Type 0} (f : FieldOn K) (s : AtomSpace) where
  pub images-subspace : (c : ℕ → ℕ → K) → IsSubspace f (IsInImages f s c)
  images-subspace c = span-subspace f (plain_rows (image_at f s c) (s.group.order * s.each))

  -- each image is one of them
  pub image-in : (c : ℕ → ℕ → K) (q b : ℕ) → q < s.group.order → b < s.each → IsInImages f s c (image_row f s q (c b))
  image-in c q b lq lb =
      let e : image_at f s c (q * s.each + b) ≡ image_row f s q (c b) = λ t. image_row f s (row-at s.each q b lb t) (c (number-at s.each q b lb t)) in
      subst (IsInImages f s c) e (plain-member f (image_at f s c) (s.group.order * s.each) (q * s.each + b) (column-below s.group.order s.each q b lq lb))

  module _ (law : IsAtomSpace s) (w : ℕ → K) (class : IsClassFunction s.group w) where
    -- images of the columns of P are in its range
    images-range : (c : ℕ → ℕ → K) → ((b : ℕ) → b < s.each → c b ≡ column_of f (size_of s) (projection f s w) b) → (v : ℕ → K) → IsInImages f s c v → IsInRange f (size_of s) (projection f s w) v
    images-range c e v h =
        let d = size_of s in
        let P = projection f s w in
        span-least f (IsInRange f d P) (range-subspace f d P) (plain_rows (image_at f s c) (s.group.order * s.each))
        (plain-each (image_at f s c) (IsInRange f d P) (s.group.order * s.each)
        (λ k l.
        let q = k / s.each in
        let b = k % s.each in
        let lq : q < s.group.order = atom-below s.group.order s.each k l in
        let lb : b < s.each = number-below s.group.order s.each k l in
        let first : b < d = let m = column-below s.atoms s.each 0 b law.some lb in let z : 0 * s.each + b ≡ b = omega arith in subst (λ (n : ℕ). n < d) z m in
        subst (λ (u : ℕ → K). IsInRange f d P (image_row f s q u)) (sym (e b lb)) (image-in-range f s law w class q b lq first))) v h

    -- a form of images that has as many rows as the rank is that of the range
    pub images-form : {A : Type 0} (value : A → K) (c : ℕ → ℕ → K) (r : ℕ) (form : EchelonView A) → ((b : ℕ) → b < s.each → c b ≡ column_of f (size_of s) (projection f s w) b)
        → IsRank f (size_of s) (projection f s w) r → IsInside f value (size_of s) (IsInImages f s c) form → length form.rows ≡ r
        → IsReducedFormOf f (size_of s) (IsInRange f (size_of s) (projection f s w)) (exact_rows f value form.rows)
    images-form value c r form e rank h n =
        inside-range f value (size_of s) (projection f s w) r form rank
        (record { width = h.width; whole = h.whole; shape = h.shape; inside = λ v k. images-range c e v (h.inside v k) }) n

module _ (f : ExactField) (s : AtomSpace) (law : IsAtomSpace s) (w : ℕ → Value f) (class : IsClassFunction s.group w) where
  -- the rank, by the trace
  pub rank-told : (x : Value f) (r : ℕ) → IsScale f.laws s.group w x
      → total f.laws r (λ _. x) ≡ total f.laws s.atoms (λ _. total f.laws s.each (λ b. column_of f.laws (size_of s) (projection f.laws s w) b b)) → IsRank f.laws (size_of s) (projection f.laws s w) r
  rank-told x r scale e rs h =
      let d = size_of s in
      let sq = square-scaled f.laws s.group law.group d (matrix_of f.laws s) (matrices-multiply f.laws s law) w x scale in
      rank-by-trace f x (length rs) r scale.some (sym (trace-rank f.laws d (projection f.laws s w) x sq rs h) ∙ first-trace f.laws s law w class ∙ sym e)
