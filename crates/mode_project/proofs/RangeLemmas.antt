use Rattle.std.proofs.Common.{◌≡◌, ℕ, suc, zero, ◌+◌, ◌*◌, ◌/◌, ◌%◌, ◌<◌, inl, inr, true, refl, sym, ◌∙◌, ap, subst, arith, List, [], ◌∷◌}
use Rattle.std.specs.Prelude.{slice_index_or}
use Rattle.cyclo24.specs.ExactField.{ExactField, Value}
use Rattle.cyclo24.specs.FieldOn.{FieldOn}
use Rattle.cyclo24.specs.Numerals.{of_whole}
use Rattle.cyclo24.specs.Sums.{total}
use Rattle.cyclo24.specs.TotalLaws.{total-same}
use Rattle.lin_alg.specs.Echelon.{EchelonView, IsEchelon, IsSpanned}
use Rattle.lin_alg.specs.EquationLaws.{dec}
use Rattle.lin_alg.specs.Insertion.{IsWideInsert}
use Rattle.lin_alg.specs.Matrices.{apply, IsClassFunction}
use Rattle.lin_alg.specs.Matrix.{IsWideTerm, IsWideDot}
use Rattle.lin_alg.specs.Reduced.{IsForm}
use Rattle.lin_alg.specs.Rows.{exact_rows}
use Rattle.lin_alg.specs.Solving.{plain_rows, IsWideIndependent}
use Rattle.lin_alg.specs.SpanLaws.{funext}
use Rattle.lin_alg.specs.Spans.{row_vectors, IsInSpan, AreSame}
use Rattle.mode_project.specs.AtomSpace.{AtomSpace, size_of, matrix_of, IsAtomSpace}
use Rattle.mode_project.specs.AtomSpaceLaws.{row-at, number-at, atom-below, number-below}
use Rattle.mode_project.specs.ListLaws.{same-more}
use Rattle.mode_project.specs.Parts.{image_row, turned_row, spread, HoldsSpan}
use Rattle.mode_project.specs.Projection.{projection, IsInRange, cut, column_of, IsReducedFormOf}
use Rattle.mode_project.specs.ProjectionLaws.{other-column, range-columns, cut-inside, cut-past, column-inside, column-past}
use Rattle.mode_project.specs.Turns.{AreWays}
use Rattle.mode_project.specs.Wide.{IsWideImage, IsWideTurned, IsWideRange}
use Rattle.mode_project.specs.WideParts.{IsWideSpread}
use Rattle.mode_project.proofs.ColumnLemmas.{split-at, some-each}

module _ {A : Type 0} (f : ExactField) (value : A → Value f) (w : ℕ) (a : ℕ → ℕ → Value f) where
  -- the empty form
  pub held-start : (form : EchelonView A) → form.width ≡ w → form.whole ≡ true → form.rows ≡ [] → IsEchelon f.laws value form → HoldsSpan f.laws value w a 0 form
  held-start form ew eh er shape = record {
    width = ew;
    whole = eh;
    shape = shape;
    span =
        let none : AreSame (IsInSpan f.laws []) (IsInSpan f.laws []) = λ v. (λ h. h, λ h. h) in
        subst (λ (rs : List (ℕ × List A)). AreSame (IsInSpan f.laws (row_vectors (exact_rows f.laws value rs))) (IsInSpan f.laws (plain_rows a 0))) (sym er) none;
  }

  pub held-next : (q m : ℕ) (old new : EchelonView A) (x : ℕ → Value f) → suc q ≡ m → HoldsSpan f.laws value w a q old → x ≡ a q → new.width ≡ old.width → new.whole ≡ true → IsEchelon f.laws value new →
      AreSame (IsSpanned f.laws value new) (IsInSpan f.laws (x ∷ row_vectors (exact_rows f.laws value old.rows))) → HoldsSpan f.laws value w a m new
  held-next q m old new x em h e ew eh form span = record {
    width = ew ∙ h.width;
    whole = eh;
    shape = form;
    span =
        let both : AreSame (IsInSpan f.laws (x ∷ row_vectors (exact_rows f.laws value old.rows))) (IsInSpan f.laws (plain_rows a (suc q))) =
        subst (λ (y : ℕ → Value f). AreSame (IsInSpan f.laws (x ∷ row_vectors (exact_rows f.laws value old.rows))) (IsInSpan f.laws (y ∷ plain_rows a q))) e
        (same-more f.laws (row_vectors (exact_rows f.laws value old.rows)) (plain_rows a q) x h.span) in
        let all : AreSame (IsSpanned f.laws value new) (IsInSpan f.laws (plain_rows a (suc q))) = λ v. (λ k. (both v).0 ((span v).0 k), λ k. (span v).1 ((both v).1 k)) in
        subst (λ (n : ℕ). AreSame (IsSpanned f.laws value new) (IsInSpan f.laws (plain_rows a n))) em all;
  }

  pub held-wide : (q m : ℕ) (old : EchelonView A) (x : ℕ → Value f) → HoldsSpan f.laws value w a q old → x ≡ a q → q < m → IsWideInsert f (exact_rows f.laws value old.rows) x → IsWideIndependent f m a
  held-wide q m old x h e l k =
      (q, l, exact_rows f.laws value old.rows, (h.shape.form h.whole).reduced, h.span, subst (λ (y : ℕ → Value f). IsWideInsert f (exact_rows f.laws value old.rows) y) e k)

pub plain-equal : {K : Type 0} (a b : ℕ → ℕ → K) (m : ℕ) → ((k : ℕ) → k < m → a k ≡ b k) → plain_rows a m ≡ plain_rows b m
plain-equal a b zero h = refl
plain-equal a b (suc m) h = λ i. h m (omega arith) i ∷ plain-equal a b m (λ k l. h k (omega (arith, l))) i

-- the terms before are equal, and so is the wide one
pub dot-same : (f : ExactField) (n : ℕ) (x y z : ℕ → Value f) → ((k : ℕ) → k < n → y k ≡ z k) → IsWideDot f n x y → IsWideDot f n x z
dot-same f n x y z e h =
    let k = h.0 in
    let lk : k < n = h.1 in
    let sums : total f.laws k (λ l. f.laws.times (x l) (y l)) ≡ total f.laws k (λ l. f.laws.times (x l) (z l)) =
    total-same f.laws k _ _ (λ l m. ap (f.laws.times (x l)) (e l (omega (arith, m, lk)))) in
    (k, lk, subst (λ (v : Value f). IsWideTerm f (total f.laws k (λ l. f.laws.times (x l) (z l))) (x k) v) (e k lk) (subst (λ (v : Value f). IsWideTerm f v (x k) (y k)) sums h.2))

independent-same : (f : ExactField) (n : ℕ) (a b : ℕ → ℕ → Value f) → ((k : ℕ) → k < n → a k ≡ b k) → IsWideIndependent f n a → IsWideIndependent f n b
independent-same f n a b e h =
    let k = h.0 in
    let lk : k < n = h.1 in
    let rows : plain_rows a k ≡ plain_rows b k = plain-equal a b k (λ i l. e i (omega (arith, l, lk))) in
    (k, lk, h.2, h.3, subst (λ xs. AreSame (IsInSpan f.laws (row_vectors h.2)) (IsInSpan f.laws xs)) rows h.4, subst (λ (v : ℕ → Value f). IsWideInsert f h.2 v) (e k lk) h.5)

module _ {K : Type 0} (f : FieldOn K) (s : AtomSpace) where
  pub turned-same : (p a : ℕ) (c e : ℕ → ℕ → K) → ((b : ℕ) → b < s.each → c b ≡ e b) → turned_row f s p a c ≡ turned_row f s p a e
  turned-same p a c e h =
      funext (λ r. ap (λ (x : K). cut f (size_of s) (λ _. x) r) (total-same f s.each _ _ (λ b l. ap (λ (v : ℕ → K). f.times (of_whole f (s.turn p b a)) (v r)) (h b l))))

  pub spread-at : (ways : List (ℕ × ℕ)) (c : ℕ → ℕ → K) (i a : ℕ) → a < s.each
      → turned_row f s (slice_index_or ways i (0, 0)).1 a (λ b. image_row f s (slice_index_or ways i (0, 0)).0 (c b)) ≡ spread f s ways c (i * s.each + a)
  spread-at ways c i a la =
      λ t. turned_row f s (slice_index_or ways (sym (row-at s.each i a la) t) (0, 0)).1 (sym (number-at s.each i a la) t) (λ b. image_row f s (slice_index_or ways (sym (row-at s.each i a la) t) (0, 0)).0 (c b))

  pub spread-same : (ways : List (ℕ × ℕ)) (c e : ℕ → ℕ → K) → ((b : ℕ) → b < s.each → c b ≡ e b) → (k : ℕ) → spread f s ways c k ≡ spread f s ways e k
  spread-same ways c e h k =
      let way = slice_index_or ways (k / s.each) (0, 0) in
      turned-same way.1 (k % s.each) (λ b. image_row f s way.0 (c b)) (λ b. image_row f s way.0 (e b)) (λ b l. ap (image_row f s way.0) (h b l))

  module _ (law : IsAtomSpace s) (w : ℕ → K) (class : IsClassFunction s.group w) where
    -- the columns of all atoms
    pub spread-columns : (ways : List (ℕ × ℕ)) → AreWays s ways s.atoms → (k : ℕ) → k < size_of s
        → spread f s ways (column_of f (size_of s) (projection f s w)) k ≡ column_of f (size_of s) (projection f s w) k
    spread-columns ways h k l =
        let d = size_of s in
        let c = s.each in
        let P = projection f s w in
        let lc : 0 < c = some-each s.atoms c k l in
        let i = k / c in
        let a = k % c in
        let li : i < s.atoms = atom-below s.atoms c k l in
        let la : a < c = number-below s.atoms c k l in
        let way = slice_index_or ways i (0, 0) in
        let own = h.each i li in
        let at : i * c + a ≡ k = split-at c k lc in
        let sum = (λ (r : ℕ). total f c (λ b. f.times (of_whole f (s.turn way.1 b a)) (image_row f s way.0 (column_of f d P b) r))) in
        funext (λ r. elim (dec r d) [
          | inr m ↦ cut-past f d sum r m ∙ sym (column-past f d P k r m)
          | inl m ↦
              cut-inside f d sum r m
              ∙ total-same f c _ _ (λ b lb. λ t. f.times (of_whole f (s.turn (own.inverse t) b a)) (cut-inside f d (apply f d (matrix_of f s way.0) (column_of f d P b)) r m t))
              ∙ sym (other-column f s law w class way.0 i a r own.below li la m own.reaches)
              ∙ ap (P r) at
              ∙ sym (column-inside f d P k r m)
        ])

module _ (f : ExactField) (s : AtomSpace) (law : IsAtomSpace s) (w : ℕ → Value f) (class : IsClassFunction s.group w) (ways : List (ℕ × ℕ)) (h : AreWays s ways s.atoms)
    (c : ℕ → ℕ → Value f) (e : (b : ℕ) → b < s.each → c b ≡ column_of f.laws (size_of s) (projection f.laws s w) b) where
  abbrev d : ℕ
  d = size_of s

  abbrev P : ℕ → ℕ → Value f
  P = projection f.laws s w

  all-columns : (k : ℕ) → k < d → spread f.laws s ways c k ≡ column_of f.laws d P k
  all-columns k l = spread-same f.laws s ways c (column_of f.laws d P) e k ∙ spread-columns f.laws s law w class ways h k l

  -- the form of all columns is that of the range
  pub spread-range : {A : Type 0} (value : A → Value f) (form : EchelonView A) → HoldsSpan f.laws value d (spread f.laws s ways c) d form
      → IsReducedFormOf f.laws d (IsInRange f.laws d P) (exact_rows f.laws value form.rows)
  spread-range {A} value form held = record {
    form = subst (λ (n : ℕ). IsForm f.laws n (exact_rows f.laws value form.rows)) held.width (held.shape.form held.whole);
    spans =
        let rows : plain_rows (spread f.laws s ways c) d ≡ plain_rows (column_of f.laws d P) d = plain-equal (spread f.laws s ways c) (column_of f.laws d P) d all-columns in
        let span : AreSame (IsSpanned f.laws value form) (IsInSpan f.laws (plain_rows (column_of f.laws d P) d)) = subst (λ xs. AreSame (IsSpanned f.laws value form) (IsInSpan f.laws xs)) rows held.span in
        λ v. (λ k. (range-columns f.laws d P v).1 ((span v).0 k), λ k. (span v).1 ((range-columns f.laws d P v).0 k));
  }

  pub spread-wide : IsWideSpread f s ways c → IsWideRange f s w
  spread-wide k =
      elim k [
        | inl m ↦ inr (inl (m.0, m.1, m.2, m.3, subst (λ (v : ℕ → Value f). IsWideImage f s m.0 v) (e m.1 m.3) m.4))
        | inr (inl m) ↦
            inr (inr (inl (
              m.0,
              m.1,
              m.2,
              m.3,
              m.4,
              m.5,
              m.6,
              m.7,
              dot-same f s.each (λ b. of_whole f.laws (s.turn m.1 b m.3)) (λ b. apply f.laws d (matrix_of f.laws s m.0) (c b) m.2) (λ b. apply f.laws d (matrix_of f.laws s m.0) (column_of f.laws d P b) m.2)
                  (λ b l. ap (λ (v : ℕ → Value f). apply f.laws d (matrix_of f.laws s m.0) v m.2) (e b l)) m.8,
            )))
        | inr (inr m) ↦ inr (inr (inr (independent-same f d (spread f.laws s ways c) (column_of f.laws d P) all-columns m)))
      ]

-- a wide sum of images
pub images-wide : (f : ExactField) (s : AtomSpace) (q p a : ℕ) (c images : ℕ → ℕ → Value f) → q < s.group.order → p < s.group.order → a < s.each
    → ((b : ℕ) → b < s.each → images b ≡ image_row f.laws s q (c b))
    → (r : ℕ) × (r < size_of s) × IsWideDot f s.each (λ b. of_whole f.laws (s.turn p b a)) (λ b. images b r) → IsWideTurned f s c
images-wide f s q p a c images lq lp la e h =
    let r = h.0 in (
      q,
      p,
      r,
      a,
      lq,
      lp,
      h.1,
      la,
      dot-same f s.each (λ b. of_whole f.laws (s.turn p b a)) (λ b. images b r) (λ b. apply f.laws (size_of s) (matrix_of f.laws s q) (c b) r)
          (λ b l. ap (λ (v : ℕ → Value f). v r) (e b l) ∙ cut-inside f.laws (size_of s) (apply f.laws (size_of s) (matrix_of f.laws s q) (c b)) r h.1) h.2,
    )
