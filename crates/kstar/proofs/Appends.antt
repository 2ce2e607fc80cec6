-- Lists that grow by one at the end.
use Rattle.std.proofs.Common.{◌≡◌, sym, ap, ◌∙◌, subst, ℕ, ◌<◌, ◌+◌, List, [], ◌∷◌, ◌++◌, length, get_or, ℤ, below_more}
use Rattle.std.proofs.lemmas.List.{get_or_append_left}
use Rattle.std.proofs.Math.Seq.{get_or-append_seam}
use Rattle.space_ops.specs.Op.{vector_of, IsShiftWithin}
use Rattle.space_ops.specs.Matrix.{Vector}
use Rattle.space_ops.specs.Group.{Parent}
use Rattle.algebra.specs.ListLaws.{length-more}
use Rattle.kstar.specs.Star.{image_at, row_in}
use Rattle.kstar.specs.Rows.{AreNear, AreAllImages, AreRowsAt}

pub images-more : (p : Parent) (k : Vector ℤ) (n : ℕ) (rows rows' : List (List ℤ)) (r : List ℤ) → rows' ≡ rows ++ r ∷ [] → vector_of r ≡ image_at p k n → AreAllImages p k n rows → AreAllImages p k (n + 1) rows'
images-more p k n rows rows' r e v h =
    let l : length rows' ≡ n + 1 = ap length e ∙ length-more rows r ∙ ap (λ m. m + 1) h.count in
    record {
      count = l;
      image = below_more (λ i. row_in rows' i ≡ image_at p k i) n
          (λ i b. ap (λ (xs : List (List ℤ)). row_in xs i) e ∙ ap vector_of (get_or_append_left rows (r ∷ []) [] i (subst (λ m. i < m) (sym h.count) b)) ∙ h.image i b)
          (ap (λ (xs : List (List ℤ)). row_in xs n) e ∙ ap (λ m. row_in (rows ++ r ∷ []) m) (sym h.count) ∙ ap vector_of (get_or-append_seam rows r [] []) ∙ v);
    }

pub near-more : (rows rows' : List (List ℤ)) (r : List ℤ) → rows' ≡ rows ++ r ∷ [] → IsShiftWithin 10368 r → AreNear rows → AreNear rows'
near-more rows rows' r e v h =
    subst AreNear (sym e)
    (λ i b. below_more (λ i. IsShiftWithin 10368 (get_or (rows ++ r ∷ []) i [])) (length rows)
    (λ i b. subst (IsShiftWithin 10368) (sym (get_or_append_left rows (r ∷ []) [] i b)) (h i b))
    (subst (IsShiftWithin 10368) (sym (get_or-append_seam rows r [] [])) v) i (subst (λ m. i < m) (length-more rows r) b))

pub rows-more : (rows : List (List ℤ)) (numbers : List ℕ) (n : ℕ) (chosen chosen' : List (List ℤ)) (r : List ℤ) → chosen' ≡ chosen ++ r ∷ [] → r ≡ get_or rows (get_or numbers n 0) []
    → AreRowsAt rows numbers n chosen → AreRowsAt rows numbers (n + 1) chosen'
rows-more rows numbers n chosen chosen' r e v h = record {
  count = ap length e ∙ length-more chosen r ∙ ap (λ m. m + 1) h.count;
  row = below_more (λ i. get_or chosen' i [] ≡ get_or rows (get_or numbers i 0) []) n
      (λ i b. ap (λ (xs : List (List ℤ)). get_or xs i []) e ∙ get_or_append_left chosen (r ∷ []) [] i (subst (λ m. i < m) (sym h.count) b) ∙ h.row i b)
      (ap (λ (xs : List (List ℤ)). get_or xs n []) e ∙ ap (λ m. get_or (chosen ++ r ∷ []) m []) (sym h.count) ∙ get_or-append_seam chosen r [] [] ∙ v);
}
