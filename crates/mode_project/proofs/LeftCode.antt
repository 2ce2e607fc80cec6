use Rattle.std.proofs.Common.{◌≡◌, ℕ, suc, zero, ◌+◌, ◌*◌, ◌<◌, ◌≤◌, inl, inr, refl, sym, ◌∙◌, ap, subst, arith, List, [], ◌∷◌, length, Vec}
use Rattle.std.specs.Prelude.{slice_index, slice_index_or}
use Rattle.cyclo24.specs.ExactField.{ExactField, Value}
use Rattle.cyclo24.specs.FieldOn.{FieldOn}
use Rattle.cyclo24.specs.FieldLaws.{times-nought, neg-nought}
use Rattle.cyclo24.specs.SumLaws.{all-nought}
use Rattle.lin_alg.specs.EquationLaws.{dec}
use Rattle.lin_alg.specs.Matrices.{apply}
use Rattle.lin_alg.specs.RowLaws.{vector-past}
use Rattle.lin_alg.specs.Rows.{vector}
use Rattle.lin_alg.specs.SpanLaws.{funext}
use Rattle.mode_project.specs.AtomSpace.{AtomSpace, size_of, matrix_of}
use Rattle.mode_project.specs.AtomSpaceLaws.{row-at, number-at}
use Rattle.mode_project.specs.DirectionParts.{combined}
use Rattle.mode_project.specs.Modes.{vector_at}
use Rattle.mode_project.specs.Parts.{rows_in, row_in, AreVectors, image_row}
use Rattle.mode_project.specs.ProjectionLaws.{cut-inside}
use Rattle.mode_project.specs.Wide.{left_row}

module _ {A : Type 0} where
  index-past : (rows : List (List A)) (k : ℕ) → length rows ≤ k → slice_index_or rows k [] ≡ []
  index-past [] k l = refl
  index-past (r ∷ rows) zero l = absurd (omega (arith, l))
  index-past (r ∷ rows) (suc k) l = index-past rows k (omega (arith, l))

at-past : {K : Type 0} (f : FieldOn K) (xs : List (ℕ → K)) (k : ℕ) → length xs ≤ k → vector_at f xs k ≡ (λ _. f.nought)
at-past f [] k l = refl
at-past f (x ∷ xs) zero l = absurd (omega (arith, l))
at-past f (x ∷ xs) (suc k) l = at-past f xs k (omega (arith, l))

module _ {A : Type 0} (f : ExactField) (value : A → Value f) where
  pub row-past : (rows : List (List A)) (k : ℕ) → length rows ≤ k → row_in f.laws value rows k ≡ (λ _. f.laws.nought)
  row-past rows k l = ap (vector f.laws value) (index-past rows k l) ∙ funext (λ j. vector-past f value [] j (omega arith))

  -- vectors of a list, by their numbers
  pub rows-are : (d : ℕ) (xs : List (ℕ → Value f)) (rows : List (List A)) → AreVectors f.laws value d (vector_at f.laws xs) rows (length xs) → row_in f.laws value rows ≡ vector_at f.laws xs
  rows-are d xs rows h =
      funext (λ k. elim (dec k (length xs)) [
        | inl l ↦ h.exact k l
        | inr l ↦ row-past rows k (subst (λ (n : ℕ). n ≤ k) (sym h.count) l) ∙ sym (at-past f.laws xs k l)
      ])

  pub combined-past : (d : ℕ) (x : ℕ → ℕ → Value f) (rows : List (List A)) (m : ℕ) → ((k : ℕ) → k < m → length (slice_index_or rows k []) ≡ d) → (n i : ℕ) → d ≤ i
      → combined f.laws m x (row_in f.laws value rows) n i ≡ f.laws.nought
  combined-past d x rows m h n i l =
      all-nought f.laws m _ (λ k lk. ap (f.laws.times (x n k)) (vector-past f value (slice_index_or rows k []) i (subst (λ (z : ℕ). z ≤ i) (sym (h k lk)) l)) ∙ times-nought f.laws (x n k))

  module _ (s : AtomSpace) (h : List ℕ) (rows : List (List A)) (m : ℕ) (em : length rows ≡ m) (n i : ℕ) (l : i < size_of s) where
    abbrev d : ℕ
    d = size_of s

    abbrev q : ℕ
    q = slice_index h n

    abbrev b : ℕ → ℕ → Value f
    b = row_in f.laws value rows

    -- a row of differences by its element and entry
    left-at : (k : ℕ) → f.laws.plus (apply f.laws d (matrix_of f.laws s q) (b k) i) (f.laws.neg (b k i)) ≡ left_row f.laws s h b (n * d + i) k
    left-at k = λ t. f.laws.plus (apply f.laws d (matrix_of f.laws s (slice_index h (sym (row-at d n i l) t))) (b k) (sym (number-at d n i l) t)) (f.laws.neg (b k (sym (number-at d n i l) t)))

    left-past : (k : ℕ) → m ≤ k → left_row f.laws s h b (n * d + i) k ≡ f.laws.nought
    left-past k lm =
        let lk : length rows ≤ k = omega (arith, em, lm) in
        sym (left-at k)
        ∙ (λ t. f.laws.plus (apply f.laws d (matrix_of f.laws s q) (row-past rows k lk t) i) (f.laws.neg (row-past rows k lk t i)))
        ∙ (λ t. f.laws.plus (all-nought f.laws d _ (λ j m. times-nought f.laws (matrix_of f.laws s q i j)) t) (neg-nought f.laws t))
        ∙ f.laws.plus-nought f.laws.nought

    -- the row that the code writes
    pub left-written : (images : List (List A)) (row : List A) → AreVectors f.laws value d (λ k. image_row f.laws s q (b k)) images m → length row ≡ m
        → ((k : ℕ) → k < m → vector f.laws value row k ≡ f.laws.plus (row_in f.laws value images k i) (f.laws.neg (b k i)))
        → vector f.laws value row ≡ left_row f.laws s h b (n * d + i)
    left-written images row moved len e =
        funext (λ k. elim (dec k m) [
          | inl lk ↦
              e k lk
              ∙ ap (λ (x : Value f). f.laws.plus x (f.laws.neg (b k i)))
              (ap (λ (v : ℕ → Value f). v i) (moved.exact k lk) ∙ cut-inside f.laws d (apply f.laws d (matrix_of f.laws s q) (b k)) i l)
              ∙ left-at k
          | inr lk ↦ vector-past f value row k (subst (λ (z : ℕ). z ≤ k) (sym len) lk) ∙ sym (left-past k lk)
        ])

    -- the image at the entry
    pub image-at : (images : List (List A)) → AreVectors f.laws value d (λ k. image_row f.laws s q (b k)) images m → (k : ℕ) → k < m
        → row_in f.laws value images k i ≡ apply f.laws d (matrix_of f.laws s q) (b k) i
    image-at images moved k lk = ap (λ (v : ℕ → Value f). v i) (moved.exact k lk) ∙ cut-inside f.laws d (apply f.laws d (matrix_of f.laws s q) (b k)) i l

-- vectors by another name
pub vectors-as : {A K Z : Type 0} (f : FieldOn K) (value : A → K) (d : ℕ) (target : ℕ → ℕ → K) (m : ℕ) (vs ws : List (Vec A Z)) → ws ≡ vs → AreVectors f value d target (rows_in vs) m → AreVectors f value d target (rows_in ws) m
vectors-as {A} {K} {Z} f value d target m vs ws e h = subst (λ (xs : List (Vec A Z)). AreVectors f value d target (rows_in xs) m) (sym e) h
