-- The rows of an inverse matrix from cross products.
use Rattle.std.proofs.Common.{◌≡◌, ◌∙◌, ℤ, ◌*ℤ◌, List, [], ◌∷◌, FitsSigned, w8}
use Rattle.std.proofs.lemmas.Int.{to_z-of_z}
use Rattle.algebra.specs.Whole.{whole}
use Rattle.space_ops.specs.Matrix.{determinant}
use Rattle.space_ops.specs.Seitz.{inverse_matrix}
use Rattle.space_ops.specs.Op.{number_at, row_at, matrix_of, rows_of, cross_product}
use Rattle.space_ops.proofs.Passed.{passed}

pub passed_scaled : (row : List ℤ) (s x y z : ℤ) → FitsSigned w8 s → FitsSigned w8 x → FitsSigned w8 y → FitsSigned w8 z
    → row ≡ (passed s *ℤ passed x) ∷ (passed s *ℤ passed y) ∷ (passed s *ℤ passed z) ∷ [] → row ≡ (s *ℤ x) ∷ (s *ℤ y) ∷ (s *ℤ z) ∷ []
passed_scaled row s x y z f g h k e =
    e ∙ (λ i. (to_z-of_z w8 s f i *ℤ to_z-of_z w8 x g i) ∷ (to_z-of_z w8 s f i *ℤ to_z-of_z w8 y h i) ∷ (to_z-of_z w8 s f i *ℤ to_z-of_z w8 z k i) ∷ [])

pub inverse_rows : (a : List (List ℤ)) (s : ℤ) (f g h r0 r1 r2 : List ℤ) → s ≡ determinant whole (matrix_of a)
    → f ≡ cross_product (row_at a 1) (row_at a 2) → g ≡ cross_product (row_at a 2) (row_at a 0) → h ≡ cross_product (row_at a 0) (row_at a 1)
    → r0 ≡ (s *ℤ number_at f 0) ∷ (s *ℤ number_at g 0) ∷ (s *ℤ number_at h 0) ∷ []
    → r1 ≡ (s *ℤ number_at f 1) ∷ (s *ℤ number_at g 1) ∷ (s *ℤ number_at h 1) ∷ []
    → r2 ≡ (s *ℤ number_at f 2) ∷ (s *ℤ number_at g 2) ∷ (s *ℤ number_at h 2) ∷ []
    → r0 ∷ r1 ∷ r2 ∷ [] ≡ rows_of (inverse_matrix whole (matrix_of a))
inverse_rows a s f g h r0 r1 r2 d p q r e0 e1 e2 =
    (λ i. e0 i ∷ e1 i ∷ e2 i ∷ [])
    ∙ (λ i. ((d i *ℤ number_at (p i) 0) ∷ (d i *ℤ number_at (q i) 0) ∷ (d i *ℤ number_at (r i) 0) ∷ [])
    ∷ ((d i *ℤ number_at (p i) 1) ∷ (d i *ℤ number_at (q i) 1) ∷ (d i *ℤ number_at (r i) 1) ∷ [])
    ∷ ((d i *ℤ number_at (p i) 2) ∷ (d i *ℤ number_at (q i) 2) ∷ (d i *ℤ number_at (r i) 2) ∷ []) ∷ [])
