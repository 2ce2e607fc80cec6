-- A product of square matrices compared with a multiple of a third one, entry by entry.
--
-- AreOfSize n a b c: three n by n matrices
-- IsEntry f value n x a b c i j: row i of a times column j of b is x times entry (i, j) of c
-- IsWideEntry f value n x a b c i j: a number of these is wide
use Rattle.std.specs.Prelude.{◌≡◌, ◌⊎◌, ℕ, IsTrue}
use Rattle.cyclo24.specs.ExactField.{ExactField, Value}
use Rattle.lin_alg.specs.Matrix.{MatrixView, entry, IsWideDot}
use Rattle.lin_alg.specs.Matrices.{mul, multiple}

-- three n by n matrices
pub record AreOfSize {A : Type 0} (n : ℕ) (a b c : MatrixView A) : Type 0 where
  pub a_rows : a.rows ≡ n
  pub a_cols : a.cols ≡ n
  pub b_rows : b.rows ≡ n
  pub b_cols : b.cols ≡ n
  pub c_rows : c.rows ≡ n
  pub c_cols : c.cols ≡ n

-- row i of a times column j of b is x times entry (i, j) of c
abbrev pub IsEntry : {A : Type 0} (f : ExactField) → (A → Value f) → ℕ → Value f → MatrixView A → MatrixView A → MatrixView A → ℕ → ℕ → Type 0
IsEntry f value n x a b c i j = mul f.laws n (entry f.laws value a) (entry f.laws value b) i j ≡ multiple f.laws x (entry f.laws value c) i j

-- a number of these is wide
abbrev pub IsWideEntry : {A : Type 0} (f : ExactField) → (A → Value f) → ℕ → Value f → MatrixView A → MatrixView A → MatrixView A → ℕ → ℕ → Type 0
IsWideEntry f value n x a b c i j =
    IsWideDot f n (entry f.laws value a i) (λ k. entry f.laws value b k j) ⊎ IsTrue (f.is_wide_product x (entry f.laws value c i j))
