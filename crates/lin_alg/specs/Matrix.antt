-- What contracts see of a matrix, and the written numbers of a product.
--
-- MatrixView: its numbers of rows and columns, and its entries row by row
-- entry f value m i j: the exact value of an entry, and 0 outside
-- with_entry i j x m: m with x in one place
-- IsWideDot f d x y: the sum of products x k times y k for k below d is wide
-- IsWideMul f n d m a b: the product of an n by d and a d by m matrix is wide
-- IsWideTrace f n a: the trace of an n by n matrix is wide
-- IsWideMultiple f n x a: a product of x with an entry of an n by n matrix is wide
use Rattle.std.specs.Prelude.{◌≡◌, ℕ, ◌+◌, ◌*◌, ◌<◌, false, IsTrue, List, ◌⊎◌, ◌&&◌, ltb, nat_eq, if◌then◌else◌}
use Rattle.cyclo24.specs.FieldOn.{FieldOn}
use Rattle.cyclo24.specs.ExactField.{ExactField, Value}
use Rattle.cyclo24.specs.Sums.{total}
use Rattle.lin_alg.specs.Rows.{vector}

-- a matrix as contracts see it
pub record MatrixView (A : Type 0) : Type 0 where
  pub rows : ℕ
  pub cols : ℕ
  pub entries : List A

-- the exact value of entry (i, j), and 0 outside
abbrev pub entry : {A K : Type 0} → FieldOn K → (A → K) → MatrixView A → ℕ → ℕ → K
entry f value m i j = if ltb j m.cols then vector f value m.entries (i * m.cols + j) else f.nought

-- x at (i, j), and m elsewhere
abbrev pub with_entry : {K : Type 0} → ℕ → ℕ → K → (ℕ → ℕ → K) → ℕ → ℕ → K
with_entry i j x m k l = if nat_eq k i && nat_eq l j then x else m k l

-- adding x y to a sum is wide. A product with a factor 0 isn't formed, and a product alone isn't added
abbrev pub IsWideTerm : (f : ExactField) → Value f → Value f → Value f → Type 0
IsWideTerm f sum x y =
    (f.laws.is_nought x ≡ false) × (f.laws.is_nought y ≡ false)
    × (IsTrue (f.is_wide_product x y) ⊎ ((f.laws.is_nought sum ≡ false) × IsTrue (f.is_wide_sum sum (f.laws.times x y))))

-- a term of the sum of x k times y k, from left to right, is wide
abbrev pub IsWideDot : (f : ExactField) → ℕ → (ℕ → Value f) → (ℕ → Value f) → Type 0
IsWideDot f d x y = (k : ℕ) × (k < d) × IsWideTerm f (total f.laws k (λ l. f.laws.times (x l) (y l))) (x k) (y k)

-- an entry of the product is wide
abbrev pub IsWideMul : (f : ExactField) → ℕ → ℕ → ℕ → (ℕ → ℕ → Value f) → (ℕ → ℕ → Value f) → Type 0
IsWideMul f n d m a b = (i : ℕ) × (i < n) × (j : ℕ) × (j < m) × IsWideDot f d (a i) (λ k. b k j)

-- a partial sum of the diagonal, from left to right, is wide
abbrev pub IsWideTrace : (f : ExactField) → ℕ → (ℕ → ℕ → Value f) → Type 0
IsWideTrace f n a = (i : ℕ) × (i < n) × IsTrue (f.is_wide_sum (total f.laws i (λ k. a k k)) (a i i))

-- the product of x with an entry is wide
abbrev pub IsWideMultiple : (f : ExactField) → ℕ → Value f → (ℕ → ℕ → Value f) → Type 0
IsWideMultiple f n x a = (i : ℕ) × (i < n) × (j : ℕ) × (j < n) × IsTrue (f.is_wide_product x (a i j))
