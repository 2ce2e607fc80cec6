-- Matrices over a field as functions of row and column, both from 0.
--
-- mul f d a b: the product, with d inner places
-- apply f d a v: the image of a vector
-- unit_entry f i j: the unit matrix
-- multiple f x a: x times each entry
-- trace f d a: the sum of the entries on the diagonal
-- AreEqualBelow n a b: the same entries in the first n rows and columns
-- block, induced: matrices of blocks, one for each arm
-- weighted f n w m: the sum of the matrices with weights
-- convolution f g w u: the convolution of functions on a group
-- IsRepresentation f g d m: the matrices multiply as the group
-- IsClassFunction g w: the same number on conjugate elements
use Rattle.std.specs.Prelude.{◌≡◌, ℕ, ◌<◌, ◌/◌, ◌%◌, nat_eq, if◌then◌else◌}
use Rattle.algebra.specs.NumberedGroup.{Group}
use Rattle.cyclo24.specs.FieldOn.{FieldOn}
use Rattle.cyclo24.specs.Sums.{total}

-- row times column
abbrev pub mul : {K : Type 0} → FieldOn K → ℕ → (ℕ → ℕ → K) → (ℕ → ℕ → K) → ℕ → ℕ → K
mul f d a b = λ i j. total f d (λ k. f.times (a i k) (b k j))

-- row times vector
abbrev pub apply : {K : Type 0} → FieldOn K → ℕ → (ℕ → ℕ → K) → (ℕ → K) → ℕ → K
apply f d a v = λ i. total f d (λ k. f.times (a i k) (v k))

-- 1 on the diagonal, 0 elsewhere
abbrev pub unit_entry : {K : Type 0} → FieldOn K → ℕ → ℕ → K
unit_entry f i j = if nat_eq i j then f.unit else f.nought

-- x times each entry
abbrev pub multiple : {K : Type 0} → FieldOn K → K → (ℕ → ℕ → K) → ℕ → ℕ → K
multiple f x a = λ i j. f.times x (a i j)

-- the sum of the entries on the diagonal
abbrev pub trace : {K : Type 0} → FieldOn K → ℕ → (ℕ → ℕ → K) → K
trace f d a = total f d (λ i. a i i)

-- equal in the first n rows and columns
abbrev pub AreEqualBelow : {K : Type 0} → ℕ → (ℕ → ℕ → K) → (ℕ → ℕ → K) → Type 0
AreEqualBelow n a b = (i j : ℕ) → i < n → j < n → a i j ≡ b i j

-- the entry (x, y) of the block in row j and column i of blocks: that of arm i where i is moved to j, else 0
abbrev pub block : {K : Type 0} → FieldOn K → (ℕ → ℕ) → (ℕ → ℕ → ℕ → K) → ℕ → ℕ → ℕ → ℕ → K
block f move g j x i y = if nat_eq j (move i) then g i x y else f.nought

-- the matrix of blocks of size s
abbrev pub induced : {K : Type 0} → FieldOn K → ℕ → (ℕ → ℕ) → (ℕ → ℕ → ℕ → K) → ℕ → ℕ → K
induced f s move g p q = block f move g (p / s) (p % s) (q / s) (q % s)

-- the sum of weight times matrix
abbrev pub weighted : {K : Type 0} → FieldOn K → ℕ → (ℕ → K) → (ℕ → ℕ → ℕ → K) → ℕ → ℕ → K
weighted f n w m = λ i j. total f n (λ q. f.times (w q) (m q i j))

-- at p, the sum over a of w a times u (a^-1 p)
abbrev pub convolution : {K : Type 0} → FieldOn K → Group → (ℕ → K) → (ℕ → K) → ℕ → K
convolution f g w u = λ p. total f g.order (λ a. f.times (w a) (u (g.product (g.inverse a) p)))

-- the same number on q and p q p^-1
abbrev pub IsClassFunction : {K : Type 0} → Group → (ℕ → K) → Type 0
IsClassFunction g w = (q p : ℕ) → q < g.order → p < g.order → w (g.product (g.product p q) (g.inverse p)) ≡ w q

-- the d by d matrices multiply as the group
abbrev pub IsRepresentation : {K : Type 0} → FieldOn K → Group → ℕ → (ℕ → ℕ → ℕ → K) → Type 0
IsRepresentation f g d m = (a b : ℕ) → a < g.order → b < g.order → AreEqualBelow d (m (g.product a b)) (mul f d (m a) (m b))
