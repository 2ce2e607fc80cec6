-- Two actions of one group as one action on the pairs of their vectors.
--
-- IsOneGroup a b: both have one order, product, inverse and list of generators
-- block_entry f a b q i j: entry (i, j) of the matrix with the blocks of a and b on its diagonal
-- coupled f a b: the action on pairs, by these matrices
-- pair a v w: the pair of v and w as one vector, the coordinates of v first
-- second a u: the second vector of a pair
-- IsInBoth f a b v w q: q leaves v and w as they are
-- AreInBoth f a b v w hs: hs is the rising list of these elements
use Rattle.std.specs.Prelude.{◌≡◌, ℕ, ◌<◌, ◌+◌, ◌-◌, ℤ, Bool, List, ltb, if◌then◌else◌}
use Rattle.algebra.specs.RisingLists.{IsRisingListOf}
use Rattle.cyclo24.specs.FieldOn.{FieldOn}
use Rattle.cyclo24.specs.ExactField.{Exact}
use Rattle.lin_alg.specs.Action.{Action, IsFixed}
use Rattle.lin_alg.specs.Solving.{joined}

-- one order, product and inverse of the elements, and one list of generators
pub record IsOneGroup (a b : Action) : Type 0 where
  pub order : a.group.order ≡ b.group.order
  pub product : (p q : ℕ) → p < a.group.order → q < a.group.order → a.group.product p q ≡ b.group.product p q
  pub inverse : (q : ℕ) → q < a.group.order → a.group.inverse q ≡ b.group.inverse q
  pub generators : a.generators ≡ b.generators
  pub generator : (i : ℕ) → i < a.generators → a.generator i ≡ b.generator i

-- the entries of a, then those of b, 0 where a row of one meets a column of the other
abbrev pub block_entry : {valid : List ℤ → Bool} → FieldOn (Exact valid) → Action → Action → ℕ → ℕ → ℕ → List ℤ
block_entry f a b q i j =
    if ltb i a.dim
    then (if ltb j a.dim then a.entry q i j else f.nought.0)
    else (if ltb j a.dim then f.nought.0 else b.entry q (i - a.dim) (j - a.dim))

-- the group of a on the pairs of a vector of a and one of b
abbrev pub coupled : {valid : List ℤ → Bool} → FieldOn (Exact valid) → Action → Action → Action
coupled f a b = record { group = a.group; generators = a.generators; generator = a.generator; dim = a.dim + b.dim; entry = block_entry f a b }

-- v and w as one vector, the coordinates of v first
abbrev pub pair : {K : Type 0} → Action → (ℕ → K) → (ℕ → K) → ℕ → K
pair a v w = joined a.dim v w

-- the second vector of a pair
abbrev pub second : {K : Type 0} → Action → (ℕ → K) → ℕ → K
second a u j = u (a.dim + j)

-- q is in both stabilisers
abbrev pub IsInBoth : {valid : List ℤ → Bool} → FieldOn (Exact valid) → Action → Action → (ℕ → Exact valid) → (ℕ → Exact valid) → ℕ → Type 0
IsInBoth f a b v w q = IsFixed f a q v × IsFixed f b q w

-- all elements in both stabilisers, rising
abbrev pub AreInBoth : {valid : List ℤ → Bool} → FieldOn (Exact valid) → Action → Action → (ℕ → Exact valid) → (ℕ → Exact valid) → List ℕ → Type 0
AreInBoth f a b v w hs = IsRisingListOf a.group.order (IsInBoth f a b v w) hs
