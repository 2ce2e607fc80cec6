-- Fixed vectors and stabilisers, for any relation between elements and vectors, and for actions.
--
-- IsFixedByAll R h v: each element of the list leaves v as it is
-- FixesAll R U q: q leaves each vector of U as it is
-- Fix f act h: the vectors that each element of h fixes
-- mover f act q i: row i of A(q) - 1; movers: the first rows
-- IsFixForm f act h rows: the rows are the equations of Fix(h)
use Rattle.std.specs.Prelude.{◌≡◌, ℕ, suc, zero, ℤ, Bool, List, [], ◌∷◌, ◌⊎◌, if◌then◌else◌, ltb}
use Rattle.cyclo24.specs.FieldOn.{FieldOn}
use Rattle.cyclo24.specs.ExactField.{Exact}
use Rattle.lin_alg.specs.Matrices.{unit_entry}
use Rattle.lin_alg.specs.Action.{Action, IsFixed, entry_of}
use Rattle.lin_alg.specs.Equations.{IsEquationsOf}

-- x is one of the list
abbrev pub IsIn : {X : Type 0} → X → List X → Type 0
IsIn x [] = ⊥
IsIn x (y ∷ ys) = (x ≡ y) ⊎ IsIn x ys

module _ {E V : Type 0} (R : E → V → Type 0) where
  -- each member of h leaves v as it is
  abbrev pub IsFixedByAll : List E → V → Type 0
  IsFixedByAll [] v = Unit {0}
  IsFixedByAll (q ∷ h) v = R q v × IsFixedByAll h v

  -- q leaves each vector of U as it is
  abbrev pub FixesAll : (V → Type 0) → E → Type 0
  FixesAll U q = (v : V) → U v → R q v

-- Fix(h)
abbrev pub Fix : {valid : List ℤ → Bool} → FieldOn (Exact valid) → Action → List ℕ → (ℕ → Exact valid) → Type 0
Fix f act = IsFixedByAll (IsFixed f act)

-- row i of A(q) - 1, 0 past the dimension
abbrev pub mover : {valid : List ℤ → Bool} → FieldOn (Exact valid) → Action → ℕ → ℕ → ℕ → Exact valid
mover f act q i j = if ltb j act.dim then f.plus (entry_of f act q i j) (f.neg (unit_entry f i j)) else f.nought

-- the first n rows of A(q) - 1
abbrev pub movers : {valid : List ℤ → Bool} → FieldOn (Exact valid) → Action → ℕ → ℕ → List (ℕ → Exact valid)
movers f act q zero = []
movers f act q (suc n) = mover f act q n ∷ movers f act q n

-- the equations of Fix(h)
abbrev pub IsFixForm : {valid : List ℤ → Bool} → FieldOn (Exact valid) → Action → List ℕ → List (ℕ × (ℕ → Exact valid)) → Type 0
IsFixForm f act h rs = IsEquationsOf f act.dim (Fix f act h) rs
