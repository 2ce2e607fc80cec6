-- Numbered groups that move the members of a type.
--
-- Moves: the group and how an element moves a member; AreMoves: it moves by products
-- Fixes g a v; FixOf g H; StabOf g U: fixed members and stabilisers
-- moved g q U: q U; conjugate g q a: q a q^-1
-- AreConjugateBy g q H K: K is q H q^-1
use Rattle.std.specs.Prelude.{◌≡◌, ◌↔◌, ◌<◌, ℕ}
use Rattle.algebra.specs.NumberedGroup.{Group, IsGroup}

-- a numbered group that moves the members of a type
pub record Moves (V : Type 0) : Type 0 where
  pub group : Group
  pub move : ℕ → V → V

-- the laws of a group, and that it moves by products
pub record AreMoves {V : Type 0} (g : Moves V) : Type 0 where
  pub group : IsGroup g.group
  pub move-identity : (v : V) → g.move 0 v ≡ v
  pub move-product : (a b : ℕ) → a < g.group.order → b < g.group.order → (v : V) → g.move (g.group.product a b) v ≡ g.move a (g.move b v)

-- element a leaves v as it is
abbrev pub Fixes : {V : Type 0} → Moves V → ℕ → V → Type 0
Fixes g a v = g.move a v ≡ v

-- each element of H leaves v as it is
abbrev pub FixOf : {V : Type 0} → Moves V → (ℕ → Type 0) → V → Type 0
FixOf g H v = (a : ℕ) → a < g.group.order → H a → Fixes g a v

-- a leaves each member of U as it is
abbrev pub StabOf : {V : Type 0} → Moves V → (V → Type 0) → ℕ → Type 0
StabOf {V} g U a = (v : V) → U v → Fixes g a v

-- q U
abbrev pub moved : {V : Type 0} → Moves V → ℕ → (V → Type 0) → V → Type 0
moved g q U v = U (g.move (g.group.inverse q) v)

-- q a q^-1
abbrev pub conjugate : {V : Type 0} → Moves V → ℕ → ℕ → ℕ
conjugate g q a = g.group.product (g.group.product q a) (g.group.inverse q)

-- K is q H q^-1
abbrev pub AreConjugateBy : {V : Type 0} → Moves V → ℕ → (ℕ → Type 0) → (ℕ → Type 0) → Type 0
AreConjugateBy g q H K = (a : ℕ) → a < g.group.order → H a ↔ K (conjugate g q a)
