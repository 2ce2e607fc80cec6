-- Stabilisers of order parameters, isotropy subgroups and their classes. An order parameter is a
-- vector of exact values, a function of the coordinate, of which an action reads the first `dim`.
--
-- IsStabiliserOf f act v hs: hs is the rising list of all elements that fix v
-- IsPointwiseStabiliserOf f act U hs: hs is the rising list of all elements that fix each vector of U
-- IsIsotropySubgroup f act hs: hs is the stabiliser of some vector
-- IsInFixedSpace f act hs v: each member of hs fixes v
-- conjugate g q a: q a q^-1
-- AreConjugate act hs ks: ks is q hs q^-1 for an element q
use Rattle.std.specs.Prelude.{ℕ, ◌<◌, ◌↔◌, ℤ, Bool, List, Contains}
use Rattle.algebra.specs.NumberedGroup.{Group}
use Rattle.algebra.specs.RisingLists.{IsRisingListOf}
use Rattle.cyclo24.specs.FieldOn.{FieldOn}
use Rattle.cyclo24.specs.ExactField.{Exact}
use Rattle.lin_alg.specs.Action.{Action, IsFixed}
use Rattle.lin_alg.specs.Fixed.{FixesAll}

-- hs is the rising list of all elements that fix v
abbrev pub IsStabiliserOf : {valid : List ℤ → Bool} → FieldOn (Exact valid) → Action → (ℕ → Exact valid) → List ℕ → Type 0
IsStabiliserOf f act v hs = IsRisingListOf act.group.order (λ q. IsFixed f act q v) hs

-- hs is the rising list of all elements that fix each vector of U
abbrev pub IsPointwiseStabiliserOf : {valid : List ℤ → Bool} → FieldOn (Exact valid) → Action → ((ℕ → Exact valid) → Type 0) → List ℕ → Type 0
IsPointwiseStabiliserOf f act U hs = IsRisingListOf act.group.order (FixesAll (IsFixed f act) U) hs

-- hs is the stabiliser of some vector
abbrev pub IsIsotropySubgroup : {valid : List ℤ → Bool} → FieldOn (Exact valid) → Action → List ℕ → Type 0
IsIsotropySubgroup {valid} f act hs = (v : ℕ → Exact valid) × IsStabiliserOf f act v hs

-- each member of hs fixes v
abbrev pub IsInFixedSpace : {valid : List ℤ → Bool} → FieldOn (Exact valid) → Action → List ℕ → (ℕ → Exact valid) → Type 0
IsInFixedSpace f act hs v = (q : ℕ) → Contains hs q → IsFixed f act q v

-- q a q^-1
abbrev pub conjugate : Group → ℕ → ℕ → ℕ
conjugate g q a = g.product (g.product q a) (g.inverse q)

-- ks is q hs q^-1 for an element q
abbrev pub AreConjugate : Action → List ℕ → List ℕ → Type 0
AreConjugate act hs ks = (q : ℕ) × (q < act.group.order) × ((a : ℕ) → a < act.group.order → Contains ks (conjugate act.group q a) ↔ Contains hs a)
