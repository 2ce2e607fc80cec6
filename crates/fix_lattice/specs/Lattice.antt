-- The fixed subspaces of an action by their equations, and how many there are.
--
-- IsInSpace f w rows v: v is in the space of a form of w columns: each of its rows is 0 at v
-- form_at forms i: the rows at a place
-- HoldsFixes f act forms: the forms are the equations of each distinct Fix(H), each once
-- AreMoreFixes f act n, AreMoreSingles f act n: there are more than n distinct Fix(H), or Fix(q) of single elements
-- HasStabiliserOf f act rows v: an element fixes all on which the rows vanish exactly where it fixes v
-- HasEachStabiliser f act forms, AreStabilisers f act forms: the two sides of the theorem on stabilisers
use Rattle.std.specs.Prelude.{◌≡◌, ◌↔◌, ℕ, ◌<◌, ◌≤◌, ℤ, Bool, List, [], length, get_or}
use Rattle.algebra.specs.NumberedGroup.{AllBelow}
use Rattle.cyclo24.specs.FieldOn.{FieldOn}
use Rattle.cyclo24.specs.ExactField.{Exact}
use Rattle.lin_alg.specs.Action.{Action, IsFixed}
use Rattle.lin_alg.specs.Equations.{Vanishes}
use Rattle.lin_alg.specs.Fixed.{Fix, FixesAll, IsFixForm}
use Rattle.lin_alg.specs.Spans.{AreSame, row_vectors}

-- v is in the space of a form of w columns: each of its rows is 0 at v
abbrev pub IsInSpace : {K : Type 0} → FieldOn K → ℕ → List (ℕ × (ℕ → K)) → (ℕ → K) → Type 0
IsInSpace f w rows v = Vanishes f w (row_vectors rows) v

-- the rows at a place
abbrev pub form_at : {K : Type 0} → List (List (ℕ × (ℕ → K))) → ℕ → List (ℕ × (ℕ → K))
form_at forms i = get_or forms i []

-- the forms are the equations of each distinct Fix(H), each once
pub record HoldsFixes {valid : List ℤ → Bool} (f : FieldOn (Exact valid)) (act : Action) (forms : List (List (ℕ × (ℕ → Exact valid)))) : Type 0 where
  pub only : (i : ℕ) → i < length forms → (h : List ℕ) × AllBelow act.group.order h × IsFixForm f act h (form_at forms i)
  pub each : (h : List ℕ) → AllBelow act.group.order h → (i : ℕ) × (i < length forms) × IsFixForm f act h (form_at forms i)
  pub once : (i j : ℕ) → i < j → j < length forms → form_at forms i ≡ form_at forms j → ⊥

-- there are more than n distinct Fix(H), H any list of elements
abbrev pub AreMoreFixes : {valid : List ℤ → Bool} → FieldOn (Exact valid) → Action → ℕ → Type 0
AreMoreFixes f act n =
    (h : ℕ → List ℕ) × ((i : ℕ) → i ≤ n → AllBelow act.group.order (h i))
    × ((i j : ℕ) → i < j → j ≤ n → AreSame (Fix f act (h i)) (Fix f act (h j)) → ⊥)

-- there are more than n distinct Fix(q), q any element
abbrev pub AreMoreSingles : {valid : List ℤ → Bool} → FieldOn (Exact valid) → Action → ℕ → Type 0
AreMoreSingles f act n =
    (q : ℕ → ℕ) × ((i : ℕ) → i ≤ n → q i < act.group.order)
    × ((i j : ℕ) → i < j → j ≤ n → AreSame (IsFixed f act (q i)) (IsFixed f act (q j)) → ⊥)

-- an element fixes all on which the rows vanish exactly where it fixes v
abbrev pub HasStabiliserOf : {valid : List ℤ → Bool} → FieldOn (Exact valid) → Action → List (ℕ × (ℕ → Exact valid)) → (ℕ → Exact valid) → Type 0
HasStabiliserOf f act rows v = (q : ℕ) → q < act.group.order → FixesAll (IsFixed f act) (IsInSpace f act.dim rows) q ↔ IsFixed f act q v

-- each vector has the pointwise stabiliser of one held space
abbrev pub HasEachStabiliser : {valid : List ℤ → Bool} → FieldOn (Exact valid) → Action → List (List (ℕ × (ℕ → Exact valid))) → Type 0
HasEachStabiliser {valid} f act forms = (v : ℕ → Exact valid) → (i : ℕ) × (i < length forms) × HasStabiliserOf f act (form_at forms i) v

-- the pointwise stabiliser of each held space is the stabiliser of one of its vectors
abbrev pub AreStabilisers : {valid : List ℤ → Bool} → FieldOn (Exact valid) → Action → List (List (ℕ × (ℕ → Exact valid))) → Type 0
AreStabilisers {valid} f act forms = (i : ℕ) → i < length forms → (v : ℕ → Exact valid) × IsInSpace f act.dim (form_at forms i) v × HasStabiliserOf f act (form_at forms i) v
