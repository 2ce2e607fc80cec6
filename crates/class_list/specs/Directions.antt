-- Order parameter directions: fixed subspaces by their equations, with their whole stabilisers, and
-- the listing of one direction for each class of isotropy subgroups.
--
-- Direction: the equations of a subspace and the elements that fix each of its vectors
-- IsDirection f act d: d is the fixed subspace of an isotropy subgroup, with its whole stabiliser
-- IsOfClass f act v d: the stabiliser of v is of the class of that of d
-- HasOneOfClass f act v ds: exactly one of ds is of the class of the stabiliser of v
-- dim_of act d: how many coordinates are free
-- entries w v: the first w entries of a row
-- equations_cmp cmp w: rows in order, entry by entry, each by the order of the field
-- direction_cmp cmp act order: by dimension, dimension rising, order falling, equations rising; by
--     index, order falling, dimension rising, equations rising
-- IsListing f cmp act order ds: ds has the least direction of each class, once, in order
use Rattle.std.specs.Prelude.{◌≡◌, ◌≢◌, ℕ, suc, zero, ◌-◌, ◌<◌, ◌↔◌, ℤ, Bool, List, [], ◌∷◌, All, Contains, Some, length, slice_get, IsSorted}
use Rattle.std.specs.Ordering.{nat_cmp, on, then_cmp, flip_args}
use Rattle.std.specs.Cmp.Lexicographic.{slice_cmp}
use Rattle.std.specs.declared.cmp.Ordering.{Ordering}
use Rattle.std.specs.declared.cmp.Ordering.TheVariants.{Greater}
use Rattle.cyclo24.specs.FieldOn.{FieldOn}
use Rattle.cyclo24.specs.ExactField.{Exact}
use Rattle.lin_alg.specs.Action.{Action, IsFixed}
use Rattle.lin_alg.specs.Equations.{IsEquationsOf}
use Rattle.lin_alg.specs.Fixed.{FixesAll}
use Rattle.class_list.specs.declared.order.Order.{Order}
use Rattle.class_list.specs.declared.order.Order.TheVariants.{Dimension, Index}
use Rattle.class_list.specs.Stabilisers.{IsIsotropySubgroup, IsInFixedSpace, AreConjugate, conjugate}

-- a subspace by its equations, and the numbers of the elements that fix each of its vectors
pub record Direction (K : Type 0) : Type 0 where
  pub equations : List (ℕ × (ℕ → K))
  pub stabiliser : List ℕ

-- a fixed subspace with all the elements that fix each of its vectors
pub record IsDirection {valid : List ℤ → Bool} (f : FieldOn (Exact valid)) (act : Action) (d : Direction (Exact valid)) : Type 0 where
  pub isotropy : IsIsotropySubgroup f act d.stabiliser
  pub equations : IsEquationsOf f act.dim (IsInFixedSpace f act d.stabiliser) d.equations
  pub whole : (q : ℕ) → q < act.group.order → FixesAll (IsFixed f act) (IsInFixedSpace f act d.stabiliser) q → Contains d.stabiliser q

-- the stabiliser of v is q H q^-1 for the stabiliser H of the direction and an element q
abbrev pub IsOfClass : {valid : List ℤ → Bool} → FieldOn (Exact valid) → Action → (ℕ → Exact valid) → Direction (Exact valid) → Type 0
IsOfClass f act v d = (q : ℕ) × (q < act.group.order) × ((a : ℕ) → a < act.group.order → Contains d.stabiliser a ↔ IsFixed f act (conjugate act.group q a) v)

-- exactly one of the directions has a stabiliser of the class of that of v
pub record HasOneOfClass {valid : List ℤ → Bool} (f : FieldOn (Exact valid)) (act : Action) (v : ℕ → Exact valid) (ds : List (Direction (Exact valid))) : Type 0 where
  pub at : ℕ
  pub direction : Direction (Exact valid)
  pub is_at : slice_get ds at ≡ Some direction
  pub of_class : IsOfClass f act v direction
  pub only : (k : ℕ) (d : Direction (Exact valid)) → slice_get ds k ≡ Some d → IsOfClass f act v d → k ≡ at

-- how many coordinates are free
abbrev pub dim_of : {K : Type 0} → Action → Direction K → ℕ
dim_of act d = act.dim - length d.equations

-- the first w entries of a row
abbrev pub entries : {K : Type 0} → ℕ → (ℕ → K) → List K
entries zero v = []
entries (suc w) v = v 0 ∷ entries w (λ j. v (suc j))

-- row by row, each entry by entry, each entry by the field's order
abbrev pub equations_cmp : {K : Type 0} → (K → K → Ordering) → ℕ → List (ℕ × (ℕ → K)) → List (ℕ × (ℕ → K)) → Ordering
equations_cmp cmp w = slice_cmp (on (λ r. entries w r.1) (slice_cmp cmp))

-- dimension rising, then the order of the stabiliser falling, then equations rising; or the order first
abbrev pub direction_cmp : {K : Type 0} → (K → K → Ordering) → Action → Order → Direction K → Direction K → Ordering
direction_cmp cmp act Dimension =
    then_cmp (on (dim_of act) nat_cmp) (then_cmp (on (λ d. length d.stabiliser) (flip_args nat_cmp)) (on (λ d. d.equations) (equations_cmp cmp act.dim)))
direction_cmp cmp act Index =
    then_cmp (on (λ d. length d.stabiliser) (flip_args nat_cmp)) (then_cmp (on (dim_of act) nat_cmp) (on (λ d. d.equations) (equations_cmp cmp act.dim)))

-- the least direction of each class of isotropy subgroups, once, in order
pub record IsListing {valid : List ℤ → Bool} (f : FieldOn (Exact valid)) (cmp : Exact valid → Exact valid → Ordering) (act : Action) (order : Order) (ds : List (Direction (Exact valid))) : Type 0 where
  pub directions : All (IsDirection f act) ds
  pub one : (v : ℕ → Exact valid) → HasOneOfClass f act v ds
  pub least : (d e : Direction (Exact valid)) → Contains ds d → IsDirection f act e → AreConjugate act d.stabiliser e.stabiliser → direction_cmp cmp act order d e ≢ Greater
  pub sorted : IsSorted (direction_cmp cmp act order) ds
