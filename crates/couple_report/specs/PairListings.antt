-- What a listing of the directions of pairs obeys.
--
-- IsOfPair f a b v w d: the elements in both stabilisers are of the class of the stabiliser of d
-- HasOneOfPair f a b v w ds: exactly one of ds is of that class
-- IsOfSomePair f a b d: the stabiliser of d is the rising list of the elements in both stabilisers of some pair
-- ListsPairs f a b ds: both, for each pair and each of ds
use Rattle.std.specs.Prelude.{◌≡◌, ℕ, ◌<◌, ◌↔◌, ℤ, Bool, List, All, Contains, Some, slice_get}
use Rattle.cyclo24.specs.FieldOn.{FieldOn}
use Rattle.cyclo24.specs.ExactField.{Exact}
use Rattle.lin_alg.specs.Action.{Action}
use Rattle.class_list.specs.Directions.{Direction}
use Rattle.class_list.specs.Stabilisers.{conjugate}
use Rattle.couple.specs.Coupled.{IsInBoth, AreInBoth}

-- the elements in both stabilisers are q H q^-1 for the stabiliser H of the direction and an element q
abbrev pub IsOfPair : {valid : List ℤ → Bool} → FieldOn (Exact valid) → Action → Action → (ℕ → Exact valid) → (ℕ → Exact valid) → Direction (Exact valid) → Type 0
IsOfPair f a b v w d = (q : ℕ) × (q < a.group.order) × ((e : ℕ) → e < a.group.order → Contains d.stabiliser e ↔ IsInBoth f a b v w (conjugate a.group q e))

-- exactly one of the directions
pub record HasOneOfPair {valid : List ℤ → Bool} (f : FieldOn (Exact valid)) (a b : Action) (v w : ℕ → Exact valid) (ds : List (Direction (Exact valid))) : Type 0 where
  pub at : ℕ
  pub direction : Direction (Exact valid)
  pub is_at : slice_get ds at ≡ Some direction
  pub of_pair : IsOfPair f a b v w direction
  pub only : (k : ℕ) (d : Direction (Exact valid)) → slice_get ds k ≡ Some d → IsOfPair f a b v w d → k ≡ at

-- the list of the elements in both stabilisers of some pair, rising and whole
abbrev pub IsOfSomePair : {valid : List ℤ → Bool} → FieldOn (Exact valid) → Action → Action → Direction (Exact valid) → Type 0
IsOfSomePair {valid} f a b d = (v : ℕ → Exact valid) × (w : ℕ → Exact valid) × AreInBoth f a b v w d.stabiliser

pub record ListsPairs {valid : List ℤ → Bool} (f : FieldOn (Exact valid)) (a b : Action) (ds : List (Direction (Exact valid))) : Type 0 where
  pub one : (v w : ℕ → Exact valid) → HasOneOfPair f a b v w ds
  pub each : All (IsOfSomePair f a b) ds
