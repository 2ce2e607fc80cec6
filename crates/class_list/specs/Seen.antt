-- Directions as contracts see them.
--
-- DirectionView: an echelon form and a list of elements
-- direction_of f value d: the direction of exact values that it stands for
-- directions_of f value ds: the directions of a list
use Rattle.std.specs.Prelude.{ℕ, List, map}
use Rattle.cyclo24.specs.FieldOn.{FieldOn}
use Rattle.lin_alg.specs.Echelon.{EchelonView}
use Rattle.lin_alg.specs.Rows.{exact_rows}
use Rattle.class_list.specs.Directions.{Direction}

-- a direction as contracts see it
pub record DirectionView (A : Type 0) : Type 0 where
  pub equations : EchelonView A
  pub stabiliser : List ℕ

-- the direction of exact values that it stands for
abbrev pub direction_of : {A K : Type 0} → FieldOn K → (A → K) → DirectionView A → Direction K
direction_of f value d = record { equations = exact_rows f value d.equations.rows; stabiliser = d.stabiliser }

-- the directions of a list
abbrev pub directions_of : {A K : Type 0} → FieldOn K → (A → K) → List (DirectionView A) → List (Direction K)
directions_of f value ds = map (direction_of f value) ds
