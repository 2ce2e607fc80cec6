-- Weights of the irreps, one list for each by element: the character plus its conjugate.
--
-- exact_weights lists: the lists as exact numbers by element
-- IsClassList g w: one number for each element of the quotient, and equal numbers on conjugate elements
-- AreWeights g lists: each list is so
-- weights_in v: the weights of an induced representation
use Rattle.std.specs.Prelude.{◌≡◌, ℕ, List, length, map}
use Rattle.std.specs.List.{All}
use Rattle.cyclo24.specs.declared.k24.K24.{K24}
use Rattle.cyclo24.specs.ExactK24.{Exact24, k24_laws}
use Rattle.cyclo24.specs.K24.{exact24}
use Rattle.lin_alg.specs.Matrices.{IsClassFunction}
use Rattle.lin_alg.specs.Rows.{vector}
use Rattle.super_group.specs.Quotient.{SupercellGroup, order_of, quotient_group}
use Rattle.induce.specs.InducedView.{InducedView}

abbrev pub exact_weights : List (List K24) → List (ℕ → Exact24)
exact_weights lists = map (vector k24_laws exact24) lists

pub record IsClassList (g : SupercellGroup) (w : List K24) : Type 0 where
  pub count : length w ≡ order_of g
  pub class : IsClassFunction (quotient_group g) (vector k24_laws exact24 w)

abbrev pub AreWeights : SupercellGroup → List (List K24) → Type 0
AreWeights g lists = All (IsClassList g) lists

abbrev pub weights_in : InducedView → List K24
weights_in v = v.weights
