-- What an entry of a listing is made of.
--
-- IsEntryOf f value act order rows keys d: the direction of a fixed subspace with these rows, with its whole stabiliser and its numbers
use Rattle.std.specs.Prelude.{◌≡◌, ℕ, ◌-◌, ◌≤◌, ℤ, Bool, List, length}
use Rattle.cyclo24.specs.FieldOn.{FieldOn}
use Rattle.cyclo24.specs.ExactField.{Exact}
use Rattle.lin_alg.specs.Action.{Action}
use Rattle.lin_alg.specs.Equations.{Vanishes}
use Rattle.lin_alg.specs.Rows.{exact_rows}
use Rattle.lin_alg.specs.Spans.{row_vectors}
use Rattle.fix_lattice.specs.Subspaces.{IsWholeForm}
use Rattle.class_list.specs.declared.order.Order.{Order}
use Rattle.class_list.specs.Stabilisers.{IsPointwiseStabiliserOf}
use Rattle.class_list.specs.Seen.{DirectionView}
use Rattle.class_list.specs.Ranked.{keys_of}

-- the direction of a fixed subspace with these rows, with its whole stabiliser and its numbers
pub record IsEntryOf {A : Type 0} {valid : List ℤ → Bool} (f : FieldOn (Exact valid)) (value : A → Exact valid) (act : Action) (order : Order) (lines : List (ℕ × List A)) (numbers : ℕ × ℕ) (d : DirectionView A) : Type 0 where
  pub rows : d.equations.rows ≡ lines
  pub form : IsWholeForm f value act.dim d.equations
  pub stabiliser : IsPointwiseStabiliserOf f act (Vanishes f act.dim (row_vectors (exact_rows f value lines))) d.stabiliser
  pub few : length d.stabiliser ≤ act.group.order
  pub keys : numbers ≡ keys_of order (act.dim - length lines) (act.group.order - length d.stabiliser)
