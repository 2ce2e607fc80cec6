-- What the parts of the code of amplitudes give.
--
-- IsWalk sites j next columns: the first `next` sites are those below j, and the columns are those below j that are no sites
use Rattle.std.specs.Prelude.{ℕ, ◌<◌, ◌≤◌, List, length, slice_index}
use Rattle.mode_project.specs.Amplitudes.{ArePivotColumns}

pub record IsWalk (sites : List ℕ) (j next : ℕ) (columns : List ℕ) : Type 0 where
  pub seen : next ≤ length sites
  pub before : (k : ℕ) → k < next → slice_index sites k < j
  pub behind : (k : ℕ) → next ≤ k → k < length sites → j ≤ slice_index sites k
  pub pivots : ArePivotColumns j sites columns
