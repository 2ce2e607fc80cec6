-- The table of the products of rotations.
--
-- IsProductRow ops a n row: the first n entries are the numbers of the products of rotation a with rotations 0, 1 ..
-- IsProductTable ops n table: the first n rows are those of rotations 0, 1 ..
use Rattle.std.specs.Prelude.{◌≡◌, ℕ, ◌<◌, List, [], length, slice_index, slice_index_or}
use Rattle.space_ops.specs.declared.op.Op.{Op}
use Rattle.space_ops.specs.GroupLaws.{rotation_group}

-- the numbers of the products of rotation a with the first n rotations
abbrev pub IsProductRow : List Op → ℕ → ℕ → List ℕ → Type 0
IsProductRow ops a n row = (b : ℕ) → b < n → slice_index row b ≡ (rotation_group ops).product a b

-- the rows of the first n rotations
abbrev pub IsProductTable : List Op → ℕ → List (List ℕ) → Type 0
IsProductTable ops n table = (a : ℕ) → a < n → IsProductRow ops a (length ops) (slice_index_or table a [])
