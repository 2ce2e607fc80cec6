-- The order of a group's operations.
--
-- rows_cmp a b: rotations in order of their first entries that differ, row by row
-- op_cmp a b: operations in order of their rotations, then of their translations
-- IsSortedAfterFirst ops ops': the same operations, those after the first in order
use Rattle.std.specs.Prelude.{◌≡◌, ℤ, List, ◌∷◌, drop, slice_index_or}
use Rattle.std.specs.Ordering.{int_cmp, ordering_then}
use Rattle.std.specs.Cmp.Lexicographic.{slice_cmp}
use Rattle.std.specs.List.Sorted.{IsPermutation, IsSorted}
use Rattle.std.specs.declared.cmp.Ordering.{Ordering}
use Rattle.space_ops.specs.declared.op.Op.{Op}
use Rattle.space_ops.specs.Op.{identity_op}

abbrev pub rows_cmp : List (List ℤ) → List (List ℤ) → Ordering
rows_cmp a b = slice_cmp (slice_cmp int_cmp) a b

abbrev pub op_cmp : Op → Op → Ordering
op_cmp a b = ordering_then (rows_cmp a.rot b.rot) (slice_cmp int_cmp a.shift b.shift)

pub record IsSortedAfterFirst (ops ops' : List Op) : Type 0 where
  pub rest : List Op
  pub is : ops' ≡ slice_index_or ops 0 identity_op ∷ rest
  pub permutation : IsPermutation (drop 1 ops) rest
  pub sorted : IsSorted op_cmp rest
