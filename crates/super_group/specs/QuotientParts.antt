-- What the parts of a quotient's code take and give.
--
-- IsRisingList ts: triples that rise
-- IsAmong ts v: v is one of the translations
-- translation_op v: {E|v} as an operation
-- motion_ops p: the generators, the centrings other than zero, the unit translations, as operations
use Rattle.std.specs.Prelude.{◌≡◌, ℕ, ◌<◌, ℤ, List, [], ◌∷◌, ◌++◌, drop, map, length, slice_index_or}
use Rattle.std.specs.declared.cmp.Ordering.TheVariants.{Less}
use Rattle.space_ops.specs.declared.op.Op.{Op}
use Rattle.algebra.specs.Whole.{whole}
use Rattle.space_ops.specs.Matrix.{Vector, unit_matrix}
use Rattle.space_ops.specs.Op.{shift_of, rows_of}
use Rattle.space_ops.specs.Lattice.{centrings_of, twelfths}
use Rattle.space_ops.specs.LeastShift.{vector_cmp}
use Rattle.space_ops.specs.Group.{Parent}
use Rattle.super_group.specs.Quotient.{translation_at}

pub record IsRisingList (ts : List (List ℤ)) : Type 0 where
  pub rising : (s t : ℕ) → s < t → t < length ts → vector_cmp (translation_at ts s) (translation_at ts t) ≡ Less
  pub shaped : (t : ℕ) → t < length ts → slice_index_or ts t [] ≡ shift_of (translation_at ts t)

abbrev pub IsAmong : List (List ℤ) → Vector ℤ → Type 0
IsAmong ts v = (t : ℕ) × (t < length ts) × (translation_at ts t ≡ v)

abbrev pub translation_op : List ℤ → Op
translation_op v = record { rot = rows_of (unit_matrix whole); shift = v }

abbrev pub motion_ops : Parent → List Op
motion_ops p =
    p.generators ++ map translation_op (drop 1 (centrings_of p.lattice))
    ++ map translation_op (twelfths 12 0 0 ∷ twelfths 0 12 0 ∷ twelfths 0 0 12 ∷ [])
