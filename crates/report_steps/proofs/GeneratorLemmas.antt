-- The generators that operations of a file give.
use Rattle.std.proofs.Common.{◌≡◌, sym, ap, subst, ℕ, ◌<◌, inl, inr, ℤ, pos, ◌*ℤ◌, List, [], length, map, get_or, slice_index_or, arith}
use Rattle.std.proofs.lemmas.List.{get_or-map, length-map}
use Rattle.iso_text.specs.RangeLaws.{AreThree-entries}
use Rattle.iso_text.specs.Ranges as ranges
use Rattle.iso_text.specs.WordRanges.{IsOperation, IsWithin}
use Rattle.iso_text.specs.declared.numbers.OpText.{OpText}
use Rattle.iso_text.specs.declared.sections.OpLine.{OpLine}
use Rattle.iso_text.specs.declared.sections.OpsText.{OpsText}
use Rattle.space_ops.specs.declared.op.Op.{Op}
use Rattle.space_ops.specs.Group.{AreGenerators}
use Rattle.space_ops.specs.LeastShift.{IsInCell, reduced_vector}
use Rattle.space_ops.specs.LeastShiftLaws.{twelfth-rem}
use Rattle.space_ops.specs.Matrix.{Vector}
use Rattle.space_ops.specs.Op.{matrix_of, vector_of, identity_op, row_at, IsShiftWithin, IsSmallRotation, IsSmallMatrix, IsUnimodular}
use Rattle.report_steps.specs.Generators.{operation_of, op_line_at, HasUnitDeterminant, AreGood}

-- the entries of an operation of a file are small
pub small_rotation : (op : OpText) → IsOperation op → IsSmallRotation op.rows
small_rotation op is =
    let at : (i j : ℕ) → i < 3 → j < 3 → IsWithin 3 (slice_index_or (slice_index_or op.rows i []) j (pos 0)) =
    λ i j l m. AreThree-entries (IsWithin 3) op.rows i j [] (pos 0) is.rows l m in
    let row : (i : ℕ) → i < 3 → IsShiftWithin 3 (row_at op.rows i) = λ i l. (at i 0 l (omega arith), at i 1 l (omega arith), at i 2 l (omega arith)) in
    (row 0 (omega arith), row 1 (omega arith), row 2 (omega arith))

pub unit-unimodular : (rot : List (List ℤ)) → HasUnitDeterminant rot → IsUnimodular (matrix_of rot)
unit-unimodular rot (inl e) = ap (λ x. x *ℤ x) e
unit-unimodular rot (inr e) = ap (λ x. x *ℤ x) e

reduced_in_cell : (v : Vector ℤ) → IsInCell (reduced_vector v)
reduced_in_cell v = (twelfth-rem v.x, twelfth-rem v.y, twelfth-rem v.z)

-- the operation at a place is that of the line there
operation_at : (lines : List OpLine) (i : ℕ) → i < length lines → get_or (map operation_of lines) i identity_op ≡ operation_of (op_line_at lines i)
operation_at lines i l = get_or-map operation_of lines i _ identity_op l

-- operations of a file of determinant 1 or -1 may generate a group
pub operations-fit : (g : OpsText) → ranges.AreGenerators g → AreGood g.ops → AreGenerators (map operation_of g.ops)
operations-fit g is good =
    let size : length (map operation_of g.ops) ≡ length g.ops = length-map g.ops operation_of in
    let P : Op → Type 0 = λ op. IsSmallMatrix (matrix_of op.rot) in
    let Q : Op → Type 0 = λ op. IsUnimodular (matrix_of op.rot) in
    let R : Op → Type 0 = λ op. IsInCell (vector_of op.shift) in
    record {
      few = omega (arith, size, is.few);
      small = λ i l. let m : i < length g.ops = omega (arith, size, l) in
          subst P (sym (operation_at g.ops i m)) (small_rotation (op_line_at g.ops i).op (is.each i _ m));
      unimodular = λ i l. let m : i < length g.ops = omega (arith, size, l) in
          subst Q (sym (operation_at g.ops i m)) (unit-unimodular (op_line_at g.ops i).op.rows (good i m));
      in_cell = λ i l. let m : i < length g.ops = omega (arith, size, l) in
          subst R (sym (operation_at g.ops i m)) (reduced_in_cell (vector_of (op_line_at g.ops i).op.shift));
    }
