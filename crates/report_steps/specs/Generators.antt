-- The lattice and the generators that a file gives its parent group, by a Hall symbol or by
-- operations.
--
-- operation_of line: the operation of an `op` line, its translation modulo 1
-- HasUnitDeterminant rot: the determinant is 1 or -1
-- IsFirstBad lines k: line k is the first whose matrix has another determinant
-- RefusesGenerators file r: why a file gives none
-- AreGiven file lattice gens: the lattice and the generators of a file
use Rattle.std.specs.Prelude.{◌≡◌, ◌⊎◌, ℕ, ◌<◌, ℤ, pos, negsuc, List, [], length, map, slice_index_or, Option, Some, None}
use Rattle.algebra.specs.Whole.{whole}
use Rattle.hall_symbol.specs.Grammar.{IsHallSymbol}
use Rattle.iso_text.specs.FileValue.{File}
use Rattle.iso_text.specs.declared.sections.OpLine.{OpLine}
use Rattle.iso_text.specs.declared.sections.OpsText.{OpsText}
use Rattle.space_ops.specs.declared.lattice.Lattice.{Lattice}
use Rattle.space_ops.specs.declared.op.Op.{Op}
use Rattle.space_ops.specs.Lattice.{lattice_of}
use Rattle.space_ops.specs.LeastShift.{reduced_vector}
use Rattle.space_ops.specs.Matrix.{determinant}
use Rattle.space_ops.specs.Op.{matrix_of, vector_of, shift_of}
use Rattle.report_steps.specs.declared.refusal.Refusal.{Refusal}
use Rattle.report_steps.specs.declared.refusal.Refusal.TheVariants as refusal

-- the operation of a line, its translation modulo 1
abbrev pub operation_of : OpLine → Op
operation_of o = record { rot = o.op.rows; shift = shift_of (reduced_vector (vector_of o.op.shift)) }

-- line k, from 0
abbrev pub op_line_at : List OpLine → ℕ → OpLine
op_line_at lines k = slice_index_or lines k (record { line = 0; op = record { rows = []; shift = [] } })

-- the determinant is 1 or -1
abbrev pub HasUnitDeterminant : List (List ℤ) → Type 0
HasUnitDeterminant rot = (determinant whole (matrix_of rot) ≡ pos 1) ⊎ (determinant whole (matrix_of rot) ≡ negsuc 0)

-- line k has such a matrix
abbrev pub IsGoodAt : List OpLine → ℕ → Type 0
IsGoodAt lines k = HasUnitDeterminant (op_line_at lines k).op.rows

-- each line has one
abbrev pub AreGood : List OpLine → Type 0
AreGood lines = (k : ℕ) → k < length lines → IsGoodAt lines k

-- line k is the first that has not
pub record IsFirstBad (lines : List OpLine) (k : ℕ) : Type 0 where
  pub below : k < length lines
  pub bad : IsGoodAt lines k → ⊥
  pub before : (j : ℕ) → j < k → IsGoodAt lines j

-- the text is no Hall symbol
abbrev pub RefusesSymbol : File → Refusal → Type 0
RefusesSymbol file r = ((lattice : Lattice) (gens : List Op) → IsHallSymbol file.hall lattice gens → ⊥) × (r ≡ refusal.BadHall file.hall_line)

-- the first line whose determinant is neither 1 nor -1
abbrev pub RefusesOperations : OpsText → Refusal → Type 0
RefusesOperations g r = (k : ℕ) × IsFirstBad g.ops k × (r ≡ refusal.BadOperation (op_line_at g.ops k).line)

-- the lattice of the letter, and the operations of the lines
abbrev pub AreOperations : OpsText → Lattice → List Op → Type 0
AreOperations g lattice gens = (lattice_of g.letter ≡ Some lattice) × AreGood g.ops × (gens ≡ map operation_of g.ops)

-- by the Hall symbol where there are no operations
abbrev pub RefusesGivenBy : File → Option OpsText → Refusal → Type 0
RefusesGivenBy file None = RefusesSymbol file
RefusesGivenBy file (Some g) = RefusesOperations g

abbrev pub AreGivenBy : File → Option OpsText → Lattice → List Op → Type 0
AreGivenBy file None = IsHallSymbol file.hall
AreGivenBy file (Some g) = AreOperations g

-- why a file gives its parent no generators
abbrev pub RefusesGenerators : File → Refusal → Type 0
RefusesGenerators file = RefusesGivenBy file file.generators

-- the lattice and the generators that a file gives its parent
abbrev pub AreGiven : File → Lattice → List Op → Type 0
AreGiven file = AreGivenBy file file.generators
