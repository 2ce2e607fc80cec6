use Rattle.std.proofs.Common.{◌≡◌, ◌*◌, ◌/◌, ◌%◌, length, get_or}
use Rattle.cyclo24.specs.K24.{exact24}
use Rattle.cyclo24.specs.Z24.{exact_z24}
use Rattle.cyclo24.specs.ExactK24.{k24_laws}
use Rattle.cyclo24.specs.ExactZ24.{z24_laws}
use Rattle.lin_alg.specs.Rows.{vector}
use Rattle.lin_alg.specs.Matrix.{entry}
use Rattle.induce.specs.Tables.{dimension_in, matrix_in}
use Rattle.real_form.specs.Parts.{orbit}
use Rattle.real_form.specs.Complexes.{z24_parts}
use Rattle.real_form.proofs.ColumnLemmas.{IsColumn}
use Rattle.real_form.proofs.matrices.fill_column.Given as goal

abbrev pub invariant-loop-k : goal.invariant-loop-k
invariant-loop-k l =
    (l.into.rows ≡ l.fn.into.rows) × (l.into.cols ≡ l.fn.into.cols)
    × IsColumn (entry k24_laws exact24 l.fn.into) (entry k24_laws exact24 l.into) l.m
    (λ k. orbit z24_parts (dimension_in l.induced.tables) (matrix_in l.quotient l.induced.tables) (vector z24_laws exact_z24 l.w) ((k / length l.pivots) * l.step) (get_or l.pivots (k % length l.pivots) 0)) l.k
