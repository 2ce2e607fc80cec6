use Rattle.std.proofs.Common.{◌≡◌, ◌<◌, ◌*◌, ◌/◌, ◌%◌, ℕ, length, get_or}
use Rattle.cyclo24.specs.K24.{exact24}
use Rattle.cyclo24.specs.ExactK24.{k24_laws}
use Rattle.lin_alg.specs.Matrix.{entry}
use Rattle.induce.specs.Tables.{dimension_in, matrix_in}
use Rattle.real_form.specs.Parts.{orbit}
use Rattle.real_form.specs.Complexes.{z24_parts}
use Rattle.real_form.specs.Vectors.{vector_at}
use Rattle.real_form.proofs.matrices.stacked.Given as goal

abbrev pub invariant-loop-m : goal.invariant-loop-m
invariant-loop-m l =
    (l.matrices.rows ≡ l.count * length l.pivots) × (l.matrices.cols ≡ length l.pivots)
    × ((k m : ℕ) → k < l.count * length l.pivots → m < l.m → entry k24_laws exact24 l.matrices k m ≡ orbit z24_parts (dimension_in l.induced.tables) (matrix_in l.quotient l.induced.tables) (vector_at l.vectors m) ((k / length l.pivots) * l.step) (get_or l.pivots (k % length l.pivots) 0))
