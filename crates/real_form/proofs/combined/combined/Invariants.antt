use Rattle.std.proofs.Common.{◌≡◌, ◌<◌, ◌/◌, ◌%◌, length}
use Rattle.cyclo24.specs.K24.{exact24}
use Rattle.cyclo24.specs.ExactK24.{k24_laws}
use Rattle.induce.specs.Tables.{dimension_in, matrix_in, size_in}
use Rattle.induce.specs.InducedView.{star_in}
use Rattle.real_form.specs.Sparse.{pair_rows, AreCombined}
use Rattle.real_form.specs.Spanned.{HoldsPart}
use Rattle.real_form.proofs.combined.combined.Given as goal

abbrev pub invariant-loop-d : goal.invariant-loop-d
invariant-loop-d l =
    ((h : AreCombined (length l.quotient.parent.ops) (length l.quotient.translations) (dimension_in l.induced.tables) (size_in l.induced.tables) (length (star_in l.induced).by) (matrix_in l.quotient l.induced.tables) l.combined.items l.d) × (h.phases ≡ l.phases.items))
    × ((0 < l.d % length l.quotient.translations) → HoldsPart k24_laws exact24 4 (pair_rows l.phases.items (length l.quotient.translations) (l.d / length l.quotient.translations / length (star_in l.induced).by) (l.d / length l.quotient.translations % length (star_in l.induced).by)) (l.d % length l.quotient.translations) l.form)
    × (length l.row.items ≡ 4)
