use Rattle.std.proofs.Common.{◌≡◌, ◌+◌, ◌*◌, length}
use Rattle.cyclo24.specs.K24.{exact24}
use Rattle.cyclo24.specs.Z24.{exact_z24}
use Rattle.cyclo24.specs.ExactK24.{k24_laws}
use Rattle.cyclo24.specs.ExactZ24.{z24_laws}
use Rattle.lin_alg.specs.Rows.{vector}
use Rattle.induce.specs.Tables.{dimension_in, matrix_in}
use Rattle.real_form.specs.Parts.{orbit}
use Rattle.real_form.specs.Complexes.{z24_parts}
use Rattle.real_form.specs.Spanned.{HoldsSpan}
use Rattle.real_form.proofs.span.span_of.Given as goal

abbrev pub invariant-loop-r : goal.invariant-loop-r
invariant-loop-r l =
    HoldsSpan k24_laws exact24 ((dimension_in l.induced.tables) + (dimension_in l.induced.tables)) (orbit z24_parts (dimension_in l.induced.tables) (matrix_in l.quotient l.induced.tables) (vector z24_laws exact_z24 l.w)) (l.r * length l.quotient.translations) l.form
    × (length l.row.items ≡ (dimension_in l.induced.tables) + (dimension_in l.induced.tables))
