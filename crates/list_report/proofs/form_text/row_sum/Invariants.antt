use Rattle.std.proofs.Common.{◌≡◌, drop}
use Rattle.cyclo24.specs.ExactK24.{k24_laws}
use Rattle.cyclo24.specs.K24.{exact24}
use Rattle.lin_alg.specs.Rows.{vector}
use Rattle.list_report.specs.FormText.{sum_text, row_terms}
use Rattle.list_report.specs.FormParts.{sum_with}
use Rattle.list_report.proofs.form_text.row_sum.Given as goal

abbrev pub invariant-loop-column : goal.invariant-loop-column
invariant-loop-column l =
    sum_with l.sum (row_terms (vector k24_laws exact24 l.row) (drop l.column-index l.columns)) ≡ sum_text (row_terms (vector k24_laws exact24 l.row) l.columns)
