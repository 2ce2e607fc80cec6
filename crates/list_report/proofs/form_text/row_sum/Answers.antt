use Rattle.std.proofs.Common.{◌∙◌, ap, ℕ, ◌+◌, ◌<◌, get_or, drop, length, arith}
use Rattle.cyclo24.specs.ExactK24.{k24_laws}
use Rattle.cyclo24.specs.K24.{exact24}
use Rattle.lin_alg.specs.Rows.{vector}
use Rattle.list_report.specs.FormText.{row_terms}
use Rattle.list_report.specs.FormParts.{sum_with}
use Rattle.list_report.proofs.FormTextLemmas.{row_terms-next, entry-is}
use Rattle.list_report.proofs.form_text.row_sum.Goals as goal

pub loop-column-preserved : goal.loop-column-preserved
loop-column-preserved c =
    let row = c.args.row.now in
    let cs = c.args.columns.now in
    let i = c.loop-column.column-index in
    let v = vector k24_laws exact24 row in
    let d : ℕ × ℕ = (0, 0) in
    let l : i < length cs = omega arith in
    let x = c.index-row-column.result in
    c.in_ok-sum.ensures (row_terms v (drop (i + 1) cs))
    ∙ ap (sum_with c.loop-column.sum) (row_terms-next v cs i d (exact24 x) l (ap exact24 c.index-row-column.is ∙ entry-is row (get_or cs i d).0 x (c.requires i d l)))
    ∙ c.loop-column.invariant
