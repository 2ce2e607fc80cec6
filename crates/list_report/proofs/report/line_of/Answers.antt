use Rattle.std.proofs.Common.{◌≡◌, ◌∙◌, sym, ap, subst, ◌-◌, ◌/◌, ℕ, List, IfOk}
use Rattle.cyclo24.specs.ExactK24.{k24_laws}
use Rattle.cyclo24.specs.K24.{exact24}
use Rattle.list_report.proofs.ListReportLemmas.{rows-length, numbers}
use Rattle.list_report.proofs.report.line_of.Goals as goal

pub returns : goal.returns
returns c =
    let form = c.args.direction.now.equations in
    let d = c.dim.ensures ∙ ap (λ (n : ℕ). form.width - n) (sym (rows-length k24_laws exact24 form.rows)) in
    let o = c.order-order.ensures in
    let q = c.order.ensures.value in
    subst (λ (z : List ℕ). IfOk c.numbers_line.result (λ text. text ≡ z)) (λ j. numbers c.args.number (d j) (o j) (q j / o j)) c.numbers_line.ensures
