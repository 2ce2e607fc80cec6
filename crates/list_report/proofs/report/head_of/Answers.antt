use Rattle.std.proofs.Common.{◌∙◌, ap, ◌++◌, ◌∷◌, List, ℕ}
use Rattle.std.specs.Prelude.{codes}
use Rattle.cyclo24.specs.ExactK24.{k24_laws}
use Rattle.cyclo24.specs.K24.{exact24}
use Rattle.cyclo24.specs.declared.k24.K24.{K24}
use Rattle.lin_alg.specs.Echelon.{EchelonView}
use Rattle.lin_alg.specs.Rows.{exact_rows}
use Rattle.class_list.specs.Seen.{direction_of}
use Rattle.list_report.specs.FormText.{form_text}
use Rattle.list_report.specs.ListReport.{direction_line}
use Rattle.list_report.proofs.ListReportLemmas.{form-behind}
use Rattle.list_report.proofs.report.head_of.Goals as goal

pub returns : goal.returns
returns c =
    let form = c.args.direction.now.equations in
    let f = c.as_slice.ensures ∙ c.in_ok-form_text.ensures ∙ ap (λ (e : EchelonView K24). form_text (exact_rows k24_laws exact24 e.rows) e.width) c.equations.ensures.equations in
    form-behind (direction_line c.args.quotient.now form.width c.args.number (direction_of k24_laws exact24 c.args.direction.now)) (codes "form")
    (form_text (exact_rows k24_laws exact24 form.rows) form.width) c.push.new.self c.push-2.new.self c.push-3.new.self
    (c.in_ok-push.ensures.ok ∙ ap (λ (t : List ℕ). t ++ (10 ∷ codes "form")) c.in_ok-text.ensures) (c.in_ok-push-2.ensures.ok ∙ ap (λ (t : List ℕ). c.push.new.self ++ t) f)
    c.in_ok-push-3.ensures.ok
