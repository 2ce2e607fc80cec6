use Rattle.std.proofs.Common.{◌∙◌, sym, ap, subst, ℕ, ◌<◌, List, length, slice_get}
use Rattle.induce.specs.InducedView.{InducedView}
use Rattle.iso_text.specs.FileValue.{File}
use Rattle.iso_text.specs.declared.sections.IrrepText.{IrrepText}
use Rattle.report_steps.specs.Held.{IsInducedHeld}
use Rattle.report_steps.specs.EachLaws.{each-length}
use Rattle.list_report.proofs.ListingLemmas.{answer-moved}
use Rattle.list_report.proofs.realising.form_at.Goals as goal

pub form_among-requires-clause-beside : goal.form_among-requires-clause-beside
form_among-requires-clause-beside c =
    let d = c.args.file.now.divided in
    let all = c.args.file.now.irreps.items in
    let n = each-length (IsInducedHeld d.quotient) d.file.irreps all c.requires.held in
    subst (λ (m : ℕ). c.args.k < m) (n ∙ ap (λ (xs : List InducedView). length xs) (sym c.deref.ensures.value)) c.requires.place

pub returns-clause-answer : goal.returns-clause-answer
returns-clause-answer c i e =
    let d = c.args.file.now.divided in
    let q = c.quotient-quotient in
    let irreps = c.irreps-irreps.ensures ∙ ap (λ (x : File). x.irreps) c.document.ensures in
    answer-moved d.file.format q.result.now d.quotient i c.form_among.result q.ensures (c.form_among.ensures.answer d.file.format i (ap (λ (xs : List IrrepText). slice_get xs c.args.k) irreps ∙ e))
