use Rattle.std.proofs.Common.{sym, subst, get_or}
use Rattle.induce.specs.InducedView.{InducedView}
use Rattle.iso_text.specs.declared.sections.IrrepText.{IrrepText}
use Rattle.report_steps.specs.Held.{IsInducedHeld}
use Rattle.report_steps.specs.EachLaws.{each-at}
use Rattle.list_report.proofs.ListingLemmas.{answer-at}
use Rattle.list_report.proofs.realising.form_among.Goals as goal

pub form_of-requires : goal.form_of-requires
form_of-requires c =
    let q = c.args.quotient.now in
    let irreps = c.args.irreps.now in
    let all = c.args.all.now in
    let k = c.args.k in
    let x = c.index-irreps-k.result in
    let y = c.index-all-k.result in
    let P : IrrepText → Type 0 = λ z. IsInducedHeld q z (get_or all k y) in
    let Q : InducedView → Type 0 = λ z. IsInducedHeld q x z in
    subst Q (sym c.index-all-k.is) (subst P (sym c.index-irreps-k.is) (each-at (IsInducedHeld q) irreps all k x y c.requires.place c.requires.held))

pub returns-clause-answer : goal.returns-clause-answer
returns-clause-answer c format i e = answer-at format c.args.quotient.now c.args.irreps.now c.args.k c.index-irreps-k.result i c.requires.place c.index-irreps-k.is e c.form_of.result c.form_of.ensures.answer
