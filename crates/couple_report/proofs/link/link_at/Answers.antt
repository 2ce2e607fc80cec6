use Rattle.std.proofs.Common.{◌∙◌, sym, ap, subst, ℕ, ◌<◌, List, length}
use Rattle.induce.specs.InducedView.{InducedView}
use Rattle.report_steps.specs.EachLaws.{each-length}
use Rattle.report_steps.specs.Held.{IsInducedHeld}
use Rattle.couple_report.proofs.LinkHeldLemmas.{answers-moved, induced-moved}
use Rattle.couple_report.proofs.link.link_at.Goals as goal

pub link_among-requires-clause-of : goal.link_among-requires-clause-of
link_among-requires-clause-of c =
    let d = c.args.file.now.divided in
    induced-moved c.quotient.result.now d.quotient d.file.irreps c.deref.result.now c.args.file.now.irreps.items c.quotient.ensures c.deref.ensures.value c.requires.held

pub link_among-requires-clause-left : goal.link_among-requires-clause-left
link_among-requires-clause-left c =
    let d = c.args.file.now.divided in
    let n = each-length (IsInducedHeld d.quotient) d.file.irreps c.args.file.now.irreps.items c.requires.held in
    subst (λ (m : ℕ). c.args.k < m) (n ∙ ap (λ (xs : List InducedView). length xs) (sym c.deref.ensures.value)) c.requires.left

pub link_among-requires-clause-right : goal.link_among-requires-clause-right
link_among-requires-clause-right c =
    let d = c.args.file.now.divided in
    let n = each-length (IsInducedHeld d.quotient) d.file.irreps c.args.file.now.irreps.items c.requires.held in
    subst (λ (m : ℕ). c.args.l < m) (n ∙ ap (λ (xs : List InducedView). length xs) (sym c.deref.ensures.value)) c.requires.right

pub returns-clause-answer : goal.returns-clause-answer
returns-clause-answer c i j a b =
    let d = c.args.file.now.divided in
    answers-moved d.file.format c.quotient.result.now d.quotient d.file.irreps c.deref.result.now c.args.file.now.irreps.items i j c.link_among.result c.quotient.ensures c.deref.ensures.value c.requires.held
    (λ each. c.link_among.ensures.answer d.file.format d.file.irreps i j each a b)
