use Rattle.std.proofs.Common.{◌<◌, length, get_or, sym, subst, arith}
use Rattle.std.proofs.lemmas.Result.{IfOk-weaker}
use Rattle.induce.specs.InducedView.{InducedView}
use Rattle.iso_text.specs.declared.sections.IrrepText.{IrrepText}
use Rattle.report_steps.specs.Held.{facts_in, IsInducedHeld}
use Rattle.report_steps.specs.EachLaws.{each-length, each-at}
use Rattle.iso_report.proofs.ReportLemmas.{piece-is}
use Rattle.iso_report.proofs.check.irrep_at.Goals as goal

pub bounds-irreps-i : goal.bounds-irreps-i
bounds-irreps-i c =
    let n = each-length (IsInducedHeld c.args.quotient.now) c.args.irreps.now c.args.all.now c.requires.held in
    omega (arith, n, c.requires.place)

pub irrep_text-requires : goal.irrep_text-requires
irrep_text-requires c =
    let q = c.args.quotient.now in
    let irreps = c.args.irreps.now in
    let all = c.args.all.now in
    let i = c.args.i in
    let x = c.index-irreps-i.result in
    let y = c.index-all-i.result in
    let n = each-length (IsInducedHeld q) irreps all c.requires.held in
    let inside : i < length irreps = omega (arith, n, c.requires.place) in
    let P : IrrepText → Type 0 = λ z. IsInducedHeld q z (get_or all i y) in
    let Q : InducedView → Type 0 = λ z. IsInducedHeld q x z in
    subst Q (sym c.index-all-i.is) (subst P (sym c.index-irreps-i.is) (each-at (IsInducedHeld q) irreps all i x y inside c.requires.held))

pub returns : goal.returns
returns c =
    let q = c.args.quotient.now in
    let irreps = c.args.irreps.now in
    let all = c.args.all.now in
    let x = c.index-irreps-i.result in
    let y = c.index-all-i.result in
    IfOk-weaker c.irrep_text.result _ _ (λ text h. piece-is q.parent facts_in (IsInducedHeld q) irreps all c.args.i x y text c.requires.place c.requires.held c.index-irreps-i.is c.index-all-i.is h) c.irrep_text.ensures
