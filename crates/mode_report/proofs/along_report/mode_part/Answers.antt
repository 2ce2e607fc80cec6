use Rattle.std.proofs.Common.{◌≡◌, ◌∙◌, ℕ, ◌+◌, ◌*◌, ◌<◌, List, [], length, get_or, slice_get, Some, ap, sym, subst, arith}
use Rattle.std.specs.List.{All}
use Rattle.std.proofs.lemmas.Option.{slice_get-get_or}
use Rattle.std.proofs.lemmas.Result.{IfOk-weaker}
use Rattle.cyclo24.specs.declared.k24.K24.{K24}
use Rattle.cyclo24.specs.ExactK24.{Exact24, k24_laws}
use Rattle.lin_alg.specs.Matrix.{MatrixView}
use Rattle.report_steps.specs.EachLaws.{each-length}
use Rattle.mode_report.specs.DirectionHeld.{AreFit, along_of, named_matrices}
use Rattle.mode_report.specs.ModesReport.{mode_text}
use Rattle.mode_report.proofs.AlongReportLemmas.{along-some}
use Rattle.mode_report.proofs.DirectionReportLemmas.{fit-at}
use Rattle.mode_report.proofs.along_report.mode_part.Goals as goal

pub get-requires : goal.get-requires
get-requires c = let n = each-length (AreFit c.args.irreps.now) c.args.orbits.now c.args.all.now c.requires.fit in omega (arith, n, c.requires.orbit)

pub along_mode-requires-clause-count : goal.along_mode-requires-clause-count
along_mode-requires-clause-count c =
    let n = each-length (AreFit c.args.irreps.now) c.args.orbits.now c.args.all.now c.requires.fit in
    let l : c.args.i < length c.args.orbits.now = omega (arith, n, c.requires.orbit) in
    (fit-at c.args.irreps.now c.args.orbits.now c.args.all.now c.args.i c.get.result.now c.index-all-i.result l c.get.ensures c.index-all-i.is c.requires.fit).count ∙ ap (λ (xs : List (MatrixView K24)). length xs) (sym c.deref.ensures.value)

pub along_mode-requires-clause-widths : goal.along_mode-requires-clause-widths
along_mode-requires-clause-widths c =
    let n = each-length (AreFit c.args.irreps.now) c.args.orbits.now c.args.all.now c.requires.fit in
    let l : c.args.i < length c.args.orbits.now = omega (arith, n, c.requires.orbit) in
    let fit = fit-at c.args.irreps.now c.args.orbits.now c.args.all.now c.args.i c.get.result.now c.index-all-i.result l c.get.ensures c.index-all-i.is c.requires.fit in
    let P : List (MatrixView K24) → Type 0 = λ xs. All (λ (m : MatrixView K24). m.cols ≡ length c.get.result.now.places * 3) xs in
    let Q : ℕ → Type 0 = λ k. All (λ (m : MatrixView K24). m.cols ≡ k * 3) c.deref.result.now in
    subst Q (sym c.atoms.ensures.value) (subst P (sym c.deref.ensures.value) fit.widths)

pub along_mode-requires-clause-mode : goal.along_mode-requires-clause-mode
along_mode-requires-clause-mode c =
    let irreps = c.args.irreps.now in
    let o = c.get.result.now in
    let ms = c.index-all-i.result in
    let n = each-length (AreFit irreps) c.args.orbits.now c.args.all.now c.requires.fit in
    let told = along-some irreps c.args.orbits.now c.args.all.now c.args.i o ms n c.get.ensures c.index-all-i.is c.requires.orbit in
    let P : List (MatrixView K24) → Type 0 = λ xs. c.args.m < length (named_matrices irreps xs) in
    subst P (sym c.deref.ensures.value) (c.requires.mode (along_of irreps o ms.items) told)

pub returns : goal.returns
returns c =
    let irreps = c.args.irreps.now in
    let o = c.get.result.now in
    let ms = c.index-all-i.result in
    let m = c.args.m in
    let n = each-length (AreFit irreps) c.args.orbits.now c.args.all.now c.requires.fit in
    let told = along-some irreps c.args.orbits.now c.args.all.now c.args.i o ms n c.get.ensures c.index-all-i.is c.requires.orbit in
    let d = along_of irreps o ms.items in
    let none : List ℕ × (ℕ → Exact24) = ([], λ k. k24_laws.nought) in
    let x = get_or d.modes m none in
    let s = slice_get-get_or d.modes m none (c.requires.mode d told) in
    let P : List (MatrixView K24) → Type 0 = λ xs. slice_get (named_matrices irreps xs) m ≡ Some x in
    IfOk-weaker c.along_mode.result _ _ (λ text h. (d, told, (x, s, h x (subst P (sym c.deref.ensures.value) s) ∙ ap (λ k. mode_text k (m + 1, x)) c.atoms.ensures.value))) c.along_mode.ensures
