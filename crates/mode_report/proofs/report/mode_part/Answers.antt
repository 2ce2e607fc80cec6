use Rattle.std.proofs.Common.{ℕ, ◌<◌, List, [], length, get_or, subst, sym, arith}
use Rattle.std.proofs.lemmas.Option.{get_or_from_slice_get, slice_get-get_or}
use Rattle.std.proofs.lemmas.Result.{IfOk-weaker}
use Rattle.cyclo24.specs.ExactK24.{Exact24, k24_laws}
use Rattle.mode_project.specs.ModesView.{ModesView}
use Rattle.report_steps.specs.EachLaws.{each-at, each-length}
use Rattle.wyckoff.specs.Orbit.{OrbitView}
use Rattle.mode_report.specs.Held.{HasSizeBy, told_of}
use Rattle.mode_report.specs.ModesReport.{each_of}
use Rattle.mode_report.specs.ToldLaws.{modes-length}
use Rattle.mode_report.proofs.ModeLemmas.{told-some}
use Rattle.mode_report.proofs.report.mode_part.Goals as goal

pub get-requires : goal.get-requires
get-requires c = let n = each-length (HasSizeBy (each_of c.args.entries)) c.args.orbits.now c.args.all.now c.requires.sizes in omega (arith, n, c.requires.orbit)

pub mode_piece-requires-clause-size : goal.mode_piece-requires-clause-size
mode_piece-requires-clause-size c =
    let orbits = c.args.orbits.now in
    let all = c.args.all.now in
    let i = c.args.i in
    let o = c.get.result.now in
    let v = c.index-all-i.result in
    let H = HasSizeBy (each_of c.args.entries) in
    let n = each-length H orbits all c.requires.sizes in
    let l : i < length orbits = omega (arith, n, c.requires.orbit) in
    let P : OrbitView → Type 0 = λ x. H x (get_or all i v) in
    let Q : ModesView → Type 0 = λ x. H o x in
    subst Q (sym c.index-all-i.is) (subst P (get_or_from_slice_get orbits i o o c.get.ensures) (each-at H orbits all i o v l c.requires.sizes))

pub mode_piece-requires-clause-mode : goal.mode_piece-requires-clause-mode
mode_piece-requires-clause-mode c =
    let irreps = c.args.irreps.now in
    let o = c.get.result.now in
    let v = c.index-all-i.result in
    let n = each-length (HasSizeBy (each_of c.args.entries)) c.args.orbits.now c.args.all.now c.requires.sizes in
    let told = told-some irreps c.args.orbits.now c.args.all.now c.args.i o v n c.get.ensures c.index-all-i.is c.requires.orbit in
    subst (λ (n : ℕ). c.args.m < n) (sym (modes-length irreps v)) (c.requires.mode (told_of irreps o v) told)

pub returns : goal.returns
returns c =
    let irreps = c.args.irreps.now in
    let o = c.get.result.now in
    let v = c.index-all-i.result in
    let m = c.args.m in
    let n = each-length (HasSizeBy (each_of c.args.entries)) c.args.orbits.now c.args.all.now c.requires.sizes in
    let told = told-some irreps c.args.orbits.now c.args.all.now c.args.i o v n c.get.ensures c.index-all-i.is c.requires.orbit in
    let d = told_of irreps o v in
    let none : List ℕ × (ℕ → Exact24) = ([], λ k. k24_laws.nought) in
    let x = get_or d.modes m none in
    let s = slice_get-get_or d.modes m none (c.requires.mode d told) in
    IfOk-weaker c.mode_piece.result _ _ (λ text h. (d, told, (x, s, h x s))) c.mode_piece.ensures
