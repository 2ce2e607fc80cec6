use Rattle.std.proofs.Common.{◌≡◌, ◌∙◌, ◌+◌, ◌++◌, ◌<◌, ℕ, List, length, get_or, sym, ap, subst, arith, Some}
use Rattle.std.proofs.lemmas.List.{get_or_default}
use Rattle.std.proofs.lemmas.Option.{slice_get-get_or}
use Rattle.cyclo24.specs.declared.k24.K24.{K24}
use Rattle.mode_project.specs.ModesView.{ModesView}
use Rattle.report_buffer.specs.PieceLaws.{numbered-piece}
use Rattle.report_steps.specs.EachLaws.{each-at, each-length}
use Rattle.amp_report.specs.AmpsHeldLaws.{told-length}
use Rattle.amp_report.specs.AmpsReport.{orbit_text}
use Rattle.amp_report.specs.Held.{HasRow, told_of, told_in}
use Rattle.amp_report.proofs.TextLemmas.{told-at}
use Rattle.amp_report.proofs.report.orbit_piece.Goals as goal

pub bounds-rows-i : goal.bounds-rows-i
bounds-rows-i c = let one = each-length HasRow c.args.modes.now c.args.rows.now c.requires.rows in omega (arith, one)

pub push_orbit-requires : goal.push_orbit-requires
push_orbit-requires c =
    let modes = c.args.modes.now in
    let rows = c.args.rows.now in
    let i = c.args.i in
    let m = c.index-modes-i.result in
    let a = c.index-rows-i.result in
    let h : HasRow (get_or modes i m) (get_or rows i a) = each-at HasRow modes rows i m a c.requires.orbit c.requires.rows in
    let P : ModesView → Type 0 = λ x. HasRow x (get_or rows i a) in
    let Q : List K24 → Type 0 = λ x. HasRow m x in
    let k : HasRow m a = subst Q (sym c.index-rows-i.is) (subst P (sym c.index-modes-i.is) h) in
    subst Q (sym c.as_slice-row.ensures) k

pub returns : goal.returns
returns c =
    let irreps = c.args.irreps.now in
    let orbits = c.args.orbits.now in
    let modes = c.args.modes.now in
    let rows = c.args.rows.now in
    let i = c.args.i in
    let o = c.get.result.now in
    let m = c.index-modes-i.result in
    let a = c.as_slice-row.result.now in
    let d = told_of irreps o m a in
    let told = told_in irreps orbits modes rows in
    let one = each-length HasRow modes rows c.requires.rows in
    let k : i < length rows = omega (arith, one) in
    let n : i < length told = subst (λ j. i < j) (sym (told-length irreps orbits modes rows c.requires.orbits one)) c.requires.orbit in
    let same : a ≡ get_or rows i a = c.as_slice-row.ensures ∙ c.index-rows-i.is ∙ get_or_default rows i c.index-rows-i.result a k in
    let here = slice_get-get_or told i d n ∙ ap (λ x. Some x) (sym (told-at irreps orbits modes rows i o m a d c.get.ensures c.index-modes-i.is c.requires.orbit same k)) in
    let s : 1 + i ≡ i + 1 = omega arith in
    numbered-piece orbit_text 1 told i d here ∙ ap (λ j. Some (orbit_text (j, d))) s ∙ ap (λ t. Some t) (sym (c.in_ok-push_orbit.ensures ∙ ap (λ (t : List ℕ). t ++ orbit_text (i + 1, d)) c.new-text.ensures))
