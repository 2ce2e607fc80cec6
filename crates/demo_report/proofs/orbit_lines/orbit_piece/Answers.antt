use Rattle.std.proofs.Common.{◌∙◌, ◌+◌, ◌++◌, ℕ, List, sym, ap, arith, Some}
use Rattle.report_steps.specs.EachLaws.{each-length}
use Rattle.mode_report.specs.Held.{HasSizeOf, told_of}
use Rattle.demo_report.specs.DemoReport.{orbit_line}
use Rattle.demo_report.proofs.OrbitLemmas.{orbit-at}
use Rattle.demo_report.proofs.orbit_lines.orbit_piece.Goals as goal

pub get-requires : goal.get-requires
get-requires c = let one = each-length HasSizeOf c.args.orbits.now c.args.all.now c.requires.held in omega (arith, one, c.requires.orbit)

pub returns : goal.returns
returns c irreps =
    let orbits = c.args.orbits.now in
    let all = c.args.all.now in
    let i = c.args.i in
    let o = c.get.result.now in
    let m = c.index-all-i.result in
    let one = each-length HasSizeOf orbits all c.requires.held in
    let d = told_of irreps o m in
    orbit-at irreps orbits all i o m one c.get.ensures c.requires.orbit c.index-all-i.is
    ∙ ap (λ t. Some t) (sym (c.in_ok-push_orbit.ensures irreps ∙ ap (λ (t : List ℕ). t ++ orbit_line (i + 1, d)) c.new-text.ensures))
