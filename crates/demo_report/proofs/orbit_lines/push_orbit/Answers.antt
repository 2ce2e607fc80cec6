use Rattle.std.proofs.Common.{◌≡◌, ◌∙◌, ◌-◌, ◌++◌, [], length, arith}
use Rattle.std.specs.Prelude.{codes, decimal}
use Rattle.std.proofs.lemmas.Result.{on_ok_weaker}
use Rattle.iso_text.specs.Lines.{line}
use Rattle.mode_report.specs.Told.{counts_text}
use Rattle.demo_report.proofs.orbit_lines.push_orbit.Goals as goal

pub returns : goal.returns
returns c =
    let o = c.args.orbit.now in
    let m = c.args.found.now in
    let site : c.len.result - c.irrep_modes-irrep.result ≡ length m.sites = omega (arith, c.len.ensures, c.irrep_modes-irrep.ensures) in
    let label = c.as_slice.ensures.value ∙ c.label.ensures in
    let counts = c.in_ok-counts.ensures ∙ (λ j. counts_text (c.irrep_modes-irrep.ensures j) (site j)) in
    on_ok_weaker c.push_orbit_head.result
    (λ e irreps. e ∙ (λ j. c.args.text.now ++ line (codes "orbit " ++ decimal c.args.number ++ codes " " ++ label j ++ codes " atoms " ++ decimal (c.atoms.ensures.value j) ++ counts j) []))
    c.push_orbit_head.ensures
