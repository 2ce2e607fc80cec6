use Rattle.std.proofs.Common.{◌≡◌, ◌∙◌, ℕ, ◌-◌, ◌++◌, List, [], ap, length, arith}
use Rattle.std.specs.Prelude.{codes, decimal}
use Rattle.iso_text.specs.Lines.{line}
use Rattle.mode_report.specs.ModesReport.{place_lines}
use Rattle.mode_report.specs.Told.{counts_text}
use Rattle.mode_report.proofs.mode_pieces.orbit_front.Goals as goal

pub returns : goal.returns
returns c irreps =
    let o = c.args.orbit.now in
    let m = c.args.found.now in
    let front : List ℕ → List ℕ = λ t. line (codes "orbit " ++ decimal c.args.number ++ codes " " ++ o.label ++ codes " atoms " ++ decimal (length o.places) ++ t) [] ++ place_lines o.places in
    let site : c.len.result - c.irrep_modes-irrep.result ≡ length m.sites = omega (arith, c.len.ensures, c.irrep_modes-irrep.ensures) in
    let counts = c.in_ok-counts.ensures ∙ (λ j. counts_text (c.irrep_modes-irrep.ensures j) (site j)) in
    c.in_ok-push_orbit_front.ensures ∙ ap (λ (t : List ℕ). t ++ front c.in_ok-counts.counts) c.new-text.ensures ∙ ap front counts
