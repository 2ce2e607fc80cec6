use Rattle.std.proofs.Common.{◌∙◌, ℕ, ◌++◌, List, [], ap, length}
use Rattle.std.specs.Prelude.{codes, decimal}
use Rattle.iso_text.specs.Lines.{line}
use Rattle.mode_report.specs.ModesReport.{place_lines}
use Rattle.mode_report.specs.Told.{count_text}
use Rattle.mode_report.proofs.along_pieces.along_orbit.Goals as goal

pub returns : goal.returns
returns c irreps n =
    let o = c.args.orbit.now in
    let front : List ℕ → List ℕ = λ t. line (codes "orbit " ++ decimal c.args.number ++ codes " " ++ o.label ++ codes " atoms " ++ decimal (length o.places) ++ t) [] ++ place_lines o.places in
    let counts = c.in_ok-counts.ensures ∙ ap count_text (c.in_ok-count.ensures irreps n) in
    c.in_ok-push_orbit_front.ensures ∙ ap (λ (t : List ℕ). t ++ front c.in_ok-counts.counts) c.new-text.ensures ∙ ap front counts
