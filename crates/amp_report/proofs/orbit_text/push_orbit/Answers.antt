use Rattle.std.proofs.Common.{◌≡◌, ◌∙◌, ◌++◌, List, ℕ, [], length, flat_map, ap, sym}
use Rattle.std.specs.List.{enumerate_from}
use Rattle.std.specs.Prelude.{codes, decimal}
use Rattle.std.proofs.lemmas.Result.{on_ok_weaker}
use Rattle.iso_text.specs.Lines.{line}
use Rattle.amp_report.specs.AmpsReport.{amplitude_line, zeros_in}
use Rattle.amp_report.specs.Held.{told_of}
use Rattle.amp_report.proofs.TextLemmas.{amplitudes-told-length, zeros-told, three-joined}
use Rattle.amp_report.proofs.orbit_text.push_orbit.Goals as goal

pub returns : goal.returns
returns c =
    let irreps = c.args.irreps.now in
    let o = c.args.orbit.now in
    let m = c.args.found.now in
    let row = c.args.row.now in
    let told = told_of irreps o m row in
    let old = c.args.text.now in
    let head : List ℕ → ℕ → List ℕ = λ label n. line (codes "orbit " ++ decimal c.args.number ++ codes " " ++ label ++ codes " modes " ++ decimal n) [] in
    let label = c.as_slice.ensures.value ∙ c.label.ensures in
    let count = sym (amplitudes-told-length irreps o m row c.requires) in
    let last : ℕ → List ℕ = λ n. line (codes "zero " ++ decimal n) [] in
    let one = c.push_head.new.text in
    let two = c.push_amplitudes.new.text in
    let a : one ≡ old ++ head o.label (length told.amplitudes) = c.in_ok-push_head.ensures ∙ (λ j. old ++ head (label j) (count j)) in
    let zeros = c.zeros_in.ensures ∙ zeros-told irreps o m row c.requires in
    on_ok_weaker c.push_zeros.result
    (λ s. three-joined old (head o.label (length told.amplitudes)) (flat_map amplitude_line (enumerate_from 1 told.amplitudes)) (last (zeros_in told.amplitudes)) one two c.push_zeros.new.text a c.in_ok-push_amplitudes.ensures
    (s ∙ ap (λ n. two ++ last n) zeros))
    c.push_zeros.ensures
