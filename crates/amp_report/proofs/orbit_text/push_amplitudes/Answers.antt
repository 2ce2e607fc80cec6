use Rattle.std.proofs.Common.{◌∙◌, ◌+◌, ◌++◌, ◌<◌, ◌≤◌, ℕ, List, length, flat_map, sym, ap, subst, arith}
use Rattle.std.specs.List.{enumerate_from}
use Rattle.std.proofs.lemmas.List.{take_all}
use Rattle.cyclo24.specs.ExactK24.{Exact24}
use Rattle.cyclo24.specs.K24.{exact24}
use Rattle.amp_report.specs.AmpsReport.{amplitude_line}
use Rattle.amp_report.specs.Held.{told_of}
use Rattle.amp_report.proofs.TextLemmas.{amplitude-told, amplitudes-told-length, lines-more}
use Rattle.amp_report.proofs.orbit_text.push_amplitudes.Goals as goal

pub loop-m-preserved : goal.loop-m-preserved
loop-m-preserved c =
    let irreps = c.args.irreps.now in
    let o = c.args.orbit.now in
    let found = c.args.found.now in
    let row = c.args.row.now in
    let m = c.loop-m.m in
    let name = c.mode_name-name.result.now in
    let a = c.index-row-m.result in
    let d : List ℕ × Exact24 = (name, exact24 a) in
    let told = (told_of irreps o found row).amplitudes in
    let l : m < length row = omega (arith, c.loop-m.invariant.end) in
    let n : m < length told = subst (λ k. m < k) (sym (amplitudes-told-length irreps o found row c.requires)) l in
    record {
      end = c.loop-m.invariant.end;
      text = lines-more amplitude_line told c.args.text.now c.loop-m.text c.push_amplitude.new.text (amplitude_line (m + 1, d)) m d n c.loop-m.invariant.text c.in_ok-push_amplitude.ensures
          (ap (λ x. amplitude_line (m + 1, x)) (amplitude-told irreps o found row m name a d c.requires l c.mode_name-name.ensures c.index-row-m.is));
    }

pub returns : goal.returns
returns c =
    let told = (told_of c.args.irreps.now c.args.orbit.now c.args.found.now c.args.row.now).amplitudes in
    let count = amplitudes-told-length c.args.irreps.now c.args.orbit.now c.args.found.now c.args.row.now c.requires in
    let whole : length told ≤ c.loop-m.m = omega (arith, c.loop-m.invariant.end, count) in
    c.loop-m.invariant.text ∙ ap (λ xs. c.args.text.now ++ flat_map amplitude_line (enumerate_from 1 xs)) (take_all c.loop-m.m told whole)
