use Rattle.std.proofs.Common.{◌∙◌, ◌+◌, ◌++◌, ◌<◌, ◌≤◌, [], length, ap, arith}
use Rattle.std.proofs.lemmas.List.{take_all}
use Rattle.mode_report.specs.ModesReport.{place_line, place_lines}
use Rattle.mode_report.proofs.TextLemmas.{lines-more}
use Rattle.mode_report.proofs.place_text.push_places.Goals as goal

pub loop-i-preserved : goal.loop-i-preserved
loop-i-preserved c =
    let xs = c.args.orbit.now.places in
    let i = c.loop-i.i in
    let inside : i < length xs = omega (arith, c.loop-i.invariant.end) in
    record {
      end = c.loop-i.invariant.end;
      text = lines-more place_line xs c.args.text.now c.loop-i.text c.push.new.self c.as_slice.result.now i [] inside c.loop-i.invariant.text c.in_ok-push.ensures.ok (c.as_slice.ensures ∙ c.in_ok-line.ensures ∙ ap (λ x. place_line (i + 1, x)) c.place.ensures.value);
    }

pub returns : goal.returns
returns c =
    let xs = c.args.orbit.now.places in
    let whole : length xs ≤ c.loop-i.i = omega (arith, c.loop-i.invariant.end) in
    c.loop-i.invariant.text ∙ ap (λ ys. c.args.text.now ++ place_lines ys) (take_all c.loop-i.i xs whole)
