use Rattle.std.proofs.Common.{◌∙◌, ◌<◌, ◌≤◌, length, ap, refl, arith}
use Rattle.std.proofs.lemmas.List.{take_all}
use Rattle.mode_report.specs.Parts.{parts_of}
use Rattle.mode_report.proofs.PartLemmas.{orbit-more}
use Rattle.mode_report.proofs.parts.parts_of.Goals as goal

pub loop-i-preserved : goal.loop-i-preserved
loop-i-preserved c =
    let l : c.loop-i.i < length c.args.counts.now = omega (arith, c.loop-i.invariant.end) in
    record {
      end = c.loop-i.invariant.end;
      parts = orbit-more c.args.counts.now c.loop-i.parts.items c.add-in-loop-i.new.items.items c.push_modes.new.parts.items c.loop-i.i _ l c.loop-i.invariant.parts c.in_ok-add-2.ensures c.in_ok-push_modes.ensures refl;
    }

pub returns : goal.returns
returns c =
    let whole : length c.args.counts.now ≤ c.loop-i.i = omega (arith, c.loop-i.invariant.end) in
    c.loop-i.invariant.parts ∙ ap parts_of (take_all c.loop-i.i c.args.counts.now whole)
