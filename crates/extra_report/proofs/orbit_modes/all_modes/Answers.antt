use Rattle.std.proofs.Common.{◌+◌, ◌<◌, ◌≤◌, List, length, map, take, sym, subst, arith}
use Rattle.std.proofs.lemmas.Option.{get_or_from_slice_get}
use Rattle.mode_project.specs.AtomSpace.{IsOrbit}
use Rattle.mode_project.specs.ModesView.{ModesView}
use Rattle.mode_project.specs.Weights.{exact_weights, weights_in}
use Rattle.extra_modes.specs.ExtraSpace.{extra_space}
use Rattle.report_steps.specs.IrrepSteps.{Each}
use Rattle.mode_report.specs.Held.{AreModesBy}
use Rattle.mode_report.specs.ModesHeldLaws.{wide-some}
use Rattle.extra_report.proofs.EachLemmas.{each-more, each-whole}
use Rattle.extra_report.proofs.orbit_modes.all_modes.Goals as goal

pub orbit_modes-requires-clause-orbit : goal.orbit_modes-requires-clause-orbit
orbit_modes-requires-clause-orbit c =
    let orbits = c.args.orbits.now in
    let i = c.loop-i.i in
    let o = c.get.result.now in
    let l : i < length orbits = omega (arith, c.loop-i.invariant.end) in
    subst (IsOrbit c.args.quotient.now) (get_or_from_slice_get orbits i o o c.get.ensures) (c.requires.orbits i o l)

pub loop-i-preserved : goal.loop-i-preserved
loop-i-preserved c =
    let q = c.args.quotient.now in
    let ws = exact_weights (map weights_in c.args.induced.now) in
    let orbits = c.args.orbits.now in
    let i = c.loop-i.i in
    let o = c.get.result.now in
    let held = rw c.in-Passed.is at c.in_ok-found.ensures in
    let l : i < length orbits = omega (arith, c.loop-i.invariant.end) in
    let R = AreModesBy (extra_space c.args.nature) q ws in
    let P : List ModesView → Type 0 = λ all. Each R (take (i + 1) orbits) all in
    record {
      end = c.loop-i.invariant.end;
      done = subst P (sym c.in_ok-add-in-Passed.ensures) (each-more R orbits c.loop-i.all.items i o c.in-Passed.found l (get_or_from_slice_get orbits i o o c.get.ensures) c.loop-i.invariant.done held);
    }

pub returns-in-Refused : goal.returns-in-Refused
returns-in-Refused c =
    wide-some (extra_space c.args.nature) 8 3 c.args.quotient.now (exact_weights (map weights_in c.args.induced.now)) c.args.orbits.now c.loop-i.i c.get.result.now c.in-Refused.refusal c.get.ensures
    (rw c.in-Refused.is at c.in_ok-found.ensures)

pub returns : goal.returns
returns c =
    let orbits = c.args.orbits.now in
    let whole : length orbits ≤ c.loop-i.i = omega (arith, c.loop-i.invariant.end) in
    each-whole (AreModesBy (extra_space c.args.nature) c.args.quotient.now (exact_weights (map weights_in c.args.induced.now))) orbits c.loop-i.all.items c.loop-i.i whole c.loop-i.invariant.done
