use Rattle.std.proofs.Common.{◌+◌, ◌<◌, ◌≤◌, length, take, sym, subst, arith}
use Rattle.std.proofs.lemmas.Option.{get_or_from_slice_get}
use Rattle.mode_project.specs.AtomSpace.{IsOrbit}
use Rattle.mode_project.specs.Weights.{exact_weights}
use Rattle.report_steps.specs.IrrepSteps.{Each}
use Rattle.mode_report.specs.DirectionHeld.{AreOrbitRows}
use Rattle.mode_report.proofs.DirectionLemmas.{wide-orbit}
use Rattle.mode_report.proofs.EachLemmas.{each-more, each-whole}
use Rattle.mode_report.proofs.direction_rows.all_rows.Goals as goal

pub orbit_rows-requires-clause-orbit : goal.orbit_rows-requires-clause-orbit
orbit_rows-requires-clause-orbit c =
    let orbits = c.args.orbits.now in
    let i = c.loop-i.i in
    let o = c.get.result.now in
    let l : i < length orbits = omega (arith, c.loop-i.invariant.end) in
    subst (IsOrbit c.args.quotient.now) (get_or_from_slice_get orbits i o o c.get.ensures) (c.requires.orbits i o l)

pub loop-i-preserved : goal.loop-i-preserved
loop-i-preserved c =
    let R = AreOrbitRows c.args.quotient.now c.args.stab.now (exact_weights c.args.weights.now) in
    let orbits = c.args.orbits.now in
    let i = c.loop-i.i in
    let o = c.get.result.now in
    let held = rw c.in-Passed.is at c.in_ok-rows.ensures in
    let l : i < length orbits = omega (arith, c.loop-i.invariant.end) in
    record {
      end = c.loop-i.invariant.end;
      done = subst (λ all. Each R (take (i + 1) orbits) all) (sym c.in_ok-add-in-Passed.ensures) (each-more R orbits c.loop-i.all.items i o c.in-Passed.rows l (get_or_from_slice_get orbits i o o c.get.ensures) c.loop-i.invariant.done held);
    }

pub returns-in-Refused : goal.returns-in-Refused
returns-in-Refused c =
    wide-orbit c.args.quotient.now c.args.stab.now (exact_weights c.args.weights.now) c.args.orbits.now c.loop-i.i c.get.result.now c.in-Refused.refusal c.get.ensures (rw c.in-Refused.is at c.in_ok-rows.ensures)

pub returns : goal.returns
returns c =
    let orbits = c.args.orbits.now in
    let whole : length orbits ≤ c.loop-i.i = omega (arith, c.loop-i.invariant.end) in
    each-whole (AreOrbitRows c.args.quotient.now c.args.stab.now (exact_weights c.args.weights.now)) orbits c.loop-i.all.items c.loop-i.i whole c.loop-i.invariant.done
