use Rattle.std.proofs.Common.{◌+◌, List, length, take, drop, sym, ap, subst, arith}
use Rattle.std.specs.Vec.Iter.{into_iter_items}
use Rattle.induce.specs.InducedView.{InducedView}
use Rattle.report_steps.specs.declared.context.AcceptedRep.{AcceptedRep}
use Rattle.report_steps.specs.Held.{IsRepHeld, IsInducedHeld}
use Rattle.report_steps.specs.Irreps.{HasInduced, RefusesInduced, IsWideInducedRep}
use Rattle.report_steps.specs.IrrepSteps.{Each}
use Rattle.report_steps.proofs.EachLemmas.{each-more, each-next, each-whole, or-wide-among}
use Rattle.report_steps.proofs.HeldLemmas.{induced-given}
use Rattle.report_steps.proofs.induction.all_induced.Goals as goal

pub loop-irrep-preserved : goal.loop-irrep-preserved
loop-irrep-preserved c =
    let q = c.args.quotient.now in
    let irreps = c.args.irreps.now in
    let at = c.loop-irrep in
    let i = at.irrep-index in
    let held = rw c.in-Passed.is at c.in_ok-induced.ensures in
    let L : List AcceptedRep → Type 0 = λ reps. Each (IsRepHeld q) (drop i irreps) reps in
    let P : List InducedView → Type 0 = λ all. Each (IsInducedHeld q) (take (i + 1) irreps) all in
    let steps = c.in-Some.ensures.cases.0 in
    let was = at.invariant.count in
    let gone = c.in-Some.ensures.cases.1 in
    let short = ap length steps in
    record {
      done = subst P (sym c.in_ok-add-in-Passed.ensures) (each-more (IsInducedHeld q) irreps at.all.items i c.irrep-item.result c.in-Passed.induced (omega arith) c.irrep-item.is at.invariant.done held);
      left = (each-next (IsRepHeld q) irreps (into_iter_items c.next.new.self) i c.irrep-item.result c.in-Some.accepted (omega arith) c.irrep-item.is (subst L steps at.invariant.left)).1;
      count = omega arith;
    }

pub returns-in-Refused : goal.returns-in-Refused
returns-in-Refused c =
    let q = c.args.quotient.now in
    let irreps = c.args.irreps.now in
    let at = c.loop-irrep in
    let i = at.irrep-index in
    or-wide-among (HasInduced q) (RefusesInduced q) (IsWideInducedRep q) irreps i c.irrep-item.result c.in-Refused.refusal (omega arith) c.irrep-item.is
    (induced-given q (take i irreps) at.all.items at.invariant.done) (rw c.in-Refused.is at c.in_ok-induced.ensures)

pub returns : goal.returns
returns c = each-whole (IsInducedHeld c.args.quotient.now) c.args.irreps.now c.loop-irrep.all.items c.loop-irrep.irrep-index (omega arith) c.loop-irrep.invariant.done
