use Rattle.std.proofs.Common.{◌+◌, List, length, take, drop, sym, ap, subst, arith}
use Rattle.std.specs.Vec.Iter.{into_iter_items}
use Rattle.kstar.specs.Star.{WaveStar}
use Rattle.report_steps.specs.declared.context.AcceptedRep.{AcceptedRep}
use Rattle.report_steps.specs.Held.{IsCellHeld, IsRepHeld}
use Rattle.report_steps.specs.Irreps.{HasRep, RefusesRep, IsWideRep}
use Rattle.report_steps.specs.IrrepSteps.{Each}
use Rattle.report_steps.proofs.EachLemmas.{each-more, each-next, each-whole, or-wide-among}
use Rattle.report_steps.proofs.HeldLemmas.{reps-given}
use Rattle.report_steps.proofs.rep.all_reps.Goals as goal

pub loop-irrep-preserved : goal.loop-irrep-preserved
loop-irrep-preserved c =
    let q = c.args.quotient.now in
    let irreps = c.args.irreps.now in
    let at = c.loop-irrep in
    let i = at.irrep-index in
    let held = rw c.in-Passed.is at c.in_ok-rep.ensures in
    let L : List WaveStar → Type 0 = λ stars. Each (IsCellHeld q) (drop i irreps) stars in
    let P : List AcceptedRep → Type 0 = λ reps. Each (IsRepHeld q) (take (i + 1) irreps) reps in
    let steps = c.in-Some.ensures.cases.0 in
    let was = at.invariant.count in
    let gone = c.in-Some.ensures.cases.1 in
    let short = ap length steps in
    record {
      done = subst P (sym c.in_ok-add-in-Passed.ensures) (each-more (IsRepHeld q) irreps at.reps.items i c.irrep-item.result c.in-Passed.rep (omega arith) c.irrep-item.is at.invariant.done held);
      left = (each-next (IsCellHeld q) irreps (into_iter_items c.next.new.self) i c.irrep-item.result c.in-Some.star (omega arith) c.irrep-item.is (subst L steps at.invariant.left)).1;
      count = omega arith;
    }

pub returns-in-Refused : goal.returns-in-Refused
returns-in-Refused c =
    let q = c.args.quotient.now in
    let p = q.parent in
    let irreps = c.args.irreps.now in
    let at = c.loop-irrep in
    let i = at.irrep-index in
    or-wide-among (HasRep p) (RefusesRep p) (IsWideRep p) irreps i c.irrep-item.result c.in-Refused.refusal (omega arith) c.irrep-item.is
    (reps-given q (take i irreps) at.reps.items at.invariant.done) (rw c.in-Refused.is at c.in_ok-rep.ensures)

pub returns : goal.returns
returns c = each-whole (IsRepHeld c.args.quotient.now) c.args.irreps.now c.loop-irrep.reps.items c.loop-irrep.irrep-index (omega arith) c.loop-irrep.invariant.done
