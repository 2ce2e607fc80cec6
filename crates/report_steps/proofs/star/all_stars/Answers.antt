use Rattle.std.proofs.Common.{List, sym, subst, take, ◌+◌, arith}
use Rattle.kstar.specs.Star.{WaveStar}
use Rattle.report_steps.specs.Held.{IsStarHeld}
use Rattle.report_steps.specs.Irreps.{HasPhase, RefusesPhase}
use Rattle.report_steps.specs.IrrepSteps.{Each}
use Rattle.report_steps.proofs.EachLemmas.{each-more, each-whole, each-all, first-at}
use Rattle.report_steps.proofs.star.all_stars.Goals as goal

pub loop-irrep-preserved : goal.loop-irrep-preserved
loop-irrep-preserved c =
    let group = c.args.group.now in
    let irreps = c.args.irreps.now in
    let i = c.loop-irrep.irrep-index in
    let held = rw c.in-Passed.is at c.in_ok-star.ensures in
    let P : List WaveStar → Type 0 = λ xs. Each (IsStarHeld group) (take (i + 1) irreps) xs in
    subst P (sym c.in_ok-add-in-Passed.ensures) (each-more (IsStarHeld group) irreps c.loop-irrep.stars.items i c.irrep-item.result c.in-Passed.star (omega arith) c.irrep-item.is c.loop-irrep.invariant held)

pub returns-in-Refused : goal.returns-in-Refused
returns-in-Refused c =
    let group = c.args.group.now in
    let irreps = c.args.irreps.now in
    let i = c.loop-irrep.irrep-index in
    first-at (HasPhase group) (RefusesPhase group) irreps i c.irrep-item.result c.in-Refused.refusal (omega arith) c.irrep-item.is
    (each-all (IsStarHeld group) (HasPhase group) (take i irreps) c.loop-irrep.stars.items (λ x s h. h.phases) c.loop-irrep.invariant) (rw c.in-Refused.is at c.in_ok-star.ensures)

pub returns : goal.returns
returns c = each-whole (IsStarHeld c.args.group.now) c.args.irreps.now c.loop-irrep.stars.items c.loop-irrep.irrep-index (omega arith) c.loop-irrep.invariant
