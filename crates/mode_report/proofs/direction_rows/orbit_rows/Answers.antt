use Rattle.std.proofs.Common.{◌+◌, ◌<◌, ◌≤◌, List, length, take, sym, subst, arith}
use Rattle.cyclo24.specs.declared.k24.K24.{K24}
use Rattle.cyclo24.specs.ExactK24.{k24_laws}
use Rattle.lin_alg.specs.Matrix.{MatrixView}
use Rattle.mode_project.specs.Modes.{vector_at}
use Rattle.mode_project.specs.Weights.{exact_weights}
use Rattle.report_steps.specs.IrrepSteps.{Each}
use Rattle.mode_report.specs.DirectionHeld.{AreIrrepRows}
use Rattle.mode_report.proofs.DirectionLemmas.{vector-in, weights-count, wide-irrep}
use Rattle.mode_report.proofs.EachLemmas.{each-more, each-whole}
use Rattle.mode_report.proofs.direction_rows.orbit_rows.Goals as goal

pub loop-j-preserved : goal.loop-j-preserved
loop-j-preserved c =
    let R = AreIrrepRows c.args.quotient.now c.args.stab.now c.args.orbit.now in
    let ws = exact_weights c.args.weights.now in
    let j = c.loop-j.j in
    let w = vector_at k24_laws ws j in
    let held = rw c.in-Passed.is at c.in_ok-rows.ensures in
    let count = weights-count c.args.weights.now in
    let l : j < length ws = omega (arith, c.requires.irreps, count) in
    let P : List (MatrixView K24) → Type 0 = λ all. Each R (take (j + 1) ws) all in
    subst P (sym c.in_ok-add-in-Passed.ensures) (each-more R ws c.loop-j.all.items j w c.in-Passed.rows l (vector-in k24_laws ws j w l) c.loop-j.invariant held)

pub returns-in-Refused : goal.returns-in-Refused
returns-in-Refused c =
    let ws = exact_weights c.args.weights.now in
    let count = weights-count c.args.weights.now in
    let l : c.loop-j.j < length ws = omega (arith, c.requires.irreps, count) in
    wide-irrep c.args.quotient.now c.args.stab.now ws c.args.orbit.now c.loop-j.j c.in-Refused.refusal l (rw c.in-Refused.is at c.in_ok-rows.ensures)

pub returns : goal.returns
returns c =
    let ws = exact_weights c.args.weights.now in
    let count = weights-count c.args.weights.now in
    let whole : length ws ≤ c.loop-j.j = omega (arith, c.requires.irreps, count) in
    each-whole (AreIrrepRows c.args.quotient.now c.args.stab.now c.args.orbit.now) ws c.loop-j.all.items c.loop-j.j whole c.loop-j.invariant
