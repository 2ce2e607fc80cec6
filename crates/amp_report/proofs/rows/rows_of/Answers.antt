use Rattle.std.proofs.Common.{◌+◌, ◌<◌, ◌≡◌, List, Some, length, slice_get, refl, sym, subst, arith}
use Rattle.std.proofs.lemmas.Option.{slice_get_read}
use Rattle.cyclo24.specs.declared.k24.K24.{K24}
use Rattle.mode_project.specs.OrbitAmplitudes.{displacement_of}
use Rattle.amp_report.specs.Held.{AreRowsOf}
use Rattle.amp_report.proofs.HeldLemmas.{rows-wide-some}
use Rattle.amp_report.specs.AmpsHeldLaws.{rows-more}
use Rattle.amp_report.proofs.rows.rows_of.Goals as goal

pub loop-n-preserved : goal.loop-n-preserved
loop-n-preserved c =
    let all = c.args.modes.now in
    let shifts = c.args.shifts.now in
    let n = c.loop-n.n in
    let m = c.index-modes-n.result in
    let l : n < length all = omega (arith, c.loop-n.invariant.end) in
    let s : slice_get all n ≡ Some m = slice_get_read all (length all) n m refl l c.index-modes-n.is in
    let P : List (List K24) → Type 0 = λ rows. AreRowsOf all shifts (n + 1) rows in
    record {
      end = c.loop-n.invariant.end;
      done = subst P (sym c.in_ok-add-in-Passed.ensures) (rows-more all (displacement_of shifts) n c.loop-n.rows.items m c.in-Passed.row s c.loop-n.invariant.done (rw c.in-Passed.is at c.in_ok-row.ensures));
    }

pub returns-in-Refused : goal.returns-in-Refused
returns-in-Refused c =
    let all = c.args.modes.now in
    let n = c.loop-n.n in
    let m = c.index-modes-n.result in
    let l : n < length all = omega (arith, c.loop-n.invariant.end) in
    let s : slice_get all n ≡ Some m = slice_get_read all (length all) n m refl l c.index-modes-n.is in
    rows-wide-some all c.args.shifts.now n m c.in-Refused.refusal s (rw c.in-Refused.is at c.in_ok-row.ensures)
