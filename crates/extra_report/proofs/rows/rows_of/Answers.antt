use Rattle.std.proofs.Common.{◌+◌, ◌<◌, ◌≡◌, List, Some, length, slice_get, refl, sym, subst, arith}
use Rattle.std.proofs.lemmas.Option.{slice_get_read}
use Rattle.cyclo24.specs.declared.k24.K24.{K24}
use Rattle.extra_modes.specs.ExtraAmplitudes.{amounts_of}
use Rattle.amp_report.specs.AmpsHeldLaws.{rows-more}
use Rattle.amp_report.specs.Held.{AreRowsBy}
use Rattle.extra_report.proofs.AmpsLemmas.{wide-row}
use Rattle.extra_report.proofs.rows.rows_of.Goals as goal

pub loop-n-preserved : goal.loop-n-preserved
loop-n-preserved c =
    let all = c.args.modes.now in
    let v = amounts_of c.args.amounts.now in
    let n = c.loop-n.n in
    let m = c.index-modes-n.result in
    let l : n < length all = omega (arith, c.loop-n.invariant.end) in
    let s : slice_get all n ≡ Some m = slice_get_read all (length all) n m refl l c.index-modes-n.is in
    let P : List (List K24) → Type 0 = λ rows. AreRowsBy all v (n + 1) rows in
    record {
      end = c.loop-n.invariant.end;
      done = subst P (sym c.in_ok-add-in-Passed.ensures) (rows-more all v n c.loop-n.rows.items m c.in-Passed.row s c.loop-n.invariant.done (rw c.in-Passed.is at c.in_ok-row.ensures));
    }

pub returns-in-Refused : goal.returns-in-Refused
returns-in-Refused c =
    let all = c.args.modes.now in
    let n = c.loop-n.n in
    let m = c.index-modes-n.result in
    let l : n < length all = omega (arith, c.loop-n.invariant.end) in
    let s : slice_get all n ≡ Some m = slice_get_read all (length all) n m refl l c.index-modes-n.is in
    wide-row all (amounts_of c.args.amounts.now) n m c.in-Refused.refusal s (rw c.in-Refused.is at c.in_ok-row.ensures)
