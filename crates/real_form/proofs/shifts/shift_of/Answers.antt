use Rattle.std.proofs.Common.{◌<◌, ℕ, ap, subst, length}
use Rattle.real_form.proofs.ShiftLemmas.{shift-mod}
use Rattle.real_form.proofs.shifts.shift_of.Goals as goal

pub returns-then-d-a-clause-shift : goal.returns-then-d-a-clause-shift
returns-then-d-a-clause-shift c =
    let lt : c.loop-t.t < length c.args.quotient.now.translations = subst (λ (k : ℕ). c.loop-t.t < k) (ap length c.translations-count.ensures) c.loop-t-test.true in (
      c.loop-t.t,
      c.phase-first.result,
      c.phase-second.result,
      lt,
      c.phase-first.ensures.below,
      c.phase-first.ensures.matrix,
      c.phase-second.ensures.matrix,
      shift-mod c.phase-first.result c.phase-second.result c.phase-first.ensures.below c.phase-second.ensures.below,
    )
