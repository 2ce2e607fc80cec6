use Rattle.std.proofs.Common.{◌≡◌, sym, ◌∙◌, subst, ℕ, ◌+◌, [], length, get_or, arith}
use Rattle.distort_match.specs.MarkParts.{AreAllMarked}
use Rattle.distort_match.proofs.FinishLemmas.{none_marked, row_more}
use Rattle.distort_match.proofs.marks.orbit_shifts.Goals as goal

pub loop-i-init : goal.loop-i-init
loop-i-init c = subst (AreAllMarked c.args.marks.now 0) (sym c.new-shifts.ensures.items) (none_marked c.args.marks.now)

pub loop-i-preserved : goal.loop-i-preserved
loop-i-preserved c =
    subst (AreAllMarked c.args.marks.now (c.loop-i.i + 1)) (sym c.in-Ok.ensures.items)
    (row_more c.args.marks.now c.loop-i.i c.loop-i.shifts.items c.in-Some.shift c.loop-i.invariant (sym c.get.ensures ∙ c.in-Some.is))

pub returns-in-None-clause-cause : goal.returns-in-None-clause-cause
returns-in-None-clause-cause c = record {
  i = c.loop-i.i;
  below = omega (arith, c.loop-i-test.true, c.atoms-i-end.ensures.value);
  free = sym c.get.ensures ∙ c.in-None.is;
  first = λ j l. (get_or c.loop-i.shifts.items j [], c.loop-i.invariant.each j l);
  label_is = c.label.ensures;
  place_is = c.place.ensures.value;
}

pub returns-clause-shifts : goal.returns-clause-shifts
returns-clause-shifts c =
    let n : c.loop-i.i ≡ length c.args.orbit.now.places = omega (arith, c.loop-i-test.false, c.loop-i.auto.i-end, c.atoms-i-end.ensures.value) in
    subst (AreAllMarked c.args.marks.now (length c.args.orbit.now.places)) (sym c.from_vec.ensures) (subst (λ (k : ℕ). AreAllMarked c.args.marks.now k c.loop-i.shifts.items) n c.loop-i.invariant)
