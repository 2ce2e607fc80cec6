use Rattle.std.proofs.Common.{◌≡◌, sym, ◌∙◌, subst, ℕ, ◌+◌, length, arith}
use Rattle.distort_match.proofs.FinishLemmas.{AreFreeBefore, none_free, orbit_free, all_free}
use Rattle.distort_match.proofs.marks.no_marks.Goals as goal

pub loop-o-init : goal.loop-o-init
loop-o-init c = subst (AreFreeBefore c.args.orbits.now 0) (sym c.new-marks.ensures.items) (none_free c.args.orbits.now)

pub loop-o-preserved : goal.loop-o-preserved
loop-o-preserved c =
    subst (AreFreeBefore c.args.orbits.now (c.loop-o.o + 1)) (sym c.in-Ok.ensures.items)
    (orbit_free c.args.orbits.now c.loop-o.o c.loop-o.marks.items c.get.result.now c.in_ok-row.row c.loop-o.invariant c.get.ensures (c.in_ok-row.ensures.count ∙ c.atoms.ensures.value)
    c.in_ok-row.ensures.free)

pub returns-clause-shape : goal.returns-clause-shape
returns-clause-shape c =
    let n : c.loop-o.o ≡ length c.args.orbits.now = omega (arith, c.loop-o-test.false, c.loop-o.auto.o-end, c.len-o-end.ensures) in
    all_free c.args.orbits.now c.loop-o.marks.items (subst (λ (k : ℕ). AreFreeBefore c.args.orbits.now k c.loop-o.marks.items) n c.loop-o.invariant)

pub returns-clause-free : goal.returns-clause-free
returns-clause-free c = c.loop-o.invariant.free
