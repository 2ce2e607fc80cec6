use Rattle.std.proofs.Common.{◌≡◌, subst, ℕ, ℤ, length, w64, arith}
use Rattle.algebra.specs.PassedLaws.{passed-to}
use Rattle.distort_match.specs.FrameParts.{IsMatchingIn}
use Rattle.distort_match.specs.MarkParts.{AreMarked}
use Rattle.distort_match.proofs.lines.add_lines.Goals as goal

pub loop-n-init : goal.loop-n-init
loop-n-init c = (c.requires.marks, λ m w a. a)

pub loop-n-preserved : goal.loop-n-preserved
loop-n-preserved c = (c.in-Ok.ensures.marks, λ m w a. c.in-Ok.ensures.marked m w (c.loop-n.invariant.1 m w a))

pub returns-clause-marks : goal.returns-clause-marks
returns-clause-marks c = c.loop-n.invariant.0

pub returns-clause-marked : goal.returns-clause-marked
returns-clause-marked c m w a =
    let w' = passed-to w64 (λ (t : ℤ). IsMatchingIn c.args.d c.args.orbits.now c.args.listed.now t c.args.frame.now m) c.args.tolerance c.ranges.tolerance w in
    let n : c.loop-n.n ≡ length c.args.listed.now = omega (arith, c.loop-n-test.false, c.loop-n.auto.n-end) in
    subst (λ (k : ℕ). AreMarked m k 0 c.loop-n.marks.items) n (c.loop-n.invariant.1 m w' a)
