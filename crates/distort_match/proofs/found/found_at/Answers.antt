use Rattle.std.proofs.Common.{◌≡◌, sym, subst, ℕ, ◌+◌, ℤ, length, w64, arith}
use Rattle.algebra.specs.PassedLaws.{passed, passed-from}
use Rattle.space_ops.specs.Op.{vector_of}
use Rattle.distort_match.specs.FoundParts.{IsAtomOf, IsFound}
use Rattle.distort_match.proofs.FoundLemmas.{orbit_more}
use Rattle.distort_match.proofs.found.found_at.Goals as goal

pub loop-o-preserved : goal.loop-o-preserved
loop-o-preserved c =
    let tolerance : ℤ = passed w64 c.args.tolerance in
    let x = vector_of c.args.x in
    subst (IsFound (IsAtomOf c.args.d tolerance x c.args.label.now c.args.orbits.now (c.loop-o.o + 1))) (sym c.both-found.ensures)
    (orbit_more c.args.d tolerance x c.args.label.now c.args.orbits.now c.loop-o.o c.loop-o.found c.found_labelled.result c.loop-o.invariant c.found_labelled.ensures)

pub returns : goal.returns
returns c =
    let n : c.loop-o.o ≡ length c.args.orbits.now = omega (arith, c.loop-o-test.false, c.loop-o.auto.o-end, c.len-o-end.ensures) in
    passed-from w64 (λ (t : ℤ). IsFound (IsAtomOf c.args.d t (vector_of c.args.x) c.args.label.now c.args.orbits.now (length c.args.orbits.now)) c.loop-o.found) c.args.tolerance c.ranges.tolerance
    (subst (λ (k : ℕ). IsFound (IsAtomOf c.args.d (passed w64 c.args.tolerance) (vector_of c.args.x) c.args.label.now c.args.orbits.now k) c.loop-o.found) n c.loop-o.invariant)
