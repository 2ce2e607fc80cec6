use Rattle.std.proofs.Common.{◌≡◌, sym, ap, ◌∙◌, subst, ℕ, ◌+◌, ℤ, List, slice_index, w64, arith}
use Rattle.algebra.specs.PassedLaws.{passed, passed-from, passed-to}
use Rattle.space_ops.specs.Op.{vector_of}
use Rattle.distort_match.specs.FoundParts.{IsDisplacementFound, IsAtomBelow, IsFound, both_of}
use Rattle.distort_match.proofs.FoundLemmas.{atom_more}
use Rattle.distort_match.proofs.found.found_between.Goals as goal

pub loop-i-init : goal.loop-i-init
loop-i-init c =
    passed-to w64 (λ (t : ℤ). IsFound (IsAtomBelow c.args.d t (vector_of c.args.x) c.args.o c.args.orbit.now.places (slice_index c.args.between 0)) c.args.found) c.args.tolerance c.ranges.tolerance
    c.requires.before

pub loop-i-preserved : goal.loop-i-preserved
loop-i-preserved c =
    let tolerance : ℤ = passed w64 c.args.tolerance in
    let x = vector_of c.args.x in
    let places = c.args.orbit.now.places in
    subst (IsFound (IsAtomBelow c.args.d tolerance x c.args.o places (c.loop-i.i + 1))) (sym (c.both-found.ensures ∙ ap (both_of c.loop-i.found) c.found_atom.ensures))
    (atom_more c.args.d tolerance x c.args.o places c.loop-i.i c.displacement-shift.result c.loop-i.found
    (subst (λ (a : List ℤ). IsDisplacementFound c.args.d tolerance x (vector_of a) c.displacement-shift.result) c.place.ensures.value c.displacement-shift.ensures) c.loop-i.invariant)

pub returns : goal.returns
returns c =
    let n : c.loop-i.i ≡ slice_index c.args.between 1 = omega (arith, c.loop-i-test.false, c.loop-i.auto.i-end, c.requires.order) in
    passed-from w64 (λ (t : ℤ). IsFound (IsAtomBelow c.args.d t (vector_of c.args.x) c.args.o c.args.orbit.now.places (slice_index c.args.between 1)) c.loop-i.found) c.args.tolerance c.ranges.tolerance
    (subst (λ (k : ℕ). IsFound (IsAtomBelow c.args.d (passed w64 c.args.tolerance) (vector_of c.args.x) c.args.o c.args.orbit.now.places k) c.loop-i.found) n c.loop-i.invariant)
