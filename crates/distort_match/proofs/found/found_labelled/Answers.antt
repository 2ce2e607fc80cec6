use Rattle.std.proofs.Common.{◌≡◌, sym, ◌∙◌, ℤ, w64}
use Rattle.std.specs.Cmp.Lexicographic.{bytes_decides}
use Rattle.algebra.specs.PassedLaws.{passed, passed-from}
use Rattle.space_ops.specs.Op.{vector_of}
use Rattle.distort_match.specs.FoundParts.{IsAtomIn, IsFound}
use Rattle.distort_match.proofs.FoundLemmas.{orbit_labelled}
use Rattle.distort_match.proofs.found.found_labelled.Goals as goal

pub found_in-requires-clause-inside : goal.found_in-requires-clause-inside
found_in-requires-clause-inside c = c.requires.sorted.inside c.args.o c.get-orbit.result.now c.get-orbit.ensures

pub returns-then-eq : goal.returns-then-eq
returns-then-eq c =
    let same : c.as_slice.result.now ≡ c.as_slice-2.result.now = (bytes_decides c.as_slice.result.now c.as_slice-2.result.now).0 (sym c.eq.ensures ∙ c.if-eq.true) in
    let label : c.get-orbit.result.now.label ≡ c.args.label.now = sym (c.as_slice.ensures.value ∙ c.label.ensures) ∙ same ∙ c.as_slice-2.ensures.value in
    passed-from w64 (λ (t : ℤ). IsFound (IsAtomIn c.args.d t (vector_of c.args.x) c.args.label.now c.args.orbits.now c.args.o) c.found_in.result) c.args.tolerance c.ranges.tolerance
    (orbit_labelled c.args.d (passed w64 c.args.tolerance) (vector_of c.args.x) c.args.label.now c.args.orbits.now c.args.o c.get-orbit.result.now c.get-orbit.ensures label c.found_in.result c.found_in.ensures)
