use Rattle.std.proofs.Common.{ℤ, length, w64}
use Rattle.algebra.specs.PassedLaws.{passed-from}
use Rattle.space_ops.specs.Op.{vector_of}
use Rattle.distort_match.specs.FoundParts.{IsFound, IsAtomOf}
use Rattle.distort_match.proofs.PlaceLemmas.{found_inside, taken_kept, taken_placed, refused_cause, ok_map, err_map}
use Rattle.distort_match.proofs.lines.add_place.Goals as goal

pub take_found-requires : goal.take_found-requires
take_found-requires c =
    let k =
    passed-from w64 (λ (t : ℤ). IsFound (IsAtomOf c.args.d t (vector_of c.args.x) c.args.label.now c.args.orbits.now (length c.args.orbits.now)) c.found_at.result) c.args.tolerance c.ranges.tolerance
    c.found_at.ensures in
    found_inside c.args.d c.args.tolerance (vector_of c.args.x) c.args.label.now c.args.orbits.now c.args.marks.now.items c.requires.marks c.found_at.result k

pub returns-clause-marks : goal.returns-clause-marks
returns-clause-marks c =
    let k =
    passed-from w64 (λ (t : ℤ). IsFound (IsAtomOf c.args.d t (vector_of c.args.x) c.args.label.now c.args.orbits.now (length c.args.orbits.now)) c.found_at.result) c.args.tolerance c.ranges.tolerance
    c.found_at.ensures in
    ok_map c.take_found.result _ _
    (λ t. taken_kept c.args.d c.args.tolerance (vector_of c.args.x) c.args.label.now c.args.orbits.now c.args.marks.now.items _ c.requires.marks c.found_at.result k t) c.take_found.ensures.taken

pub returns-clause-placed : goal.returns-clause-placed
returns-clause-placed c =
    let k =
    passed-from w64 (λ (t : ℤ). IsFound (IsAtomOf c.args.d t (vector_of c.args.x) c.args.label.now c.args.orbits.now (length c.args.orbits.now)) c.found_at.result) c.args.tolerance c.ranges.tolerance
    c.found_at.ensures in
    ok_map c.take_found.result _ _ (λ t. taken_placed c.args.d c.args.tolerance (vector_of c.args.x) c.args.label.now c.args.orbits.now c.args.marks.now.items _ c.found_at.result k t)
    c.take_found.ensures.taken

pub returns-clause-cause : goal.returns-clause-cause
returns-clause-cause c =
    let k =
    passed-from w64 (λ (t : ℤ). IsFound (IsAtomOf c.args.d t (vector_of c.args.x) c.args.label.now c.args.orbits.now (length c.args.orbits.now)) c.found_at.result) c.args.tolerance c.ranges.tolerance
    c.found_at.ensures in
    err_map c.take_found.result _ _
    (λ e r. refused_cause c.args.d c.args.tolerance (vector_of c.args.x) c.args.label.now c.args.orbits.now c.args.marks.now.items c.args.line c.found_at.result e k r) c.take_found.ensures.cause
