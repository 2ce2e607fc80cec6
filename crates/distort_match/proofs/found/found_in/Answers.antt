use Rattle.std.proofs.Common.{◌≡◌, subst, ℕ, ◌*◌, ℤ, length, slice_index_or, w64, rules, arith}
use Rattle.std.proofs.lemmas.Int.{to_z-of_z}
use Rattle.algebra.specs.PassedLaws.{passed, passed-from}
use Rattle.space_ops.specs.Op.{number_at, vector_of}
use Rattle.super_group.specs.Supercell.{multiplier}
use Rattle.distort_match.specs.FoundParts.{IsAtomBelow, IsFound}
use Rattle.distort_match.specs.WindowParts.{AreWindows}
use Rattle.distort_match.proofs.AlongLemmas.{multiplier_at}
use Rattle.distort_match.proofs.WindowLemmas.{low_skipped, middle_skipped}
use Rattle.distort_match.proofs.found.found_in.Goals as goal

pub found_between-middle-requires-clause-before : goal.found_between-middle-requires-clause-before
found_between-middle-requires-clause-before c =
    let e : slice_index_or c.args.d 0 0 ≡ multiplier c.args.d 0 = multiplier_at c.args.d (search rules) 0 (omega arith) in
    let f = to_z-of_z w64 (number_at c.args.x 0) (search rules) in
    let h =
    subst (λ (A : Type 0). A) (λ i. AreWindows (12000000 * e i) (passed w64 c.args.tolerance) (f i) c.args.orbit.now.places c.windows_of-near.result) c.windows_of-near.ensures in
    low_skipped c.args.d (passed w64 c.args.tolerance) (vector_of c.args.x) c.args.o c.args.orbit.now.places c.windows_of-near.result h c.found_between-low.result c.found_between-low.ensures

pub found_between-requires-clause-before : goal.found_between-requires-clause-before
found_between-requires-clause-before c =
    let e : slice_index_or c.args.d 0 0 ≡ multiplier c.args.d 0 = multiplier_at c.args.d (search rules) 0 (omega arith) in
    let f = to_z-of_z w64 (number_at c.args.x 0) (search rules) in
    let h =
    subst (λ (A : Type 0). A) (λ i. AreWindows (12000000 * e i) (passed w64 c.args.tolerance) (f i) c.args.orbit.now.places c.windows_of-near.result) c.windows_of-near.ensures in
    middle_skipped c.args.d (passed w64 c.args.tolerance) (vector_of c.args.x) c.args.o c.args.orbit.now.places c.windows_of-near.result h c.found_between-middle.result c.found_between-middle.ensures

pub returns : goal.returns
returns c =
    passed-from w64 (λ (t : ℤ). IsFound (IsAtomBelow c.args.d t (vector_of c.args.x) c.args.o c.args.orbit.now.places (length c.args.orbit.now.places)) c.found_between.result) c.args.tolerance
    c.ranges.tolerance
    (subst (λ (k : ℕ). IsFound (IsAtomBelow c.args.d (passed w64 c.args.tolerance) (vector_of c.args.x) c.args.o c.args.orbit.now.places k) c.found_between.result) c.atoms.ensures.value
    c.found_between.ensures)
