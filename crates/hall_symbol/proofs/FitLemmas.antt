-- The operations of a symbol are fit for closing a group from them.
use Rattle.std.proofs.Common.{◌≡◌, ◌<◌, ◌≤◌, ◌+◌, ◌%◌, ◌∙◌, ap, length, length-append, slice_index_or, [], ℕ, ℤ, pos, negsuc, neg_ℤ, Bool, true, false, List, ◌++◌, map, get_or, arith, rules, subst, sym}
use Rattle.std.proofs.lemmas.Int.{ints}
use Rattle.std.specs.Int.{int_rem_euclid}
use Rattle.std.specs.List.{All}
use Rattle.std.proofs.lemmas.List.{length-map}
use Rattle.std.proofs.lemmas.List.Elements.{All-map}
use Rattle.space_ops.specs.declared.lattice.Lattice.{Lattice}
use Rattle.space_ops.specs.declared.op.Op.{Op}
use Rattle.space_ops.specs.Op.{IsWithin, IsShiftWithin, IsSmallRotation, IsSmallMatrix, IsUnimodular, row_at, matrix_of, vector_of, identity_op}
use Rattle.hall_symbol.specs.declared.generator.Generator.{Generator}
use Rattle.hall_symbol.specs.declared.rotation.Rotation.{Rotation}
use Rattle.hall_symbol.specs.declared.rotation.Rotation.TheVariants.{One, TwoZ, ThreeZ, FourZ, SixZ, TwoX, TwoY, FourX, FourY, TwoPrimeAfterZ, TwoDoublePrimeAfterZ, TwoPrimeAfterX, TwoDoublePrimeAfterX, TwoPrimeAfterY, TwoDoublePrimeAfterY, ThreeStar}
use Rattle.hall_symbol.specs.Grammar.{IsHallSymbol}
use Rattle.space_ops.specs.Group.{AreGenerators}
use Rattle.space_ops.specs.LeastShift.{IsInCell}
use Rattle.space_ops.specs.LeastShiftLaws.{twelfth-rem}
use Rattle.hall_symbol.specs.Operations.{op_at_origin, inversion_of, opposite_row, signed}
use Rattle.hall_symbol.specs.Spelling.{part_of}
use Rattle.hall_symbol.proofs.PartListGrammar.{length-generators_of}
use Rattle.hall_symbol.specs.RotationLaws.{IsUnimodular-signed}
use Rattle.hall_symbol.specs.Rotations.{rotation_rows}

IsSmallRotation-rows : (r : Rotation) → IsSmallRotation (rotation_rows r)
IsSmallRotation-rows One = search rules
IsSmallRotation-rows TwoZ = search rules
IsSmallRotation-rows ThreeZ = search rules
IsSmallRotation-rows FourZ = search rules
IsSmallRotation-rows SixZ = search rules
IsSmallRotation-rows TwoX = search rules
IsSmallRotation-rows TwoY = search rules
IsSmallRotation-rows FourX = search rules
IsSmallRotation-rows FourY = search rules
IsSmallRotation-rows TwoPrimeAfterZ = search rules
IsSmallRotation-rows TwoDoublePrimeAfterZ = search rules
IsSmallRotation-rows TwoPrimeAfterX = search rules
IsSmallRotation-rows TwoDoublePrimeAfterX = search rules
IsSmallRotation-rows TwoPrimeAfterY = search rules
IsSmallRotation-rows TwoDoublePrimeAfterY = search rules
IsSmallRotation-rows ThreeStar = search rules

IsWithin-opposite : (x : ℤ) → IsWithin 3 x → IsWithin 3 (neg_ℤ x)
IsWithin-opposite x h = (omega (arith, ints), omega (arith, ints))

IsShiftWithin-opposite : (row : List ℤ) → IsShiftWithin 3 row → IsShiftWithin 3 (opposite_row row)
IsShiftWithin-opposite row h = (IsWithin-opposite _ h.0, IsWithin-opposite _ h.1, IsWithin-opposite _ h.2)

IsSmallRotation-signed : (b : Bool) (r : Rotation) → IsSmallRotation (signed b (rotation_rows r))
IsSmallRotation-signed true r =
    let h = IsSmallRotation-rows r in
    (IsShiftWithin-opposite (row_at (rotation_rows r) 0) h.0, IsShiftWithin-opposite (row_at (rotation_rows r) 1) h.1, IsShiftWithin-opposite (row_at (rotation_rows r) 2) h.2)
IsSmallRotation-signed false r = IsSmallRotation-rows r

-- what holds of every operation of a generator holds of each operation of a symbol
op_at-IsHallSymbol : (P : Op → Type 0) (text : List ℕ) (l : Lattice) (ops : List Op) (h : IsHallSymbol text l ops) → ((g : Generator) → P (op_at_origin h.shift g))
    → (i : ℕ) → i < length ops → P (slice_index_or ops i identity_op)
op_at-IsHallSymbol P text l ops h each i below =
    let gs : List Generator = inversion_of h.inverted ++ h.generators in
    let all : All P (map (op_at_origin h.shift) gs) = All-map P (op_at_origin h.shift) gs (λ k d small. each (get_or gs k d)) in
    subst (All P) (sym h.ops_are) all i identity_op below

length-inversion_of : (b : Bool) → length (inversion_of b) ≤ 1
length-inversion_of true = omega arith
length-inversion_of false = omega arith

-- at most five operations
length-IsHallSymbol : (text : List ℕ) (l : Lattice) (ops : List Op) → IsHallSymbol text l ops → length ops ≤ 5
length-IsHallSymbol text l ops h =
    let all : length ops ≡ length (inversion_of h.inverted ++ h.generators) = ap length h.ops_are ∙ length-map (inversion_of h.inverted ++ h.generators) (op_at_origin h.shift) in
    let joined : length (inversion_of h.inverted ++ h.generators) ≡ length (inversion_of h.inverted) + length h.generators = length-append (inversion_of h.inverted) h.generators in
    let parts : length h.generators ≡ length (map part_of h.parts) = length-generators_of [] (map part_of h.parts) h.generators h.generated in
    omega (arith, length-inversion_of h.inverted, length-map h.parts part_of, h.few)

-- the operations of a symbol are generators of a group
pub AreGenerators-IsHallSymbol : (text : List ℕ) (l : Lattice) (ops : List Op) → IsHallSymbol text l ops → AreGenerators ops
AreGenerators-IsHallSymbol text l ops h = record {
  few = length-IsHallSymbol text l ops h;
  small = op_at-IsHallSymbol (λ op. IsSmallMatrix (matrix_of op.rot)) text l ops h (λ g. IsSmallRotation-signed g.negated g.rotation);
  unimodular = op_at-IsHallSymbol (λ op. IsUnimodular (matrix_of op.rot)) text l ops h (λ g. IsUnimodular-signed g.negated g.rotation);
  in_cell = op_at-IsHallSymbol (λ op. IsInCell (vector_of op.shift)) text l ops h (λ g. (twelfth-rem _, twelfth-rem _, twelfth-rem _));
}
