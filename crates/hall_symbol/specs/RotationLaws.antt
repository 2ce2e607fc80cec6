-- Laws of the table of the sixteen rotations.
--
-- determinant_one, power_one: determinant 1, and R^N = 1 for a rotation of order N
-- direction_kept: a rotation keeps the direction of its axis
-- IsUnimodular-signed: R and -R have the determinant 1 or -1
use Rattle.std.specs.Prelude.{◌≡◌, pos, Bool, true, false, IfSome, refl}
use Rattle.space_ops.specs.Matrix.{determinant, image_under, unit_matrix}
use Rattle.space_ops.specs.Op.{IsUnimodular, matrix_of}
use Rattle.algebra.specs.Whole.{whole}
use Rattle.hall_symbol.specs.declared.rotation.Rotation.{Rotation}
use Rattle.hall_symbol.specs.declared.rotation.Rotation.TheVariants.{One, TwoZ, ThreeZ, FourZ, SixZ, TwoX, TwoY, FourX, FourY, TwoPrimeAfterZ, TwoDoublePrimeAfterZ, TwoPrimeAfterX, TwoDoublePrimeAfterX, TwoPrimeAfterY, TwoDoublePrimeAfterY, ThreeStar}
use Rattle.hall_symbol.specs.Operations.{signed}
use Rattle.hall_symbol.specs.Rotations.{rotation_rows, order_of, value_of}
use Rattle.hall_symbol.specs.Axes.{power, direction_of}

pub determinant_one : (r : Rotation) → determinant whole (matrix_of (rotation_rows r)) ≡ pos 1
determinant_one One = refl
determinant_one TwoZ = refl
determinant_one ThreeZ = refl
determinant_one FourZ = refl
determinant_one SixZ = refl
determinant_one TwoX = refl
determinant_one TwoY = refl
determinant_one FourX = refl
determinant_one FourY = refl
determinant_one TwoPrimeAfterZ = refl
determinant_one TwoDoublePrimeAfterZ = refl
determinant_one TwoPrimeAfterX = refl
determinant_one TwoDoublePrimeAfterX = refl
determinant_one TwoPrimeAfterY = refl
determinant_one TwoDoublePrimeAfterY = refl
determinant_one ThreeStar = refl

pub power_one : (r : Rotation) → power (value_of (order_of r)) (matrix_of (rotation_rows r)) ≡ unit_matrix whole
power_one One = refl
power_one TwoZ = refl
power_one ThreeZ = refl
power_one FourZ = refl
power_one SixZ = refl
power_one TwoX = refl
power_one TwoY = refl
power_one FourX = refl
power_one FourY = refl
power_one TwoPrimeAfterZ = refl
power_one TwoDoublePrimeAfterZ = refl
power_one TwoPrimeAfterX = refl
power_one TwoDoublePrimeAfterX = refl
power_one TwoPrimeAfterY = refl
power_one TwoDoublePrimeAfterY = refl
power_one ThreeStar = refl

pub direction_kept : (r : Rotation) → IfSome (direction_of r) (λ d. image_under whole (matrix_of (rotation_rows r)) d ≡ d)
direction_kept One = tt
direction_kept TwoZ = refl
direction_kept ThreeZ = refl
direction_kept FourZ = refl
direction_kept SixZ = refl
direction_kept TwoX = refl
direction_kept TwoY = refl
direction_kept FourX = refl
direction_kept FourY = refl
direction_kept TwoPrimeAfterZ = refl
direction_kept TwoDoublePrimeAfterZ = refl
direction_kept TwoPrimeAfterX = refl
direction_kept TwoDoublePrimeAfterX = refl
direction_kept TwoPrimeAfterY = refl
direction_kept TwoDoublePrimeAfterY = refl
direction_kept ThreeStar = refl

pub IsUnimodular-signed : (b : Bool) (r : Rotation) → IsUnimodular (matrix_of (signed b (rotation_rows r)))
IsUnimodular-signed true One = refl
IsUnimodular-signed true TwoZ = refl
IsUnimodular-signed true ThreeZ = refl
IsUnimodular-signed true FourZ = refl
IsUnimodular-signed true SixZ = refl
IsUnimodular-signed true TwoX = refl
IsUnimodular-signed true TwoY = refl
IsUnimodular-signed true FourX = refl
IsUnimodular-signed true FourY = refl
IsUnimodular-signed true TwoPrimeAfterZ = refl
IsUnimodular-signed true TwoDoublePrimeAfterZ = refl
IsUnimodular-signed true TwoPrimeAfterX = refl
IsUnimodular-signed true TwoDoublePrimeAfterX = refl
IsUnimodular-signed true TwoPrimeAfterY = refl
IsUnimodular-signed true TwoDoublePrimeAfterY = refl
IsUnimodular-signed true ThreeStar = refl
IsUnimodular-signed false One = refl
IsUnimodular-signed false TwoZ = refl
IsUnimodular-signed false ThreeZ = refl
IsUnimodular-signed false FourZ = refl
IsUnimodular-signed false SixZ = refl
IsUnimodular-signed false TwoX = refl
IsUnimodular-signed false TwoY = refl
IsUnimodular-signed false FourX = refl
IsUnimodular-signed false FourY = refl
IsUnimodular-signed false TwoPrimeAfterZ = refl
IsUnimodular-signed false TwoDoublePrimeAfterZ = refl
IsUnimodular-signed false TwoPrimeAfterX = refl
IsUnimodular-signed false TwoDoublePrimeAfterX = refl
IsUnimodular-signed false TwoPrimeAfterY = refl
IsUnimodular-signed false TwoDoublePrimeAfterY = refl
IsUnimodular-signed false ThreeStar = refl
