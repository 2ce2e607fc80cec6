-- The axes of the sixteen rotations, and their powers.
--
-- power n a: the n-th power of a matrix
-- direction_of rotation: the direction of its axis, as a vector of the lattice; the identity has none
use Rattle.std.specs.Prelude.{ℕ, zero, suc, ℤ, pos, negsuc, Option, Some, None}
use Rattle.space_ops.specs.Matrix.{Matrix, Vector, matrix_times, unit_matrix}
use Rattle.algebra.specs.Whole.{whole}
use Rattle.hall_symbol.specs.declared.rotation.Rotation.{Rotation}
use Rattle.hall_symbol.specs.declared.rotation.Rotation.TheVariants.{One, TwoZ, ThreeZ, FourZ, SixZ, TwoX, TwoY, FourX, FourY, TwoPrimeAfterZ, TwoDoublePrimeAfterZ, TwoPrimeAfterX, TwoDoublePrimeAfterX, TwoPrimeAfterY, TwoDoublePrimeAfterY, ThreeStar}

-- so many factors
abbrev pub power : ℕ → Matrix ℤ → Matrix ℤ
power zero a = unit_matrix whole
power (suc n) a = matrix_times whole a (power n a)

-- the direction of the axis; the identity has none
abbrev pub direction_of : Rotation → Option (Vector ℤ)
direction_of One = None
direction_of TwoZ = Some (record { x = pos 0; y = pos 0; z = pos 1 })
direction_of ThreeZ = Some (record { x = pos 0; y = pos 0; z = pos 1 })
direction_of FourZ = Some (record { x = pos 0; y = pos 0; z = pos 1 })
direction_of SixZ = Some (record { x = pos 0; y = pos 0; z = pos 1 })
direction_of TwoX = Some (record { x = pos 1; y = pos 0; z = pos 0 })
direction_of TwoY = Some (record { x = pos 0; y = pos 1; z = pos 0 })
direction_of FourX = Some (record { x = pos 1; y = pos 0; z = pos 0 })
direction_of FourY = Some (record { x = pos 0; y = pos 1; z = pos 0 })
direction_of TwoPrimeAfterZ = Some (record { x = pos 1; y = negsuc 0; z = pos 0 })
direction_of TwoDoublePrimeAfterZ = Some (record { x = pos 1; y = pos 1; z = pos 0 })
direction_of TwoPrimeAfterX = Some (record { x = pos 0; y = pos 1; z = negsuc 0 })
direction_of TwoDoublePrimeAfterX = Some (record { x = pos 0; y = pos 1; z = pos 1 })
direction_of TwoPrimeAfterY = Some (record { x = pos 1; y = pos 0; z = negsuc 0 })
direction_of TwoDoublePrimeAfterY = Some (record { x = pos 1; y = pos 0; z = pos 1 })
direction_of ThreeStar = Some (record { x = pos 1; y = pos 1; z = pos 1 })
