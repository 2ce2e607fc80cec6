-- The opposite of a small number that was passed by value.
use Rattle.std.proofs.Common.{◌≡◌, ◌∙◌, arith, ℤ, pos, neg_ℤ, ◌+ℤ◌, ◌-ℤ◌, ◌*ℤ◌, [], ◌∷◌, FitsSigned, w8, w32, to_z, of_z}
use Rattle.std.proofs.lemmas.Int.{ints, to_z-of_z}
use Rattle.space_ops.specs.Op.{IsWithin}

-- the opposite of a small number
pub passed_opposite : (x : ℤ) → FitsSigned w8 x → IsWithin 1 x → to_z w8 (of_z w8 (pos 0 -ℤ to_z w8 (of_z w8 x))) ≡ neg_ℤ x
passed_opposite x f h = omega (arith, ints)
