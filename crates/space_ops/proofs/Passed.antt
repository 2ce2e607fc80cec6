-- Signed numbers that were passed by value, read back.
use Rattle.std.proofs.Common.{◌≡◌, ◌∙◌, ℤ, FitsSigned, w8, w32, to_z, of_z}
use Rattle.std.proofs.lemmas.Int.{to_z-of_z}
use Rattle.algebra.specs.Whole.{whole}
use Rattle.space_ops.specs.Matrix.{row_times}

abbrev pub passed : ℤ → ℤ
passed x = to_z w8 (of_z w8 x)

abbrev pub passed_long : ℤ → ℤ
passed_long x = to_z w32 (of_z w32 x)

pub passed_row_times : (r a b c x y z : ℤ) → FitsSigned w8 r → FitsSigned w8 x → FitsSigned w8 y → FitsSigned w8 z
    → r ≡ row_times whole a b c (passed x) (passed y) (passed z) → passed r ≡ row_times whole a b c x y z
passed_row_times r a b c x y z k f g h e =
    to_z-of_z w8 r k ∙ e ∙ (λ i. row_times whole a b c (to_z-of_z w8 x f i) (to_z-of_z w8 y g i) (to_z-of_z w8 z h i))
