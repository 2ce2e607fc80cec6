use Rattle.std.proofs.Common.{◌≡◌, ℕ}
use Rattle.std.specs.Prelude.{Err, Result}
use Rattle.extra_modes.specs.declared.errors.ExtraError.TheVariants as extra_error

-- a family is told by its error
pub same-family : {T : Type 0} (n f : ℕ) → ◌≡◌ {A = Result T extra_error.the_data} (Err (extra_error.Wide n)) (Err (extra_error.Wide f)) → f ≡ n
same-family {T} n f e = cc
