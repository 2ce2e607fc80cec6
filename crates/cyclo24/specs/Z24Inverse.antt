-- The inverse in the 24th cyclotomic field step by step: y is the conjugate of x, n = x y, a the real part of n, b = 1 / a, f = b written in Z24.
--
-- wide_steps: where the inverse is wide, by the steps; wide_square, wide_over, wide_factor, wide_last: by one step
-- square_step: a isn't 0; value_step: y f is the inverse
use Rattle.std.proofs.Common.{◌≡◌, Bool}
use Rattle.std.specs.Prelude.{◌||◌}
use Rattle.cyclo24.specs.ExactK24.{Exact24, k24_laws, is_wide_inverse24}
use Rattle.cyclo24.specs.ExactZ24.{ExactZ24, z24_laws, conj, real_part, from_real, is_wide_conj, is_wide_product_z24, is_wide_real_part, is_wide_from_real}

-- the steps of the inverse of x
pub record IsSteps (x y n : ExactZ24) (a b : Exact24) (f : ExactZ24) : Type 0 where
  pub conjugate : y ≡ conj x
  pub norm : n ≡ z24_laws.times x y
  pub square : a ≡ real_part n
  pub inverse : b ≡ k24_laws.inverse a
  pub factor : f ≡ from_real b

abbrev pub steps_wide : ExactZ24 → ExactZ24 → ExactZ24 → Exact24 → Exact24 → ExactZ24 → Bool
steps_wide x y n a b f = is_wide_conj x || (is_wide_product_z24 x y || (is_wide_real_part n || (is_wide_inverse24 a || (is_wide_from_real b || is_wide_product_z24 y f))))
