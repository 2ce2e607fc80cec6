-- Short rational values compare as their exact values.
--
-- exact_rational_cmp: the derived order is that of the exact values
use Rattle.std.specs.Prelude.{◌≡◌, ℤ}
use Rattle.std.proofs.Common.{sym, ap}
use Rattle.std.specs.declared.cmp.Ordering.{Ordering}
use Rattle.std.specs.Ordering.{ordering_then, int_cmp}
use Rattle.cyclo24.specs.declared.short_rational.ShortRational.{ShortRational}
use Rattle.cyclo24.specs.ShortRational.{exact_rational}
use Rattle.cyclo24.specs.K24OrderLaws.{then-Equal}
use Rattle.cyclo24.specs.Listed.{exact_cmp}

-- by denominator, then by numerator
pub exact_rational_cmp : (x y : ShortRational) → ordering_then (int_cmp x.ratio.d.n y.ratio.d.n) (int_cmp x.ratio.n.n y.ratio.n.n) ≡ exact_cmp 4 (exact_rational x) (exact_rational y)
exact_rational_cmp x y =
    let c : ℤ → ℤ → Ordering = int_cmp in
    ap (λ o. ordering_then (c x.ratio.d.n y.ratio.d.n) o) (sym (then-Equal (c x.ratio.n.n y.ratio.n.n)))
