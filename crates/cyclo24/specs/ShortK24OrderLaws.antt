-- Short values compare as their exact values.
--
-- exact_short_cmp: the derived order is that of the exact values
use Rattle.std.specs.Prelude.{◌≡◌, ℤ}
use Rattle.std.proofs.Common.{sym, ap}
use Rattle.std.specs.declared.cmp.Ordering.{Ordering}
use Rattle.std.specs.Ordering.{ordering_then, int_cmp}
use Rattle.cyclo24.specs.declared.short_k24.ShortK24.{ShortK24}
use Rattle.cyclo24.specs.ShortK24.{exact_short}
use Rattle.cyclo24.specs.K24OrderLaws.{then-Equal}
use Rattle.cyclo24.specs.Listed.{exact_cmp}

-- by denominator, then by numerators
pub exact_short_cmp : (x y : ShortK24) → ordering_then (int_cmp x.fraction.d.n y.fraction.d.n) (ordering_then (int_cmp x.fraction.a0.n y.fraction.a0.n) (ordering_then (int_cmp x.fraction.a1.n y.fraction.a1.n) (ordering_then (int_cmp x.fraction.a2.n y.fraction.a2.n) (int_cmp x.fraction.a3.n y.fraction.a3.n)))) ≡ exact_cmp 4 (exact_short x) (exact_short y)
exact_short_cmp x y =
    let c : ℤ → ℤ → Ordering = int_cmp in
    let f = x.fraction in let g = y.fraction in
    ap (λ o. ordering_then (c f.d.n g.d.n) (ordering_then (c f.a0.n g.a0.n) (ordering_then (c f.a1.n g.a1.n) (ordering_then (c f.a2.n g.a2.n) o)))) (sym (then-Equal (c f.a3.n g.a3.n)))
