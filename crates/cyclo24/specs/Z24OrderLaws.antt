-- The derived order of values is that of their exact values.
use Rattle.std.specs.Prelude.{◌≡◌, ℤ, refl}
use Rattle.std.proofs.Common.{sym, ap}
use Rattle.std.specs.declared.cmp.Ordering.{Ordering}
use Rattle.std.specs.declared.cmp.Ordering.TheVariants.{Less, Equal, Greater}
use Rattle.std.specs.Ordering.{ordering_then, int_cmp}
use Rattle.cyclo24.specs.declared.z24.Z24.{Z24}
use Rattle.cyclo24.specs.Z24.{exact_z24}
use Rattle.cyclo24.specs.Listed.{exact_cmp}

then-Equal : (a : Ordering) → ordering_then a Equal ≡ a
then-Equal Less = refl
then-Equal Equal = refl
then-Equal Greater = refl

-- by denominator, then by numerators
pub exact_z24_cmp : (x y : Z24) → ordering_then (int_cmp x.fraction.d.n y.fraction.d.n) (ordering_then (int_cmp x.fraction.c0.n y.fraction.c0.n) (ordering_then (int_cmp x.fraction.c1.n y.fraction.c1.n) (ordering_then (int_cmp x.fraction.c2.n y.fraction.c2.n) (ordering_then (int_cmp x.fraction.c3.n y.fraction.c3.n) (ordering_then (int_cmp x.fraction.c4.n y.fraction.c4.n) (ordering_then (int_cmp x.fraction.c5.n y.fraction.c5.n) (ordering_then (int_cmp x.fraction.c6.n y.fraction.c6.n) (int_cmp x.fraction.c7.n y.fraction.c7.n))))))))
    ≡ exact_cmp 8 (exact_z24 x) (exact_z24 y)
exact_z24_cmp x y =
    let c : ℤ → ℤ → Ordering = int_cmp in
    let f = x.fraction in let g = y.fraction in
    ap (λ o. ordering_then (c f.d.n g.d.n) (ordering_then (c f.c0.n g.c0.n) (ordering_then (c f.c1.n g.c1.n) (ordering_then (c f.c2.n g.c2.n) (ordering_then (c f.c3.n g.c3.n) (ordering_then (c f.c4.n g.c4.n) (ordering_then (c f.c5.n g.c5.n) (ordering_then (c f.c6.n g.c6.n) (o))))))))) (sym (then-Equal (c f.c7.n g.c7.n)))
