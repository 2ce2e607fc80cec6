-- Values of the field Q(sqrt 2, sqrt 3) compare as their exact values.
--
-- exact24_cmp: the derived order is that of the exact values
-- then-Equal: then equal changes nothing
-- same24: values with one exact value are equal
use Rattle.std.specs.Prelude.{◌≡◌, ℤ, refl}
use Rattle.std.proofs.Common.{sym, ap}
use Rattle.std.specs.declared.cmp.Ordering.{Ordering}
use Rattle.std.specs.declared.cmp.Ordering.TheVariants.{Less, Equal, Greater}
use Rattle.std.specs.Ordering.{ordering_then, int_cmp}
use Rattle.cyclo24.specs.declared.k24.K24.{K24}
use Rattle.std.proofs.Math.Bool.{Bool-set}
use Rattle.std.specs.Prelude.{true}
use mathlib.Core.HLevel.{is_prop→PathP}
use Rattle.cyclo24.specs.declared.fraction4.Fraction4.{Fraction4}
use Rattle.cyclo24.specs.K24.{exact24}
use Rattle.cyclo24.specs.ExactK24.{Exact24}
use Rattle.cyclo24.specs.Written4.{fraction_of, numbers4, IsNarrow4}
use Rattle.cyclo24.specs.Listed.{exact_cmp, is_exact}

pub then-Equal : (a : Ordering) → ordering_then a Equal ≡ a
then-Equal Less = refl
then-Equal Equal = refl
then-Equal Greater = refl

-- by denominator, then by numerators
pub exact24_cmp : (x y : K24) → ordering_then (int_cmp x.fraction.d.n y.fraction.d.n) (ordering_then (int_cmp x.fraction.a0.n y.fraction.a0.n) (ordering_then (int_cmp x.fraction.a1.n y.fraction.a1.n) (ordering_then (int_cmp x.fraction.a2.n y.fraction.a2.n) (int_cmp x.fraction.a3.n y.fraction.a3.n)))) ≡ exact_cmp 4 (exact24 x) (exact24 y)
exact24_cmp x y =
    let c : ℤ → ℤ → Ordering = int_cmp in
    let f = x.fraction in let g = y.fraction in
    ap (λ o. ordering_then (c f.d.n g.d.n) (ordering_then (c f.a0.n g.a0.n) (ordering_then (c f.a1.n g.a1.n) (ordering_then (c f.a2.n g.a2.n) o)))) (sym (then-Equal (c f.a3.n g.a3.n)))

narrow_is_prop : (r : Fraction4) → IsProp (IsNarrow4 r)
narrow_is_prop r = hlevel Bool-set

-- values with one exact value are equal
pub same24 : (x y : K24) → exact24 x ≡ exact24 y → x ≡ y
same24 x y e =
    let f : x.fraction ≡ y.fraction = ap (λ (v : Exact24). fraction_of v.0) e in
    λ i. record {
      fraction = f i;
      narrow = is_prop→PathP (λ i. IsNarrow4 (f i)) (λ i. narrow_is_prop (f i)) x.narrow y.narrow i;
      lowest = is_prop→PathP (λ i. is_exact 4 (numbers4 (f i)) ≡ true) (λ i. Bool-set (is_exact 4 (numbers4 (f i))) true) x.lowest y.lowest i;
    }
