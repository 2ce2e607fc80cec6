-- What the test for short numbers says.
--
-- short_below, below_short: by the absolute value; between_short: by two comparisons
-- packed_fits, packed_is: a short number in 32 bits; byte_below, byte_packed: a number of 8 bits is short
-- long_is: lists in which a number isn't short
use Rattle.std.proofs.Common.{◌≡◌, ◌^◌, ◌<◌, ◌≤◌, Bool, true, false, not, arith, ℤ, pos, negsuc, List, refl, le_trans, lit≤, ap, ◌∙◌, subst, sym, to_z, of_z}
use Rattle.std.specs.Prelude.{FitsSigned, ◌&&◌, int_lt}
use Rattle.std.proofs.lemmas.Int.{ints, fits_signed_from_abs, to_z-of_z}
use Rattle.std.proofs.lemmas.Bool.Decides.{nat_tests}
use Rattle.std.specs.Int.{w8, w32, w64}
use Rattle.std.specs.Int.RustNames.{unsigned_abs}
use Rattle.std.specs.List.{list_all}
use Rattle.cyclo24.specs.declared.packed.Packed.{Packed}
use Rattle.cyclo24.specs.Long.{is_short, is_long}

pub short_below : (z : ℤ) → is_short z ≡ true → unsigned_abs z < 2 ^ 28
unfolding is_short
short_below z h = grind (arith, nat_tests)

pub below_short : (z : ℤ) → unsigned_abs z < 2 ^ 28 → is_short z ≡ true
unfolding is_short
below_short z h = grind (arith, nat_tests)

-- by two comparisons
pub between_short : (z : ℤ) → (int_lt (negsuc 268435455) z && int_lt z (pos 268435456)) ≡ is_short z
unfolding is_short
between_short z = grind (arith, ints, nat_tests)

-- in 32 bits

-- what a number of 64 bits is read as
abbrev in64 : ℤ → ℤ
in64 z = to_z w64 (of_z w64 z)

kept64 : (z : ℤ) → is_short z ≡ true → in64 z ≡ z
kept64 z h = to_z-of_z w64 z (fits_signed_from_abs w64 z (le_trans (short_below z h) (lit≤ tt)))

fits32 : (z : ℤ) → unsigned_abs z < 2 ^ 28 → FitsSigned w32 z
fits32 z h = fits_signed_from_abs w32 z (le_trans h (lit≤ tt))

pub packed_fits : (z : ℤ) → is_short z ≡ true → FitsSigned w32 (in64 z)
packed_fits z h = subst (λ (y : ℤ). FitsSigned w32 y) (sym (kept64 z h)) (fits32 z (short_below z h))

pub packed_is : (z : ℤ) → is_short z ≡ true → to_z w32 (of_z w32 (in64 z)) ≡ z
packed_is z h = ap (λ (y : ℤ). to_z w32 (of_z w32 y)) (kept64 z h) ∙ to_z-of_z w32 z (fits32 z (short_below z h))

below8 : (z : ℤ) → FitsSigned w8 z → unsigned_abs z < 2 ^ 28
below8 (pos n) h = le_trans h.sfits (lit≤ tt)
below8 (negsuc n) h = omega (arith, h.sfits)

pub byte_below : (z : ℤ) → FitsSigned w8 z → unsigned_abs (to_z w32 (of_z w32 (to_z w8 (of_z w8 z)))) < 2 ^ 28
byte_below z h =
    let e : to_z w32 (of_z w32 (to_z w8 (of_z w8 z))) ≡ z = ap (λ (y : ℤ). to_z w32 (of_z w32 y)) (to_z-of_z w8 z h) ∙ to_z-of_z w32 z (fits32 z (below8 z h)) in
    subst (λ (y : ℤ). unsigned_abs y < 2 ^ 28) (sym e) (below8 z h)

pub byte_packed : (p : Packed) (z : ℤ) → FitsSigned w8 z → p ≡ record { n = to_z w8 (of_z w8 z) } → p ≡ record { n = z }
byte_packed p z h e = e ∙ (λ i. record { n = to_z-of_z w8 z h i })

-- lists

pub long_is : (xs : List ℤ) → is_long xs ≡ not (list_all is_short xs)
unfolding is_long
long_is xs = refl
