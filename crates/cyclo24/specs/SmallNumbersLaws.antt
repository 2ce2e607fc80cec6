-- Whole numbers of 8 bits as values of both fields.
--
-- byte_narrow, byte_passed: as the program passes them
-- whole_list8: the whole number z is z, seven zeros, 1; whole_low8, whole_value8, whole_narrow8: as a fraction
use Rattle.std.proofs.Common.{◌≡◌, suc, sym, ap, ◌∙◌, arith, lit≤, le_trans, ℤ, pos, negsuc, [], ◌∷◌, false, to_z, of_z}
use Rattle.std.specs.Prelude.{FitsSigned}
use Rattle.std.specs.Int.{w8, w128}
use Rattle.std.proofs.lemmas.Int.{to_z-of_z}
use Rattle.cyclo24.specs.declared.whole.Whole.{Whole}
use Rattle.cyclo24.specs.declared.fraction8.Fraction8.{Fraction8}
use Rattle.cyclo24.specs.EightNorm.{whole8, eight}
use Rattle.cyclo24.specs.EightNormLaws.{eight_is}
use Rattle.cyclo24.specs.ExactNumerals.{ones-is, neg_ones-is}
use Rattle.cyclo24.specs.Numerals.{of_whole}
use Rattle.cyclo24.specs.Checked.{is_wide}
use Rattle.cyclo24.specs.CheckedLaws.{below_wide, fits_from_narrow}
use Rattle.cyclo24.specs.Written8.{numbers8, IsNarrow8, num}
use Rattle.cyclo24.specs.ExactZ24.{z24_laws}
use Rattle.cyclo24.specs.Z24Calls.{IsLow8, exact_of8}
use Rattle.cyclo24.specs.Z24CallsLaws.{made_low8, made_value8}

narrow8 : (z : ℤ) → FitsSigned w8 z → is_wide z ≡ false
narrow8 (pos n) h = below_wide (pos n) (le_trans h.sfits (lit≤ tt))
narrow8 (negsuc n) h = below_wide (negsuc n) (omega (arith, h.sfits))

pub byte_narrow : (z : ℤ) → FitsSigned w8 z → is_wide (to_z w128 (of_z w128 (to_z w8 (of_z w8 z)))) ≡ false
byte_narrow z h = ap (λ (y : ℤ). is_wide (to_z w128 (of_z w128 y))) (to_z-of_z w8 z h) ∙ ap is_wide (to_z-of_z w128 z (fits_from_narrow z (narrow8 z h))) ∙ narrow8 z h

pub byte_passed : (w : Whole) (z : ℤ) → FitsSigned w8 z → w ≡ record { n = to_z w8 (of_z w8 z) } → w ≡ record { n = z }
byte_passed w z h e = e ∙ (λ i. record { n = to_z-of_z w8 z h i })

abbrev pub whole_fraction8 : Whole → Fraction8
whole_fraction8 w = record { d = num (pos 1); c0 = w; c1 = num (pos 0); c2 = num (pos 0); c3 = num (pos 0); c4 = num (pos 0); c5 = num (pos 0); c6 = num (pos 0); c7 = num (pos 0) }

pub whole_list8 : (z : ℤ) → z ∷ pos 0 ∷ pos 0 ∷ pos 0 ∷ pos 0 ∷ pos 0 ∷ pos 0 ∷ pos 0 ∷ pos 1 ∷ [] ≡ (of_whole z24_laws z).0
whole_list8 (pos n) = sym (ones-is whole8 eight eight_is n)
whole_list8 (negsuc n) = sym (neg_ones-is whole8 eight eight_is (suc n))

pub whole_narrow8 : (w : Whole) → is_wide w.n ≡ false → IsNarrow8 (whole_fraction8 w)
whole_narrow8 w h =
    let zero : is_wide (pos 0) ≡ false = below_wide (pos 0) (lit≤ tt) in
    record { narrow0 = h; narrow1 = zero; narrow2 = zero; narrow3 = zero; narrow4 = zero; narrow5 = zero; narrow6 = zero; narrow7 = zero; narrow = below_wide (pos 1) (lit≤ tt) }

pub whole_low8 : (w : Whole) (z : ℤ) → w ≡ record { n = z } → IsLow8 (whole_fraction8 w)
whole_low8 w z e = made_low8 (whole_fraction8 w) (of_whole z24_laws z) (ap (λ (v : Whole). numbers8 (whole_fraction8 v)) e ∙ whole_list8 z)

pub whole_value8 : (w : Whole) (z : ℤ) → w ≡ record { n = z } → (h : IsLow8 (whole_fraction8 w)) → exact_of8 (whole_fraction8 w) h ≡ of_whole z24_laws z
whole_value8 w z e h = made_value8 (whole_fraction8 w) (of_whole z24_laws z) (ap (λ (v : Whole). numbers8 (whole_fraction8 v)) e ∙ whole_list8 z) h
