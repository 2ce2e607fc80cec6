-- Whole numbers and fractions as values of Q(sqrt 2, sqrt 3).
--
-- whole_list: the whole number z is z, 0, 0, 0, 1
-- parts_of x d p: the exact value of four numerators over d; ratio24: n / d times d is n
use Rattle.std.proofs.Common.{◌≡◌, ℤ, pos, List, [], ◌∷◌}
use Rattle.std.specs.Prelude.{FitsSigned}
use Rattle.std.proofs.Common.{to_z, of_z}
use Rattle.std.specs.Int.{w64}
use Rattle.cyclo24.specs.declared.whole.Whole.{Whole}
use Rattle.cyclo24.specs.declared.fraction4.Fraction4.{Fraction4}

-- z over 1
abbrev pub whole_numbers : ℤ → List ℤ
whole_numbers z = z ∷ pos 0 ∷ pos 0 ∷ pos 0 ∷ pos 1 ∷ []

abbrev pub whole_fraction : Whole → Fraction4
whole_fraction w = record { d = record { n = pos 1 }; a0 = w; a1 = record { n = pos 0 }; a2 = record { n = pos 0 }; a3 = record { n = pos 0 } }

abbrev pub Passed : Whole → ℤ → Type 0
Passed w z = FitsSigned w64 z × (w ≡ record { n = to_z w64 (of_z w64 z) })
