-- Answers on eight numerators over a denominator, in lowest terms.
--
-- IsAnswered8 written xs d s: nothing wide was written, and s is the numerators xs over d in lowest terms
use Rattle.std.specs.Prelude.{◌≡◌, ℕ, ℤ, List, false}
use Rattle.cyclo24.specs.declared.fraction8.Fraction8.{Fraction8}
use Rattle.cyclo24.specs.Gcd.{lowest_terms}
use Rattle.cyclo24.specs.Checked.{any_wide}
use Rattle.cyclo24.specs.Written8.{numbers8, IsNarrow8}

-- nothing wide was written, and s is the numerators xs over d in lowest terms
pub record IsAnswered8 (numbers : List ℤ) (xs : List ℤ) (d : ℕ) (s : Fraction8) : Type 0 where
  pub written : any_wide numbers ≡ false
  pub lowest : numbers8 s ≡ lowest_terms xs d
  pub narrow : IsNarrow8 s
