-- Answers on four numerators over a denominator, in lowest terms.
--
-- IsAnswered4 written xs d s: nothing wide was written, and s is the numerators xs over d in lowest terms
use Rattle.std.specs.Prelude.{◌≡◌, ℕ, ℤ, List, false}
use Rattle.cyclo24.specs.declared.fraction4.Fraction4.{Fraction4}
use Rattle.cyclo24.specs.Gcd.{lowest_terms}
use Rattle.cyclo24.specs.Checked.{any_wide}
use Rattle.cyclo24.specs.Written4.{numbers4, IsNarrow4}

-- nothing wide was written, and s is the numerators xs over d in lowest terms
pub record IsAnswered4 (numbers : List ℤ) (xs : List ℤ) (d : ℕ) (s : Fraction4) : Type 0 where
  pub written : any_wide numbers ≡ false
  pub lowest : numbers4 s ≡ lowest_terms xs d
  pub narrow : IsNarrow4 s
