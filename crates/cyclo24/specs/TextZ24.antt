-- How a number of the 24th cyclotomic field is written.
--
-- text_z24 x: the text of an exact value
use Rattle.std.specs.Prelude.{ℕ, List, [], ◌∷◌, codes}
use Rattle.cyclo24.specs.Listed.{numerators}
use Rattle.cyclo24.specs.ExactLaws.{low}
use Rattle.cyclo24.specs.ExactZ24.{ExactZ24}
use Rattle.cyclo24.specs.NumberText.{number_text}

-- 1 and the powers of z
abbrev pub units_z24 : List (List ℕ)
units_z24 = [] ∷ codes "z1" ∷ codes "z2" ∷ codes "z3" ∷ codes "z4" ∷ codes "z5" ∷ codes "z6" ∷ codes "z7" ∷ []

-- for each coefficient that isn't 0 its fraction in lowest terms with its unit
abbrev pub text_z24 : ExactZ24 → List ℕ
text_z24 x = number_text (low 8 x.0) (numerators 8 x.0) units_z24
