-- How a number of Q(sqrt 2, sqrt 3) is written.
--
-- text24 x: the text of an exact value
use Rattle.std.specs.Prelude.{ℕ, List, [], ◌∷◌, codes}
use Rattle.cyclo24.specs.Listed.{numerators}
use Rattle.cyclo24.specs.ExactLaws.{low}
use Rattle.cyclo24.specs.ExactK24.{Exact24}
use Rattle.cyclo24.specs.NumberText.{number_text}

-- 1, r2, r3 and r6
abbrev pub units24 : List (List ℕ)
units24 = [] ∷ codes "r2" ∷ codes "r3" ∷ codes "r6" ∷ []

-- for each coefficient that isn't 0 its fraction in lowest terms with its unit
abbrev pub text24 : Exact24 → List ℕ
text24 x = number_text (low 4 x.0) (numerators 4 x.0) units24
