-- Short values of the field Q(sqrt 2, sqrt 3).
--
-- exact_short x: the exact value of x
use Rattle.cyclo24.specs.declared.short_k24.ShortK24.{ShortK24}
use Rattle.cyclo24.specs.Written4.{numbers4}
use Rattle.cyclo24.specs.Packed4.{widened}
use Rattle.cyclo24.specs.ExactK24.{Exact24}

-- its numerators and its denominator
abbrev pub exact_short : ShortK24 → Exact24
exact_short x = (numbers4 (widened x.fraction), x.lowest)
