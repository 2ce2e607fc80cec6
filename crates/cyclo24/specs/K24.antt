-- Values of the field Q(sqrt 2, sqrt 3).
--
-- exact24 x: the exact value of x
use Rattle.cyclo24.specs.declared.k24.K24.{K24}
use Rattle.cyclo24.specs.Written4.{numbers4}
use Rattle.cyclo24.specs.ExactK24.{Exact24}

-- its numerators and its denominator
abbrev pub exact24 : K24 → Exact24
exact24 x = (numbers4 x.fraction, x.lowest)
