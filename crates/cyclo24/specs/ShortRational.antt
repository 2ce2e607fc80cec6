-- Short rational values.
--
-- exact_rational x: the exact value of x
use Rattle.cyclo24.specs.declared.short_rational.ShortRational.{ShortRational}
use Rattle.cyclo24.specs.Written4.{numbers4}
use Rattle.cyclo24.specs.Packed4.{widened}
use Rattle.cyclo24.specs.Ratio.{packed_ratio4}
use Rattle.cyclo24.specs.ExactK24.{Exact24}

-- its numerator, three zeros, and its denominator
abbrev pub exact_rational : ShortRational → Exact24
exact_rational x = (numbers4 (widened (packed_ratio4 x.ratio)), x.lowest)
