-- Values of the 24th cyclotomic field.
--
-- exact_z24 x: the exact value of x
use Rattle.cyclo24.specs.declared.z24.Z24.{Z24}
use Rattle.cyclo24.specs.Written8.{numbers8}
use Rattle.cyclo24.specs.ExactZ24.{ExactZ24}

-- its numerators and its denominator
abbrev pub exact_z24 : Z24 → ExactZ24
exact_z24 x = (numbers8 x.fraction, x.lowest)
