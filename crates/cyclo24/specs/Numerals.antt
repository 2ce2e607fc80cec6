-- Whole numbers in a field.
--
-- of_whole f z: the whole number z in the field f
-- ring_of f: the ring of the field, for `solve`
use Rattle.std.specs.Prelude.{suc, ℤ, pos, negsuc}
use Rattle.algebra.specs.Ring.{Ops}
use Rattle.cyclo24.specs.FieldOn.{FieldOn, ones}

-- z ones
abbrev pub of_whole : {K : Type 0} → FieldOn K → ℤ → K
of_whole f (pos n) = ones f n
of_whole f (negsuc n) = f.neg (ones f (suc n))

-- the ring of a field, for `solve`
abbrev pub ring_of : {K : Type 0} → FieldOn K → Ops K
ring_of f = record { num = ones f; neg = f.neg; add = f.plus; mul = f.times }
