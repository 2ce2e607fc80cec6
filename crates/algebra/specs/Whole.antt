-- The ring of the whole numbers.
--
-- whole: its numerals and operations
use Rattle.std.specs.Prelude.{ℤ, pos, ◌+ℤ◌, ◌*ℤ◌, neg_ℤ}
use Rattle.algebra.specs.Ring.{Ops}

abbrev pub whole : Ops ℤ
whole = record { num = pos; neg = neg_ℤ; add = ◌+ℤ◌; mul = ◌*ℤ◌ }
