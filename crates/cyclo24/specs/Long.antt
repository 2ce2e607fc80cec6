-- Short numbers, and lists in which a number isn't short.
--
-- is_short z: an absolute value below 2^28
-- is_long xs: a number of xs isn't short
use Rattle.std.specs.Prelude.{◌^◌, Bool, not, nat_lt, ℤ, List}
use Rattle.std.specs.Int.RustNames.{unsigned_abs}
use Rattle.std.specs.List.{list_all}

-- an absolute value below 2^28
unfoldable pub is_short : ℤ → Bool
is_short z = nat_lt (unsigned_abs z) (2 ^ 28)

-- a number of xs isn't short
unfoldable pub is_long : List ℤ → Bool
is_long xs = not (list_all is_short xs)
