-- Short products: those of numbers that 64 bits are enough for.
--
-- IsShortProduct p: both numbers are at most 2^28, and the factor at most 8 in absolute value
-- AreShort ps: each of the list is short
use Rattle.std.specs.Prelude.{◌≤◌, ◌^◌, List, [], ◌∷◌}
use Rattle.std.specs.Int.RustNames.{unsigned_abs}
use Rattle.cyclo24.specs.declared.whole.Product.{Product}

-- two short numbers with a small factor
pub record IsShortProduct (p : Product) : Type 0 where
  pub factor : unsigned_abs p.factor.n ≤ 8
  pub x : unsigned_abs p.x.n ≤ 2 ^ 28
  pub y : unsigned_abs p.y.n ≤ 2 ^ 28

-- each of the list is short
pub data AreShort : List Product → Type 0 where
  none : AreShort []
  more : (p : Product) (ps : List Product) → IsShortProduct p → AreShort ps → AreShort (p ∷ ps)
