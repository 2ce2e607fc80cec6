-- Subgroups of numbered groups.
--
-- IsSubgroup g xs: the numbers of xs are elements of g, the identity among them, and with any of them their products and inverses
use Rattle.std.specs.Prelude.{ℕ, ◌<◌, List, Contains}
use Rattle.algebra.specs.NumberedGroup.{Group}

pub record IsSubgroup (g : Group) (xs : List ℕ) : Type 0 where
  pub below : (a : ℕ) → Contains xs a → a < g.order
  pub identity : Contains xs 0
  pub product : (a b : ℕ) → Contains xs a → Contains xs b → Contains xs (g.product a b)
  pub inverse : (a : ℕ) → Contains xs a → Contains xs (g.inverse a)
