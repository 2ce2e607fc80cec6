-- Numbered points that a group permutes.
--
-- IsPermutationAction g n image: image a i is the point to which element a takes point i, of n points;
--   the image under a product is the image under its second factor, then its first
use Rattle.std.specs.Prelude.{◌≡◌, ℕ, ◌<◌}
use Rattle.algebra.specs.NumberedGroup.{Group}

pub record IsPermutationAction (g : Group) (n : ℕ) (image : ℕ → ℕ → ℕ) : Type 0 where
  pub below : (a i : ℕ) → a < g.order → i < n → image a i < n
  pub identity : (i : ℕ) → i < n → image 0 i ≡ i
  pub product : (a b i : ℕ) → a < g.order → b < g.order → i < n → image (g.product a b) i ≡ image a (image b i)
  -- an element and its inverse undo each other
  pub back : (a i : ℕ) → a < g.order → i < n → image (g.inverse a) (image a i) ≡ i
  pub forth : (a i : ℕ) → a < g.order → i < n → image a (image (g.inverse a) i) ≡ i
