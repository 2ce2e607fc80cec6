-- Where the numbers that tell whether weights are apart are wide.
--
-- IsWideApart f g w u: the sum over all elements that forms the convolution at some element is wide
use Rattle.std.specs.Prelude.{ℕ, ◌<◌}
use Rattle.algebra.specs.NumberedGroup.{Group}
use Rattle.cyclo24.specs.ExactField.{ExactField, Value}
use Rattle.lin_alg.specs.Matrix.{IsWideDot}

-- the sum at some p, by number of q; a product with a factor 0 isn't formed
abbrev pub IsWideApart : (f : ExactField) → Group → (ℕ → Value f) → (ℕ → Value f) → Type 0
IsWideApart f g w u = (p : ℕ) × (p < g.order) × IsWideDot f g.order w (λ q. u (g.product (g.inverse q) p))
