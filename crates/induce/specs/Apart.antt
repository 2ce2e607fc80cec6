-- Weights that are apart: two lists of numbers by element of one group.
--
-- IsEven g w: the same number on q and on q^-1
-- AreApart f g w u: both are so, and their convolution is 0 at every element
-- weights_by v: the weights of an induced representation by element
use Rattle.std.specs.Prelude.{◌≡◌, ℕ, ◌<◌}
use Rattle.algebra.specs.NumberedGroup.{Group}
use Rattle.cyclo24.specs.FieldOn.{FieldOn}
use Rattle.cyclo24.specs.ExactK24.{Exact24, k24_laws}
use Rattle.cyclo24.specs.K24.{exact24}
use Rattle.lin_alg.specs.Matrices.{convolution}
use Rattle.lin_alg.specs.Rows.{vector}
use Rattle.induce.specs.InducedView.{InducedView}

abbrev pub IsEven : {K : Type 0} → Group → (ℕ → K) → Type 0
IsEven g w = (q : ℕ) → q < g.order → w (g.inverse q) ≡ w q

-- at every p, the sum over all q of w q times u (q^-1 p) is 0
pub record AreApart {K : Type 0} (f : FieldOn K) (g : Group) (w u : ℕ → K) : Type 0 where
  pub left : IsEven g w
  pub right : IsEven g u
  pub sums : (p : ℕ) → p < g.order → convolution f g w u p ≡ f.nought

abbrev pub weights_by : InducedView → ℕ → Exact24
weights_by v = vector k24_laws exact24 v.weights
