-- Where the numbers of a link are wide.
--
-- IsWideAverage f p i j: a product of two entries, or a partial sum by number of q, of average (i, j)
-- IsWideAverages f p: of some average up to the link, or of any where there is none
-- IsWideRank f p: inserting the link's rows in order
-- IsWideLink f p: one of these
use Rattle.std.specs.Prelude.{ℕ, ◌<◌, ◌⊎◌}
use Rattle.cyclo24.specs.ExactField.{ExactField, Value}
use Rattle.lin_alg.specs.Matrix.{IsWideDot}
use Rattle.lin_alg.specs.Solving.{IsWideIndependent}
use Rattle.couple.specs.Links.{Pair, AreZeroBefore, IsLink}

-- at some entry (a, b), the sum over q of entry (a, i) of L(q) times entry (j, b) of R(q^-1)
abbrev pub IsWideAverage : (f : ExactField) → Pair (Value f) → ℕ → ℕ → Type 0
IsWideAverage f p i j =
    (a : ℕ) × (a < p.rows) × (b : ℕ) × (b < p.cols) × IsWideDot f p.group.order (λ q. p.left q a i) (λ q. p.right (p.group.inverse q) j b)

-- some average before which all are zero
abbrev pub IsWideAverages : (f : ExactField) → Pair (Value f) → Type 0
IsWideAverages f p = (i : ℕ) × (i < p.rows) × (j : ℕ) × (j < p.cols) × AreZeroBefore f.laws p i j × IsWideAverage f p i j

-- a row of the link, inserted into the form of those before it
abbrev pub IsWideRank : (f : ExactField) → Pair (Value f) → Type 0
IsWideRank f p = (X : ℕ → ℕ → Value f) × IsLink f.laws p X × IsWideIndependent f p.rows X

abbrev pub IsWideLink : (f : ExactField) → Pair (Value f) → Type 0
IsWideLink f p = IsWideAverages f p ⊎ IsWideRank f p
