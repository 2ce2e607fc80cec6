-- The written numbers of stabilisers and of images of fixed subspaces.
--
-- IsWideStabiliser f act us: forming the rows of an A(q) - 1, or inserting them into us, is wide
-- IsWideImage f act q e: forming the row e A(q^-1) is wide
-- IsWideImages f act: for a generator q and a fixed subspace, forming its equations times A(q^-1), or
--     inserting these rows in order into an empty form, is wide
use Rattle.std.specs.Prelude.{ℕ, ◌<◌, List, [], ◌⊎◌, length}
use Rattle.algebra.specs.NumberedGroup.{AllBelow}
use Rattle.cyclo24.specs.ExactField.{ExactField, Value}
use Rattle.lin_alg.specs.Action.{Action, entry_of}
use Rattle.lin_alg.specs.Fixed.{IsFixForm, mover}
use Rattle.lin_alg.specs.Images.{row_image}
use Rattle.lin_alg.specs.Matrix.{IsWideDot}
use Rattle.fix_lattice.specs.Wide.{IsWideInserts, IsWideMover, row_of}

-- forming the rows of an A(q) - 1, or inserting them in order into the equations us, is wide
abbrev pub IsWideStabiliser : (f : ExactField) → Action → List (ℕ × (ℕ → Value f)) → Type 0
IsWideStabiliser f act us =
    (q : ℕ) × (q < act.group.order) × (IsWideMover f act q ⊎ IsWideInserts f act.dim us act.dim (mover f.laws act q))

-- an entry of the row e A(q^-1) is wide, a sum of products from left to right
abbrev pub IsWideImage : (f : ExactField) → Action → ℕ → (ℕ → Value f) → Type 0
IsWideImage f act q e = (j : ℕ) × (j < act.dim) × IsWideDot f act.dim e (λ i. entry_of f.laws act (act.group.inverse q) i j)

-- the equations us times A(q^-1): forming a row, or inserting the rows in order into an empty form, is wide
abbrev pub IsWideImageOf : (f : ExactField) → Action → ℕ → List (ℕ × (ℕ → Value f)) → Type 0
IsWideImageOf f act q us =
    ((i : ℕ) × (i < length us) × IsWideImage f act q (row_of f.laws us i))
    ⊎ IsWideInserts f act.dim [] (length us) (λ i. row_image f.laws act q (row_of f.laws us i))

-- for a generator q and a fixed subspace with the equations us
abbrev pub IsWideImages : (f : ExactField) → Action → Type 0
IsWideImages f act =
    (j : ℕ) × (j < act.generators) × (h : List ℕ) × (us : List (ℕ × (ℕ → Value f))) × AllBelow act.group.order h × IsFixForm f.laws act h us × IsWideImageOf f act (act.generator j) us
