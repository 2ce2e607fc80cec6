-- Images of vectors and of equations under an action.
--
-- moves_of f act: the group on the vectors
-- row_image f act q e: e A(q^-1), the equation e moved by q; row_images: each row moved
use Rattle.std.specs.Prelude.{ℕ, ℤ, Bool, ltb, List, [], ◌∷◌, if◌then◌else◌}
use Rattle.cyclo24.specs.FieldOn.{FieldOn}
use Rattle.cyclo24.specs.ExactField.{Exact}
use Rattle.cyclo24.specs.Sums.{total}
use Rattle.lin_alg.specs.Action.{Action, image_of, entry_of}
use Rattle.lin_alg.specs.Moves.{Moves}

-- the group on the vectors
abbrev pub moves_of : {valid : List ℤ → Bool} → FieldOn (Exact valid) → Action → Moves (ℕ → Exact valid)
moves_of f act = record { group = act.group; move = image_of f act }

-- e A(q^-1), 0 past the dimension
abbrev pub row_image : {valid : List ℤ → Bool} → FieldOn (Exact valid) → Action → ℕ → (ℕ → Exact valid) → ℕ → Exact valid
row_image f act q e = λ j. if ltb j act.dim then total f act.dim (λ i. f.times (e i) (entry_of f act (act.group.inverse q) i j)) else f.nought

-- the rows e A(q^-1) for the rows e
abbrev pub row_images : {valid : List ℤ → Bool} → FieldOn (Exact valid) → Action → ℕ → List (ℕ → Exact valid) → List (ℕ → Exact valid)
row_images f act q [] = []
row_images f act q (r ∷ rs) = row_image f act q r ∷ row_images f act q rs
