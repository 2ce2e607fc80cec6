-- Where the parts of the code of modes are wide.
--
-- IsWideOne f x y: the sum of x and y, neither of them 0
-- IsWideSpread f s ways c: spreading the columns c of the first atom to all atoms, or inserting them in order
-- IsWideRows f ms cs: inserting rows in order behind others
use Rattle.std.specs.Prelude.{◌≡◌, false, IsTrue, ℕ, ◌<◌, ◌⊎◌, ◌++◌, List, length, take}
use Rattle.cyclo24.specs.ExactField.{ExactField, Value}
use Rattle.lin_alg.specs.Spans.{row_vectors, IsInSpan, AreSame}
use Rattle.lin_alg.specs.Reduced.{IsReduced}
use Rattle.lin_alg.specs.Insertion.{IsWideInsert}
use Rattle.lin_alg.specs.Solving.{IsWideIndependent}
use Rattle.mode_project.specs.AtomSpace.{AtomSpace, size_of}
use Rattle.mode_project.specs.Modes.{vector_at}
use Rattle.mode_project.specs.Parts.{spread}
use Rattle.mode_project.specs.Wide.{IsWideImage, IsWideTurned}

abbrev pub IsWideOne : (f : ExactField) → Value f → Value f → Type 0
IsWideOne f x y = (f.laws.is_nought x ≡ false) × (f.laws.is_nought y ≡ false) × IsTrue (f.is_wide_sum x y)

abbrev pub IsWideSpread : (f : ExactField) → AtomSpace → List (ℕ × ℕ) → (ℕ → ℕ → Value f) → Type 0
IsWideSpread f s ways c =
    ((q b : ℕ) × (q < s.group.order) × (b < s.each) × IsWideImage f s q (c b)) ⊎ (IsWideTurned f s c ⊎ IsWideIndependent f (size_of s) (spread f.laws s ways c))

-- row k is wide, in the one form of ms and the rows before it
abbrev pub IsWideRows : (f : ExactField) → List (ℕ × (ℕ → Value f)) → List (ℕ × (ℕ → Value f)) → Type 0
IsWideRows f ms cs =
    (k : ℕ) × (k < length cs) × (rs : List (ℕ × (ℕ → Value f))) × IsReduced f.laws rs
    × AreSame (IsInSpan f.laws (row_vectors rs)) (IsInSpan f.laws (row_vectors (ms ++ take k cs)))
    × IsWideInsert f rs (vector_at f.laws (row_vectors cs) k)
