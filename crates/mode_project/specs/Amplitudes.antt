-- Amplitudes: the factors of modes whose sum is a given vector. The modes are rows, and behind them the unit vectors at some
-- columns, the sites; the other columns are the pivot columns.
--
-- AreAmplitudes f n mode d v a: the sum of a m times mode m, for the m below n, is v in each of the d columns
-- IsModeBasis f d ms sites: the rows and the unit vectors are a basis of the vectors of d entries, the sites rising
-- ArePivotColumns d sites columns: the columns that are no sites, rising
-- cut_to f columns v: the entries of v at the columns, in their order
-- cut_row f columns ms k: those of row k
-- IsWideAmplitudes f d ms sites v: finding the amplitudes of v is wide
use Rattle.std.specs.Prelude.{◌≡◌, ℕ, ◌+◌, ◌<◌, ◌⊎◌, IsTrue, List, length, slice_index, ltb, if◌then◌else◌}
use Rattle.std.specs.List.{Contains}
use Rattle.algebra.specs.RisingLists.{IsRisingListOf}
use Rattle.cyclo24.specs.FieldOn.{FieldOn}
use Rattle.cyclo24.specs.ExactField.{ExactField, Value}
use Rattle.lin_alg.specs.Spans.{row_vectors, IsInSpan, AreSame}
use Rattle.lin_alg.specs.Reduced.{IsWithin}
use Rattle.lin_alg.specs.Matrix.{IsWideDot}
use Rattle.lin_alg.specs.Solving.{combination, AreIndependent, IsWideSolve}
use Rattle.mode_project.specs.Modes.{all_modes, vector_at}

abbrev pub AreAmplitudes : {K : Type 0} → FieldOn K → ℕ → (ℕ → ℕ → K) → ℕ → (ℕ → K) → (ℕ → K) → Type 0
AreAmplitudes f n mode d v a = (c : ℕ) → c < d → combination f n a mode c ≡ v c

pub record IsModeBasis {K : Type 0} (f : FieldOn K) (d : ℕ) (ms : List (ℕ × (ℕ → K))) (sites : List ℕ) : Type 0 where
  pub count : length ms + length sites ≡ d
  pub independent : AreIndependent f d (vector_at f (all_modes f ms sites))
  pub spanning : AreSame (IsInSpan f (all_modes f ms sites)) (IsWithin f d)
  pub rising : (i k : ℕ) → i < k → k < length sites → slice_index sites i < slice_index sites k

abbrev pub ArePivotColumns : ℕ → List ℕ → List ℕ → Type 0
ArePivotColumns d sites = IsRisingListOf d (λ c. Contains sites c → ⊥)

abbrev pub cut_to : {K : Type 0} → FieldOn K → List ℕ → (ℕ → K) → ℕ → K
cut_to f columns v k = if ltb k (length columns) then v (slice_index columns k) else f.nought

abbrev pub cut_row : {K : Type 0} → FieldOn K → List ℕ → List (ℕ × (ℕ → K)) → ℕ → ℕ → K
cut_row f columns ms k = cut_to f columns (vector_at f (row_vectors ms) k)

-- the sum of x k times the entry of row k at column c, or the difference of the entry of v from it
abbrev pub IsWideRest : (f : ExactField) → List (ℕ × (ℕ → Value f)) → (ℕ → Value f) → (ℕ → Value f) → ℕ → Type 0
IsWideRest f ms v x c =
    let row = vector_at f.laws (row_vectors ms) in
    IsWideDot f (length ms) x (λ k. row k c) ⊎ IsTrue (f.is_wide_difference (v c) (combination f.laws (length ms) x row c))

-- solving by the rows in the pivot columns, or what the amplitudes x of the rows leave of v at a site
abbrev pub IsWideAmplitudes : (f : ExactField) → ℕ → List (ℕ × (ℕ → Value f)) → List ℕ → (ℕ → Value f) → Type 0
IsWideAmplitudes f d ms sites v =
    (columns : List ℕ) × ArePivotColumns d sites columns
    × (IsWideSolve f (length ms) (cut_row f.laws columns ms) (cut_to f.laws columns v)
    ⊎ ((x : ℕ → Value f) × AreAmplitudes f.laws (length ms) (cut_row f.laws columns ms) (length columns) (cut_to f.laws columns v) x
    × ((c : ℕ) × Contains sites c × IsWideRest f ms v x c)))
