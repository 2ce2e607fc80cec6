-- Systems of linear equations: a target as a combination of rows.
--
-- combination f n x a: x 0 times row 0 of a, + .. + x (n - 1) times row n - 1
-- AreIndependent f n a: the first n rows of a are independent
-- plain_rows a k: the first k rows; IsWideIndependent f n a: testing them is wide
-- joined n u v: n entries of u, and v behind them
-- joined_rows f n a k: the first k rows, each with its unit vector of n entries in front
-- IsWideSolve f n a t: solving is wide
use Rattle.std.specs.Prelude.{◌≡◌, ℕ, suc, zero, ◌<◌, ◌-◌, List, [], ◌∷◌, ◌⊎◌, ltb, if◌then◌else◌}
use Rattle.cyclo24.specs.FieldOn.{FieldOn}
use Rattle.cyclo24.specs.ExactField.{ExactField, Value}
use Rattle.lin_alg.specs.Spans.{row_vectors, IsInSpan, AreSame}
use Rattle.lin_alg.specs.Reduced.{IsReduced}
use Rattle.lin_alg.specs.Equations.{dot, unit_vector}
use Rattle.lin_alg.specs.Insertion.{IsWideInsert, IsWideReduce}

-- the sum of x i times row i, for i below n
abbrev pub combination : {K : Type 0} → FieldOn K → ℕ → (ℕ → K) → (ℕ → ℕ → K) → ℕ → K
combination f n x a = λ j. dot f n x (λ i. a i j)

-- only zeros combine the n rows to zero
abbrev pub AreIndependent : {K : Type 0} → FieldOn K → ℕ → (ℕ → ℕ → K) → Type 0
AreIndependent {K} f n a = (x : ℕ → K) → ((j : ℕ) → combination f n x a j ≡ f.nought) → (i : ℕ) → i < n → x i ≡ f.nought

-- the first k rows
abbrev pub plain_rows : {K : Type 0} → (ℕ → ℕ → K) → ℕ → List (ℕ → K)
plain_rows a zero = []
plain_rows a (suc k) = a k ∷ plain_rows a k

-- testing n rows is wide: inserting a row into the one form of those before it
abbrev pub IsWideIndependent : (f : ExactField) → ℕ → (ℕ → ℕ → Value f) → Type 0
IsWideIndependent f n a =
    (k : ℕ) × (k < n) × (rs : List (ℕ × (ℕ → Value f))) × IsReduced f.laws rs × AreSame (IsInSpan f.laws (row_vectors rs)) (IsInSpan f.laws (plain_rows a k))
    × IsWideInsert f rs (a k)

-- n entries of u, and v behind them
abbrev pub joined : {K : Type 0} → ℕ → (ℕ → K) → (ℕ → K) → ℕ → K
joined n u v j = if ltb j n then u j else v (j - n)

-- the first k rows, each with its unit vector of n entries in front
abbrev pub joined_rows : {K : Type 0} → FieldOn K → ℕ → (ℕ → ℕ → K) → ℕ → List (ℕ → K)
joined_rows f n a zero = []
joined_rows f n a (suc k) = joined n (unit_vector f k) (a k) ∷ joined_rows f n a k

-- inserting a joined row into the one form of those before it is wide, or taking the target, with zeros in front, to 0 in the pivot columns of the form of all
abbrev pub IsWideSolve : (f : ExactField) → ℕ → (ℕ → ℕ → Value f) → (ℕ → Value f) → Type 0
IsWideSolve f n a t =
    ((k : ℕ) × (k < n) × (rs : List (ℕ × (ℕ → Value f))) × IsReduced f.laws rs × AreSame (IsInSpan f.laws (row_vectors rs)) (IsInSpan f.laws (joined_rows f.laws n a k))
    × IsWideInsert f rs (joined n (unit_vector f.laws k) (a k)))
    ⊎ ((rs : List (ℕ × (ℕ → Value f))) × IsReduced f.laws rs × AreSame (IsInSpan f.laws (row_vectors rs)) (IsInSpan f.laws (joined_rows f.laws n a n))
    × IsWideReduce f rs (joined n (λ _. f.laws.nought) t))
