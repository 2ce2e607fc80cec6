-- Rows as programs hold them, and the exact rows that they stand for.
--
-- vector f value xs: the exact values of the list, 0 behind its end
-- exact_rows f value rows: the exact rows, each with its pivot
-- HaveWidth w rows: each row is w entries long, its pivot below w
-- AreEnded f value rows: each row is 0 behind its pivot
use Rattle.std.specs.Prelude.{◌≡◌, ℕ, ◌<◌, List, [], ◌∷◌, length, map, get_or}
use Rattle.cyclo24.specs.FieldOn.{FieldOn}

-- the exact values of a row, 0 behind its end
abbrev pub vector : {A K : Type 0} → FieldOn K → (A → K) → List A → ℕ → K
vector f value xs = λ j. get_or (map value xs) j f.nought

-- the rows with their pivots as exact values
abbrev pub exact_rows : {A K : Type 0} → FieldOn K → (A → K) → List (ℕ × List A) → List (ℕ × (ℕ → K))
exact_rows f value [] = []
exact_rows f value (r ∷ rs) = (r.0, vector f value r.1) ∷ exact_rows f value rs

-- each row has this width, and its pivot is a column of it
abbrev pub HaveWidth : {A : Type 0} → ℕ → List (ℕ × List A) → Type 0
HaveWidth w [] = Unit {0}
HaveWidth w (r ∷ rs) = (r.0 < w) × (length r.1 ≡ w) × HaveWidth w rs

-- each row is 0 behind its pivot
abbrev pub AreEnded : {A K : Type 0} → FieldOn K → (A → K) → List (ℕ × List A) → Type 0
AreEnded f value [] = Unit {0}
AreEnded f value (r ∷ rs) = ((j : ℕ) → r.0 < j → vector f value r.1 j ≡ f.nought) × AreEnded f value rs

-- each list has this length
abbrev pub HaveLength : {A : Type 0} → ℕ → List (List A) → Type 0
HaveLength w [] = Unit {0}
HaveLength w (x ∷ xs) = (length x ≡ w) × HaveLength w xs
