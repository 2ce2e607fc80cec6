-- Reduced echelon forms with the pivot last: the last nonzero entry of each row, its pivot, is 1; the
-- pivots rise from row to row; and each pivot column is 0 in all other rows.
--
-- IsReduced f rows: the rows are such a form
-- IsPivot p rows: p is one of the pivots
-- is_pivot p rows, free_columns w rows: the same as a test, and the columns below w without pivot, rising
-- IsClear f rows v: v is 0 in each pivot column
-- IsWithin f w v: v is 0 from column w on
-- IsForm f w rows: a reduced form of w columns
-- reduce, scaled, cleared, placed, inserted: the written steps of an insertion
use Rattle.std.specs.Prelude.{◌≡◌, ℕ, suc, zero, ◌≤◌, ◌<◌, Bool, false, ◌||◌, nat_eq, ltb, if◌then◌else◌, List, [], ◌∷◌, ◌++◌, ◌⊎◌}
use Rattle.cyclo24.specs.FieldOn.{FieldOn}
use Rattle.lin_alg.specs.Spans.{row_vectors, less, HasRows}

-- 1 at p, and 0 behind it
abbrev pub EndsAt : {K : Type 0} → FieldOn K → ℕ → (ℕ → K) → Type 0
EndsAt f p b = (b p ≡ f.unit) × ((j : ℕ) → p < j → b j ≡ f.nought)

-- each of the rows has a pivot past p, and 0 at p
abbrev pub ArePast : {K : Type 0} → FieldOn K → ℕ → List (ℕ × (ℕ → K)) → Type 0
ArePast f p [] = Unit {0}
ArePast f p (r ∷ rs) = (p < r.0) × (r.1 p ≡ f.nought) × ArePast f p rs

-- each row ends at its pivot, and the rows after it have later pivots and 0 in its column
abbrev pub IsReduced : {K : Type 0} → FieldOn K → List (ℕ × (ℕ → K)) → Type 0
IsReduced f [] = Unit {0}
IsReduced f (r ∷ rs) = EndsAt f r.0 r.1 × ArePast f r.0 rs × IsReduced f rs

-- p is one of the pivots
abbrev pub IsPivot : {K : Type 0} → ℕ → List (ℕ × (ℕ → K)) → Type 0
IsPivot p [] = ⊥
IsPivot p (r ∷ rs) = (p ≡ r.0) ⊎ IsPivot p rs

-- whether p is one of the pivots
abbrev pub is_pivot : {V : Type 0} → ℕ → List (ℕ × V) → Bool
is_pivot p [] = false
is_pivot p (r ∷ rs) = nat_eq p r.0 || is_pivot p rs

-- the columns below w without pivot, rising
abbrev pub free_columns : {V : Type 0} → ℕ → List (ℕ × V) → List ℕ
free_columns zero rs = []
free_columns (suc w) rs = if is_pivot w rs then free_columns w rs else free_columns w rs ++ w ∷ []

-- v is 0 in each pivot column
abbrev pub IsClear : {K : Type 0} → FieldOn K → List (ℕ × (ℕ → K)) → (ℕ → K) → Type 0
IsClear f [] v = Unit {0}
IsClear f (r ∷ rs) v = (v r.0 ≡ f.nought) × IsClear f rs v

-- v is 0 from column w on
abbrev pub IsWithin : {K : Type 0} → FieldOn K → ℕ → (ℕ → K) → Type 0
IsWithin f w v = (j : ℕ) → w ≤ j → v j ≡ f.nought

-- each pivot is below w
abbrev pub PivotsBelow : {K : Type 0} → ℕ → List (ℕ × (ℕ → K)) → Type 0
PivotsBelow w [] = Unit {0}
PivotsBelow w (r ∷ rs) = (r.0 < w) × PivotsBelow w rs

-- a reduced form of rows of w columns
pub record IsForm {K : Type 0} (f : FieldOn K) (w : ℕ) (rs : List (ℕ × (ℕ → K))) : Type 0 where
  pub reduced : IsReduced f rs
  pub pivots : PivotsBelow w rs
  pub within : HasRows (IsWithin f w) (row_vectors rs)

-- step 1: v less the multiples of the rows by its entries at the pivots
abbrev pub reduce : {K : Type 0} → FieldOn K → List (ℕ × (ℕ → K)) → (ℕ → K) → ℕ → K
reduce f [] v = v
reduce f (r ∷ rs) v = reduce f rs (less f v (v r.0) r.1)

-- step 3: v divided by its entry at p
abbrev pub scaled : {K : Type 0} → FieldOn K → ℕ → (ℕ → K) → ℕ → K
scaled f p v = λ j. f.times (f.inverse (v p)) (v j)

-- step 4: the rows less the multiples of u that make them 0 at p
abbrev pub cleared : {K : Type 0} → FieldOn K → ℕ → (ℕ → K) → List (ℕ × (ℕ → K)) → List (ℕ × (ℕ → K))
cleared f p u [] = []
cleared f p u (r ∷ rs) = (r.0, less f r.1 (r.1 p) u) ∷ cleared f p u rs

-- step 5: the row at its place by rising pivots
abbrev pub placed : {K : Type 0} → ℕ → (ℕ → K) → List (ℕ × (ℕ → K)) → List (ℕ × (ℕ → K))
placed p u [] = (p, u) ∷ []
placed p u (r ∷ rs) = if ltb p r.0 then (p, u) ∷ r ∷ rs else r ∷ placed p u rs

-- the form after the insertion of v, whose reduced row ends at p
abbrev pub inserted : {K : Type 0} → FieldOn K → List (ℕ × (ℕ → K)) → (ℕ → K) → ℕ → List (ℕ × (ℕ → K))
inserted f rs v p =
    let u = scaled f p (reduce f rs v) in placed p u (cleared f p u rs)
