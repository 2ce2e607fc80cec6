-- The written numbers of an insertion: where one of its own operations is wide by the field's meaning.
-- An operation with a factor 0 isn't done.
--
-- IsWideReduce f rows v: taking v to 0 in each pivot column is wide
-- IsWideInsert f rows v: inserting v into the reduced form is wide
use Rattle.std.specs.Prelude.{◌≡◌, ℕ, ◌<◌, false, IsTrue, List, [], ◌∷◌, ◌⊎◌}
use Rattle.cyclo24.specs.FieldOn.{FieldOn}
use Rattle.cyclo24.specs.ExactField.{ExactField, Value}
use Rattle.lin_alg.specs.declared.echelon.Grew.{Grew}
use Rattle.lin_alg.specs.declared.echelon.Grew.TheVariants.{Yes, No}
use Rattle.lin_alg.specs.Spans.{less}
use Rattle.lin_alg.specs.Reduced.{reduce, scaled, inserted}
use Rattle.lin_alg.specs.Rows.{exact_rows}

-- p is the last column where v isn't 0
abbrev pub IsLastColumn : {K : Type 0} → FieldOn K → (ℕ → K) → ℕ → Type 0
IsLastColumn f v p = (f.is_nought (v p) ≡ false) × ((j : ℕ) → p < j → v j ≡ f.nought)

-- v - c b is wide in a column where b isn't 0
abbrev pub IsWideLess : (f : ExactField) → (ℕ → Value f) → Value f → (ℕ → Value f) → Type 0
IsWideLess f v c b =
    (j : ℕ) × (f.laws.is_nought (b j) ≡ false)
    × (IsTrue (f.is_wide_product c (b j)) ⊎ IsTrue (f.is_wide_difference (v j) (f.laws.times c (b j))))

-- step 1 is wide: at a row whose pivot column isn't 0 in what is left of v
abbrev pub IsWideReduce : (f : ExactField) → List (ℕ × (ℕ → Value f)) → (ℕ → Value f) → Type 0
IsWideReduce f [] v = ⊥
IsWideReduce f (r ∷ rs) v =
    ((f.laws.is_nought (v r.0) ≡ false) × IsWideLess f v (v r.0) r.1) ⊎ IsWideReduce f rs (less f.laws v (v r.0) r.1)

-- step 3 is wide: the inverse of the last entry, or its product with an entry that isn't 0
abbrev pub IsWideScale : (f : ExactField) → ℕ → (ℕ → Value f) → Type 0
IsWideScale f p v =
    IsTrue (f.is_wide_inverse (v p))
    ⊎ ((j : ℕ) × (f.laws.is_nought (v j) ≡ false) × IsTrue (f.is_wide_product (f.laws.inverse (v p)) (v j)))

-- step 4 is wide: at a row that isn't 0 at p
abbrev pub IsWideClear : (f : ExactField) → ℕ → (ℕ → Value f) → List (ℕ × (ℕ → Value f)) → Type 0
IsWideClear f p u [] = ⊥
IsWideClear f p u (r ∷ rs) =
    ((f.laws.is_nought (r.1 p) ≡ false) × IsWideLess f r.1 (r.1 p) u) ⊎ IsWideClear f p u rs

-- a step of the insertion of v is wide
abbrev pub IsWideInsert : (f : ExactField) → List (ℕ × (ℕ → Value f)) → (ℕ → Value f) → Type 0
IsWideInsert f rs v =
    IsWideReduce f rs v
    ⊎ ((p : ℕ) × IsLastColumn f.laws (reduce f.laws rs v) p
    × (IsWideScale f p (reduce f.laws rs v) ⊎ IsWideClear f p (scaled f.laws p (reduce f.laws rs v)) rs))

-- the form after an insertion that answers whether the row was new
abbrev pub IsInserted : {A K : Type 0} → FieldOn K → (A → K) → List (ℕ × List A) → (ℕ → K) → Grew → List (ℕ × List A) → Type 0
IsInserted f value old v Yes new =
    (p : ℕ) × IsLastColumn f (reduce f (exact_rows f value old) v) p × (exact_rows f value new ≡ inserted f (exact_rows f value old) v p)
IsInserted f value old v No new = ((j : ℕ) → reduce f (exact_rows f value old) v j ≡ f.nought) × (new ≡ old)
