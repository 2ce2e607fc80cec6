-- Modes as the code holds them, with the reduced form of their span.
--
-- lines_in rows: rows with numbers, as lists
-- joined_rows_in f value rows: the exact rows with their numbers
-- AreLong n rows: each row has n entries
-- IsJoined f value form rows: the form is whole, and that of the span of the rows, which are as wide as it
use Rattle.std.specs.Prelude.{◌≡◌, ℕ, true, List, [], ◌∷◌, length, map}
use Rattle.std.specs.declared.vec.Vec.{Vec}
use Rattle.cyclo24.specs.FieldOn.{FieldOn}
use Rattle.lin_alg.specs.Spans.{row_vectors, IsInSpan, AreSame}
use Rattle.lin_alg.specs.Rows.{exact_rows}
use Rattle.lin_alg.specs.Echelon.{EchelonView, IsEchelon, IsSpanned}

abbrev pub lines_in : {A Z : Type 0} → List (ℕ × Vec A Z) → List (ℕ × List A)
lines_in {A} {Z} rows = map {A = ℕ × Vec A Z} {B = ℕ × List A} (λ r. (r.0, r.1.items)) rows

abbrev pub joined_rows_in : {A K Z : Type 0} → FieldOn K → (A → K) → List (ℕ × Vec A Z) → List (ℕ × (ℕ → K))
joined_rows_in f value rows = exact_rows f value (lines_in rows)

abbrev pub AreLong : {A : Type 0} → ℕ → List (ℕ × List A) → Type 0
AreLong n [] = Unit {0}
AreLong n (r ∷ rs) = (length r.1 ≡ n) × AreLong n rs

pub record IsJoined {A K Z : Type 0} (f : FieldOn K) (value : A → K) (form : EchelonView A) (rows : List (ℕ × Vec A Z)) : Type 0 where
  pub whole : form.whole ≡ true
  pub long : AreLong form.width (lines_in rows)
  pub shape : IsEchelon f value form
  pub span : AreSame (IsSpanned f value form) (IsInSpan f (row_vectors (joined_rows_in f value rows)))
