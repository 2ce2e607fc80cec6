-- What contracts see of an echelon form.
--
-- EchelonView: its width, whether it is whole, its rows with their pivots, and for how many more rows it has room
-- IsEchelon f value e: each row is as wide as the form, and the rows of a whole form are a reduced form
-- IsSpanned f value e v: v is in the span of the rows
-- IsSolution f value e v: each of the rows is 0 at v
use Rattle.std.specs.Prelude.{◌≡◌, ℕ, Bool, true, List}
use Rattle.cyclo24.specs.FieldOn.{FieldOn}
use Rattle.lin_alg.specs.Spans.{row_vectors, IsInSpan}
use Rattle.lin_alg.specs.Reduced.{IsForm}
use Rattle.lin_alg.specs.Rows.{exact_rows, HaveWidth}
use Rattle.lin_alg.specs.Equations.{Vanishes}

-- a form as contracts see it
pub record EchelonView (A : Type 0) : Type 0 where
  pub width : ℕ
  pub whole : Bool
  pub rows : List (ℕ × List A)
  pub spare : ℕ

-- each row is as wide as the form, and the rows of a whole form are a reduced form
pub record IsEchelon {A K : Type 0} (f : FieldOn K) (value : A → K) (e : EchelonView A) : Type 0 where
  pub shape : HaveWidth e.width e.rows
  pub form : e.whole ≡ true → IsForm f e.width (exact_rows f value e.rows)

-- v is in the span of the rows
abbrev pub IsSpanned : {A K : Type 0} → FieldOn K → (A → K) → EchelonView A → (ℕ → K) → Type 0
IsSpanned f value e v = IsInSpan f (row_vectors (exact_rows f value e.rows)) v

-- each of the rows is 0 at v
abbrev pub IsSolution : {A K : Type 0} → FieldOn K → (A → K) → EchelonView A → (ℕ → K) → Type 0
IsSolution f value e v = Vanishes f e.width (row_vectors (exact_rows f value e.rows)) v
