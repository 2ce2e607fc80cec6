-- What a form holds while the images of an orbit are inserted.
--
-- HoldsSpan f value w a k form: the whole form of the span of the first k rows
-- HoldsPart f value w a k form: a whole form of vectors of that span
use Rattle.std.specs.Prelude.{◌≡◌, ℕ, true}
use Rattle.cyclo24.specs.FieldOn.{FieldOn}
use Rattle.lin_alg.specs.Spans.{IsInSpan, AreSame}
use Rattle.lin_alg.specs.Echelon.{EchelonView, IsEchelon, IsSpanned}
use Rattle.lin_alg.specs.Solving.{plain_rows}

-- the form is whole, and that of the span of the rows a 0, .., a (k - 1) of w entries
pub record HoldsSpan {A K : Type 0} (f : FieldOn K) (value : A → K) (w : ℕ) (a : ℕ → ℕ → K) (k : ℕ) (form : EchelonView A) : Type 0 where
  pub width : form.width ≡ w
  pub whole : form.whole ≡ true
  pub shape : IsEchelon f value form
  pub span : AreSame (IsSpanned f value form) (IsInSpan f (plain_rows a k))

-- the form is whole, and holds vectors of the span of the rows a 0, .., a (k - 1) of w entries
pub record HoldsPart {A K : Type 0} (f : FieldOn K) (value : A → K) (w : ℕ) (a : ℕ → ℕ → K) (k : ℕ) (form : EchelonView A) : Type 0 where
  pub width : form.width ≡ w
  pub whole : form.whole ≡ true
  pub within : (v : ℕ → K) → IsSpanned f value form v → IsInSpan f (plain_rows a k) v
