-- Entries of matrices of a program.
use Rattle.std.proofs.Common.{◌≡◌, ℕ, suc, ◌+◌, ◌*◌, ◌≤◌, refl, ap, List, [], ◌∷◌, length, le-ltb, if◌then◌else◌, Result}
use Rattle.std.specs.Prelude.{Ok, Err}
use Rattle.cyclo24.specs.FieldOn.{FieldOn}
use Rattle.cyclo24.specs.ExactField.{ExactField, Value}
use Rattle.lin_alg.specs.Matrix.{MatrixView, entry}
use Rattle.lin_alg.specs.Rows.{vector, exact_rows}
use Rattle.lin_alg.specs.Spans.{less, IsInSpan, AreSame}

module _ {A : Type 0} (f : ExactField) (value : A → Value f) where
  pub entry-right : (m : MatrixView A) (i j : ℕ) → m.cols ≤ j → entry f.laws value m i j ≡ f.laws.nought
  entry-right m i j l = ap (λ b. if b then vector f.laws value m.entries (i * m.cols + j) else f.laws.nought) (le-ltb j m.cols l)

  pub exact-length : (rs : List (ℕ × List A)) → length (exact_rows f.laws value rs) ≡ length rs
  exact-length [] = refl
  exact-length (r ∷ rs) = ap suc (exact-length rs)

-- vectors with the same span have the same span with one more
pub same-more : {K : Type 0} (f : FieldOn K) (rs ss : List (ℕ → K)) (r : ℕ → K) → AreSame (IsInSpan f rs) (IsInSpan f ss) → AreSame (IsInSpan f (r ∷ rs)) (IsInSpan f (r ∷ ss))
same-more f rs ss r t v = (λ h. (h.0, (t (less f v h.0 r)).0 h.1), λ h. (h.0, (t (less f v h.0 r)).1 h.1))

-- the errors of two equal refusals are equal
error_in : {T E : Type 0} → E → Result T E → E
error_in d (Ok x) = d
error_in d (Err e) = e

pub same-error : {T U E : Type 0} (a b : E) → ◌≡◌ {A = Result T E} (Err a) (Err b) → ◌≡◌ {A = Result U E} (Err a) (Err b)
unfolding error_in
same-error {T} {U} {E} a b h = let e : a ≡ b = ap (error_in {T = T} {E = E} a) h in ap Err e
