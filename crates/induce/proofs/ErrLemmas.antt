-- One error as the answer of several calls.
use Rattle.std.proofs.Common.{◌≡◌, ap}
use Rattle.std.specs.Prelude.{Result, Ok, Err}

abbrev error_of : {T E : Type 0} → E → Result T E → E
error_of d (Ok x) = d
error_of d (Err e) = e

-- an answer's error stands in another type of answers too
pub err_again : {T U E : Type 0} (e d : E) → ◌≡◌ {A = Result T E} (Err e) (Err d) → ◌≡◌ {A = Result U E} (Err e) (Err d)
err_again e d h = ap (λ (x : _). Err x) (ap (error_of e) h)
