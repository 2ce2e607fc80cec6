-- What a short type gives for K24.
--
-- IsTableOf f value act m: m holds the matrices of act, one below the other
-- exact_lines value rows: the rows with their pivots as lists of exact values
-- AreForms ws es: whole forms over K24, each of the width at its place
use Rattle.std.specs.Prelude.{◌≡◌, ◌<◌, ◌+◌, ◌*◌, ℕ, ℤ, Bool, List, [], ◌∷◌, map}
use Rattle.cyclo24.specs.FieldOn.{FieldOn}
use Rattle.cyclo24.specs.ExactField.{Exact}
use Rattle.cyclo24.specs.ExactK24.{Exact24, k24_laws}
use Rattle.cyclo24.specs.declared.k24.K24.{K24}
use Rattle.cyclo24.specs.K24.{exact24}
use Rattle.lin_alg.specs.Action.{Action, entry_of}
use Rattle.lin_alg.specs.Matrix.{MatrixView, entry}
use Rattle.lin_alg.specs.Echelon.{EchelonView}
use Rattle.fix_lattice.specs.Subspaces.{IsWholeForm}

-- row q dim + i of m is row i of A(q)
pub record IsTableOf {valid : List ℤ → Bool} {A : Type 0} (f : FieldOn (Exact valid)) (value : A → Exact valid) (act : Action) (m : MatrixView A) : Type 0 where
  pub rows : m.rows ≡ act.group.order * act.dim
  pub cols : m.cols ≡ act.dim
  pub entries : (q i j : ℕ) → q < act.group.order → i < act.dim → j < act.dim → entry f value m (q * act.dim + i) j ≡ entry_of f act q i j

-- the rows with their pivots as lists of exact values
abbrev pub exact_lines : {A : Type 0} → (A → Exact24) → List (ℕ × List A) → List (ℕ × List Exact24)
exact_lines value [] = []
exact_lines value (r ∷ rs) = (r.0, map value r.1) ∷ exact_lines value rs

-- whole forms over K24, each of the width at its place
abbrev pub AreForms : List ℕ → List (EchelonView K24) → Type 0
AreForms [] [] = Unit {0}
AreForms (w ∷ ws) (e ∷ es) = IsWholeForm k24_laws exact24 w e × AreForms ws es
AreForms [] (e ∷ es) = ⊥
AreForms (w ∷ ws) [] = ⊥
