-- A row as an equation, and the equations of a subspace: the reduced rows of all rows that vanish on it.
--
-- dot f w x v: the value of row x at v
-- Vanishes f w rows v: each of the rows is 0 at v
-- IsEquationsOf f w U rows: the rows are the equations of U
-- free_vector f rows j: the solution with 1 at column j, which has no pivot, and 0 at the other such columns
use Rattle.std.specs.Prelude.{◌≡◌, ◌↔◌, ℕ, List, [], ◌∷◌, nat_eq, if◌then◌else◌}
use Rattle.cyclo24.specs.FieldOn.{FieldOn}
use Rattle.cyclo24.specs.Sums.{total}
use Rattle.lin_alg.specs.Spans.{row_vectors, less, IsInSpan, HasRows}
use Rattle.lin_alg.specs.Reduced.{IsForm, IsWithin}

-- the value of a row of w entries at a vector
abbrev pub dot : {K : Type 0} → FieldOn K → ℕ → (ℕ → K) → (ℕ → K) → K
dot f w x v = total f w (λ k. f.times (x k) (v k))

-- each of the rows is 0 at v
abbrev pub Vanishes : {K : Type 0} → FieldOn K → ℕ → List (ℕ → K) → (ℕ → K) → Type 0
Vanishes f w rs v = HasRows (λ x. dot f w x v ≡ f.nought) rs

-- the reduced form whose span is all rows of w entries that are 0 on all of U
pub record IsEquationsOf {K : Type 0} (f : FieldOn K) (w : ℕ) (U : (ℕ → K) → Type 0) (rs : List (ℕ × (ℕ → K))) : Type 0 where
  pub form : IsForm f w rs
  pub spans : (x : ℕ → K) → IsInSpan f (row_vectors rs) x ↔ (IsWithin f w x × ((v : ℕ → K) → U v → dot f w x v ≡ f.nought))

-- 1 at p and 0 elsewhere
abbrev pub unit_vector : {K : Type 0} → FieldOn K → ℕ → ℕ → K
unit_vector f p k = if nat_eq k p then f.unit else f.nought

-- 1 at j and, at each pivot, minus the entry of that row at j
abbrev pub free_vector : {K : Type 0} → FieldOn K → List (ℕ × (ℕ → K)) → ℕ → ℕ → K
free_vector f [] j = unit_vector f j
free_vector f (r ∷ rs) j = less f (free_vector f rs j) (r.1 j) (unit_vector f r.0)
