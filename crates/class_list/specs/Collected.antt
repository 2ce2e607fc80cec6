-- The entries of a listing before they are sorted, each with its numbers.
--
-- Entry: two numbers and a direction
-- IsPushed f value act order lines old new: new is old with the entry of these rows last
-- AreCollected f value E act order es least n entries: the entries of the places below n that are their own least, each once
use Rattle.std.specs.Prelude.{◌≡◌, ℕ, ◌<◌, ℤ, Bool, List, [], ◌∷◌, ◌++◌, All, Contains, slice_index}
use Rattle.std.specs.List.{IsDistinct}
use Rattle.cyclo24.specs.FieldOn.{FieldOn}
use Rattle.cyclo24.specs.ExactField.{Exact}
use Rattle.lin_alg.specs.Action.{Action}
use Rattle.lin_alg.specs.Compared.{lines_eq}
use Rattle.lin_alg.specs.Echelon.{EchelonView}
use Rattle.class_list.specs.declared.order.Order.{Order}
use Rattle.class_list.specs.Entries.{IsEntryOf}
use Rattle.class_list.specs.Ranks.{rows_at}
use Rattle.class_list.specs.Seen.{DirectionView}

-- two numbers and a direction
abbrev pub Entry : Type 0 → Type 0
Entry A = (ℕ × ℕ) × DirectionView A

-- new is old with the entry of these rows last
pub record IsPushed {A : Type 0} {valid : List ℤ → Bool} (f : FieldOn (Exact valid)) (value : A → Exact valid) (act : Action) (order : Order) (lines : List (ℕ × List A)) (old new : List (Entry A)) : Type 0 where
  pub entry : Entry A
  pub is : new ≡ old ++ entry ∷ []
  pub made : IsEntryOf f value act order lines entry.0 entry.1

-- the place below n of an entry, which is its own least
pub record HasPlace {A : Type 0} {valid : List ℤ → Bool} (f : FieldOn (Exact valid)) (value : A → Exact valid) (act : Action) (order : Order) (es : List (EchelonView A)) (least : List ℕ) (n : ℕ) (e : Entry A) : Type 0 where
  pub place : ℕ
  pub below : place < n
  pub own : slice_index least place ≡ place
  pub made : IsEntryOf f value act order (rows_at es place) e.0 e.1

-- the entry of a place
pub record HasEntry {A : Type 0} {valid : List ℤ → Bool} (f : FieldOn (Exact valid)) (value : A → Exact valid) (act : Action) (order : Order) (es : List (EchelonView A)) (entries : List (Entry A)) (i : ℕ) : Type 0 where
  pub entry : Entry A
  pub there : Contains entries entry
  pub made : IsEntryOf f value act order (rows_at es i) entry.0 entry.1

-- whether two entries have the same rows, by a test of values
abbrev pub same_entry : {A : Type 0} → (A → A → Bool) → Entry A → Entry A → Bool
same_entry E a b = lines_eq E a.1.equations.rows b.1.equations.rows

-- the entries of the places below n that are their own least, each once
pub record AreCollected {A : Type 0} {valid : List ℤ → Bool} (f : FieldOn (Exact valid)) (value : A → Exact valid) (E : A → A → Bool) (act : Action) (order : Order) (es : List (EchelonView A)) (least : List ℕ) (n : ℕ) (entries : List (Entry A)) : Type 0 where
  pub from : All (HasPlace f value act order es least n) entries
  pub each : (i : ℕ) → i < n → slice_index least i ≡ i → HasEntry f value act order es entries i
  pub once : IsDistinct (same_entry E) entries
