-- Images of fixed subspaces under the generators, as arrows between places.
--
-- IsDone j i p k: generator p is before j, or it is j and k is before i
-- AreArrows f act forms j i arrows: the arrows lead from forms to images of them, and have the image of
--     each form under each generator before generator j, and of the forms before i under generator j
use Rattle.std.specs.Prelude.{◌≡◌, ℕ, ◌<◌, ◌⊎◌, ℤ, Bool, List, length, Contains}
use Rattle.cyclo24.specs.FieldOn.{FieldOn}
use Rattle.cyclo24.specs.ExactField.{Exact}
use Rattle.lin_alg.specs.Action.{Action}
use Rattle.fix_lattice.specs.Classes.{IsImageForm}
use Rattle.fix_lattice.specs.Lattice.{form_at}
use Rattle.class_list.specs.declared.arrows.Arrow.{Arrow}

-- generator p is before j, or it is j and k is before i
abbrev pub IsDone : ℕ → ℕ → ℕ → ℕ → Type 0
IsDone j i p k = (p < j) ⊎ ((p ≡ j) × (k < i))

-- an arrow leads between places, to an image of the form it comes from
pub record IsArrow {valid : List ℤ → Bool} (f : FieldOn (Exact valid)) (act : Action) (forms : List (List (ℕ × (ℕ → Exact valid)))) (s : Arrow) : Type 0 where
  pub from : s.from < length forms
  pub to : s.to < length forms
  pub element : ℕ
  pub below : element < act.group.order
  pub image : IsImageForm f act element (form_at forms s.from) (form_at forms s.to)

-- the image of form k under generator p is there
pub record HasArrow {valid : List ℤ → Bool} (f : FieldOn (Exact valid)) (act : Action) (forms : List (List (ℕ × (ℕ → Exact valid)))) (arrows : List Arrow) (p k : ℕ) : Type 0 where
  pub arrow : Arrow
  pub there : Contains arrows arrow
  pub from : arrow.from ≡ k
  pub image : IsImageForm f act (act.generator p) (form_at forms k) (form_at forms arrow.to)

-- the arrows lead to images, and have those of the generators before j, and of the forms before i under generator j
pub record AreArrows {valid : List ℤ → Bool} (f : FieldOn (Exact valid)) (act : Action) (forms : List (List (ℕ × (ℕ → Exact valid)))) (j i : ℕ) (arrows : List Arrow) : Type 0 where
  pub sound : (s : Arrow) → Contains arrows s → IsArrow f act forms s
  pub each : (p k : ℕ) → p < act.generators → k < length forms → IsDone j i p k → HasArrow f act forms arrows p k
