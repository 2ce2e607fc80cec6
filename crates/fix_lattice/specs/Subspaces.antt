-- What contracts see of held forms.
--
-- SubspacesView: a width, and forms of that width
-- IsWholeForm f value w e: a whole form of width w
-- AreWholeForms f value w forms: each is one
-- same_rows E a b: the two forms have the same entries
-- AreHeld f value E w forms: whole forms of width w, no two with the same entries
-- exact_forms f value forms: their exact rows
use Rattle.std.specs.Prelude.{◌≡◌, ℕ, Bool, true, List, [], ◌∷◌}
use Rattle.std.specs.List.{IsDistinct}
use Rattle.cyclo24.specs.FieldOn.{FieldOn}
use Rattle.lin_alg.specs.Compared.{lines_eq}
use Rattle.lin_alg.specs.Echelon.{EchelonView, IsEchelon}
use Rattle.lin_alg.specs.Rows.{exact_rows}

-- held forms as contracts see them
pub record SubspacesView (A : Type 0) : Type 0 where
  pub width : ℕ
  pub forms : List (EchelonView A)

-- a whole form of this width
pub record IsWholeForm {A K : Type 0} (f : FieldOn K) (value : A → K) (w : ℕ) (e : EchelonView A) : Type 0 where
  pub width : e.width ≡ w
  pub whole : e.whole ≡ true
  pub form : IsEchelon f value e

-- each is a whole form of this width
abbrev pub AreWholeForms : {A K : Type 0} → FieldOn K → (A → K) → ℕ → List (EchelonView A) → Type 0
AreWholeForms f value w [] = Unit {0}
AreWholeForms f value w (e ∷ es) = IsWholeForm f value w e × AreWholeForms f value w es

-- whether two forms have the same entries, by a test of entries
abbrev pub same_rows : {A : Type 0} → (A → A → Bool) → EchelonView A → EchelonView A → Bool
same_rows E a b = lines_eq E a.rows b.rows

-- whole forms of this width, no two with the same entries
pub record AreHeld {A K : Type 0} (f : FieldOn K) (value : A → K) (E : A → A → Bool) (w : ℕ) (forms : List (EchelonView A)) : Type 0 where
  pub whole : AreWholeForms f value w forms
  pub once : IsDistinct (same_rows E) forms

-- the exact rows of each
abbrev pub exact_forms : {A K : Type 0} → FieldOn K → (A → K) → List (EchelonView A) → List (List (ℕ × (ℕ → K)))
exact_forms f value [] = []
exact_forms f value (e ∷ es) = exact_rows f value e.rows ∷ exact_forms f value es
