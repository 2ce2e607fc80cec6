-- What a real form tells of what was induced.
--
-- IsFormFound q v cs form: the real form of induced matrices by the vectors that are tried
-- IsFormCause q v cs e: why there is none
use Rattle.std.specs.Prelude.{◌≡◌, ◌⊎◌, ⊤, ℕ, ◌≤◌, List, length}
use Rattle.cyclo24.specs.K24.{exact24}
use Rattle.cyclo24.specs.ExactK24.{k24_laws}
use Rattle.cyclo24.specs.ExactZ24.{ExactZ24}
use Rattle.lin_alg.specs.Action.{entry_of}
use Rattle.lin_alg.specs.Rows.{exact_rows}
use Rattle.super_group.specs.Quotient.{SupercellGroup, order_of}
use Rattle.induce.specs.InducedView.{InducedView}
use Rattle.induce.specs.Kinds.{real_dimension}
use Rattle.induce.specs.Tables.{dimension_in, matrix_in}
use Rattle.induce.specs.declared.kinds.Kind.TheVariants.{Real}
use Rattle.real_form.specs.Bases.{AreMatricesIn}
use Rattle.real_form.specs.Complexes.{z24_parts}
use Rattle.real_form.specs.Orbits.{NoneOf}
use Rattle.real_form.specs.RealBasis.{FitsNot, IsRealBasis, IsWideSpans, IsWideForm}
use Rattle.real_form.specs.RealForm.{quotient_of, basis_of, action_of}
use Rattle.real_form.specs.declared.form.RealForm.{RealForm}
use Rattle.real_form.specs.declared.errors.FormError.{FormError}
use Rattle.real_form.specs.declared.errors.FormError.TheVariants as form_error

-- the real form of induced matrices by the vectors that are tried
pub record IsFormFound (q : SupercellGroup) (v : InducedView) (cs : List (ℕ → ExactZ24)) (form : RealForm) : Type 0 where
  pub basis : IsRealBasis v.kind (dimension_in v.tables) (order_of q) (matrix_in q v.tables) cs (exact_rows k24_laws exact24 (basis_of form))
  pub matrices : AreMatricesIn z24_parts (dimension_in v.tables) (matrix_in q v.tables) (order_of q) (exact_rows k24_laws exact24 (basis_of form)) (entry_of k24_laws (action_of form))
  pub quotient : quotient_of form ≡ q
  pub dim : (action_of form).dim ≡ real_dimension v.kind (dimension_in v.tables)
  pub few : (action_of form).dim ≤ 24

-- why there is none
abbrev pub IsFormCause : SupercellGroup → InducedView → List (ℕ → ExactZ24) → FormError → Type 0
IsFormCause q v cs form_error.NoRealBasis = (v.kind ≡ Real) × NoneOf (FitsNot (dimension_in v.tables) (order_of q) (matrix_in q v.tables)) cs
IsFormCause q v cs (form_error.Wide k) =
    ((k ≡ 1) × (v.kind ≡ Real) × IsWideSpans (dimension_in v.tables) (order_of q) (matrix_in q v.tables) cs)
    ⊎ ((k ≡ 2) × IsWideForm v.kind (dimension_in v.tables) (length q.translations) (length q.parent.ops) (matrix_in q v.tables) cs)
IsFormCause q v cs form_error.NoMemory = ⊤
