-- What `RealForm::new` answers, by the vectors that are tried.
use Rattle.std.proofs.Common.{◌≡◌, refl, ap, subst, ℕ, ◌≤◌, ◌⊎◌, List, [], ◌∷◌, length, map, get_or, Some, Result, Ok, Err, IfOk, IfErr}
use Rattle.cyclo24.specs.declared.z24.Z24.{Z24}
use Rattle.cyclo24.specs.K24.{exact24}
use Rattle.cyclo24.specs.Z24.{exact_z24}
use Rattle.cyclo24.specs.ExactK24.{k24_laws}
use Rattle.cyclo24.specs.ExactZ24.{ExactZ24, z24_laws}
use Rattle.cyclo24.specs.Terms.{terms_value}
use Rattle.iso_text.specs.declared.sections.VectorText.{VectorText}
use Rattle.lin_alg.specs.Action.{entry_of}
use Rattle.lin_alg.specs.Rows.{exact_rows}
use Rattle.super_group.specs.Quotient.{SupercellGroup, order_of}
use Rattle.induce.specs.InducedView.{InducedView}
use Rattle.induce.specs.Kinds.{real_dimension}
use Rattle.induce.specs.Tables.{dimension_in, matrix_in}
use Rattle.induce.specs.declared.kinds.Kind.TheVariants.{Real}
use Rattle.real_form.specs.Bases.{AreMatricesIn}
use Rattle.real_form.specs.Candidates.{tried}
use Rattle.real_form.specs.Complexes.{z24_parts}
use Rattle.real_form.specs.Orbits.{NoneOf}
use Rattle.real_form.specs.RealBasis.{FitsNot, IsRealBasis, IsWideSpans, IsWideForm}
use Rattle.real_form.specs.RealForm.{quotient_of, basis_of, action_of}
use Rattle.real_form.specs.declared.form.RealForm.{RealForm}
use Rattle.real_form.specs.declared.errors.FormError.{FormError}
use Rattle.real_form.specs.declared.errors.FormError.TheVariants as form_error
use Rattle.list_report.specs.HeldForms.{IsFormFound, IsFormCause}
use Rattle.list_report.specs.RealForms.{tried_of}

-- the vector of numbers that stand for those of the file
pub numbers-tried : (n : ℕ) (w : List Z24) (v : VectorText) → map exact_z24 w ≡ map terms_value v.numbers → tried n (Some w) ≡ tried_of n (Some v)
numbers-tried n w v e = ap (λ (zs : List ExactZ24). (λ (j : ℕ). get_or zs j z24_laws.nought) ∷ []) e

module _ (q : SupercellGroup) (v : InducedView) (cs : List (ℕ → ExactZ24)) where
  pub form-found : {E : Type 0} (r : Result RealForm E)
      → IfOk r (λ form. IsRealBasis v.kind (dimension_in v.tables) (order_of q) (matrix_in q v.tables) cs (exact_rows k24_laws exact24 (basis_of form)))
      → IfOk r (λ form. AreMatricesIn z24_parts (dimension_in v.tables) (matrix_in q v.tables) (order_of q) (exact_rows k24_laws exact24 (basis_of form)) (entry_of k24_laws (action_of form)))
      → IfOk r (λ form. quotient_of form ≡ q) → IfOk r (λ form. (action_of form).dim ≡ real_dimension v.kind (dimension_in v.tables)) → IfOk r (λ form. (action_of form).dim ≤ 24)
      → IfOk r (IsFormFound q v cs)
  form-found (Ok form) b m e d f = record { basis = b; matrices = m; quotient = e; dim = d; few = f }
  form-found (Err x) b m e d f = tt

  pub form-cause : {T : Type 0} (r : Result T FormError)
      → (r ≡ Err form_error.NoRealBasis → (v.kind ≡ Real) × NoneOf (FitsNot (dimension_in v.tables) (order_of q) (matrix_in q v.tables)) cs)
      → ((f : ℕ) → r ≡ Err (form_error.Wide f)
      → ((f ≡ 1) × (v.kind ≡ Real) × IsWideSpans (dimension_in v.tables) (order_of q) (matrix_in q v.tables) cs)
      ⊎ ((f ≡ 2) × IsWideForm v.kind (dimension_in v.tables) (length q.translations) (length q.parent.ops) (matrix_in q v.tables) cs)) → IfErr r (IsFormCause q v cs)
  form-cause (Ok form) n w = tt
  form-cause (Err form_error.NoRealBasis) n w = n refl
  form-cause (Err (form_error.Wide f)) n w = w f refl
  form-cause (Err form_error.NoMemory) n w = tt

-- other vectors that are the same
pub found-moved : {E : Type 0} (q : SupercellGroup) (v : InducedView) (cs ds : List (ℕ → ExactZ24)) (r : Result RealForm E) → cs ≡ ds → IfOk r (IsFormFound q v cs) → IfOk r (IsFormFound q v ds)
found-moved q v cs ds r e h = subst (λ (zs : List (ℕ → ExactZ24)). IfOk r (IsFormFound q v zs)) e h

pub cause-moved : {T : Type 0} (q : SupercellGroup) (v : InducedView) (cs ds : List (ℕ → ExactZ24)) (r : Result T FormError) → cs ≡ ds → IfErr r (IsFormCause q v cs) → IfErr r (IsFormCause q v ds)
cause-moved q v cs ds r e h = subst (λ (zs : List (ℕ → ExactZ24)). IfErr r (IsFormCause q v zs)) e h
