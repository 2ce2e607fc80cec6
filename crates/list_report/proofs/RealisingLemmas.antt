-- The real form of an irrep, by that of what the program holds.
use Rattle.std.proofs.Common.{◌≡◌, refl, sym, ap, ◌∙◌, subst, inl, inr, ℕ, ◌⊎◌, List, length}
use Rattle.cyclo24.specs.K24.{exact24}
use Rattle.cyclo24.specs.ExactK24.{Exact24, k24_laws}
use Rattle.lin_alg.specs.Rows.{exact_rows}
use Rattle.iso_text.specs.declared.sections.IrrepText.{IrrepText}
use Rattle.super_group.specs.Quotient.{SupercellGroup, order_of, quotient_group, generators_of}
use Rattle.small_rep.specs.SmallRep.{Matrices}
use Rattle.induce.specs.Induced.{dimension_of, indicator_sum, induced_of}
use Rattle.induce.specs.InducedView.{InducedView, star_in}
use Rattle.induce.specs.Kinds.{IsKind}
use Rattle.induce.specs.Tables.{matrices_in, dimension_in, matrix_in}
use Rattle.induce.specs.declared.kinds.Kind.TheVariants.{Real}
use Rattle.real_form.specs.Held.{generator_of}
use Rattle.real_form.specs.Orbits.{NoneOf}
use Rattle.real_form.specs.RealBasis.{IsRealBasis, FitsNot, IsWideSpans, IsWideForm}
use Rattle.real_form.specs.RealForm.{basis_of, action_of, action_of-lawful}
use Rattle.real_form.specs.declared.form.RealForm.{RealForm}
use Rattle.real_form.specs.declared.errors.FormError.TheVariants as form_error
use Rattle.lin_alg.specs.Action.{entry_of}
use Rattle.real_form.specs.Bases.{AreMatricesIn}
use Rattle.real_form.specs.Complexes.{z24_parts}
use Rattle.list_report.proofs.RealFormLemmas.{basis-length}
use Rattle.list_report.specs.Choice.{chosen_by}
use Rattle.list_report.specs.Contexts.{Chosen}
use Rattle.report_steps.specs.Held.{IsInducedHeld}
use Rattle.list_report.specs.HeldForms.{IsFormFound, IsFormCause}
use Rattle.list_report.specs.HeldListings.{formed_by}
use Rattle.list_report.specs.RealForms.{tried_of, IsOfKind, IsRealForm, RefusesForm, IsWideFormOf, IsFormed}
use Rattle.report_steps.specs.Steps.{OrWide}
use Rattle.report_steps.specs.declared.refusal.Refusal.TheVariants as refusal

module _ (format : ℕ) (q : SupercellGroup) (i : IrrepText) (v : InducedView) (h : IsInducedHeld q i v) where
  abbrev c : Chosen
  c = chosen_by format q i

  abbrev g : Matrices
  g = matrices_in v.tables

  -- what is held has the size of the irrep
  dimension-is : dimension_in v.tables ≡ dimension_of (star_in v) i.size
  dimension-is = ap (dimension_of (star_in v)) h.size

  matrix-is : matrix_in q v.tables ≡ induced_of q (star_in v) i.size g
  matrix-is = ap (λ n. induced_of q (star_in v) n g) h.size

  of-kind : IsOfKind c (star_in v) g v.kind
  of-kind = record { inducible = h.inducible; kind_is = subst (λ n. IsKind v.kind (indicator_sum q (star_in v) n g) (order_of q)) h.size h.of.kind }

  module _ (form : RealForm) (f : IsFormFound q v (tried_of (dimension_in v.tables) i.vector) form) where
    abbrev rows : List (ℕ × (ℕ → Exact24))
    rows = exact_rows k24_laws exact24 (basis_of form)

    basis : IsRealBasis v.kind (dimension_of (star_in v) i.size) (order_of q) (induced_of q (star_in v) i.size g) (tried_of (dimension_of (star_in v) i.size) i.vector) rows
    basis = subst (λ n. IsRealBasis v.kind (dimension_of (star_in v) n) (order_of q) (induced_of q (star_in v) n g) (tried_of (dimension_of (star_in v) n) i.vector) rows) h.size f.basis

    is-real-form : IsRealForm c (formed_by c form) (star_in v) g v.kind rows
    is-real-form = record {
      of_kind = of-kind;
      basis = basis;
      matrices = subst (λ n. AreMatricesIn z24_parts (dimension_of (star_in v) n) (induced_of q (star_in v) n g) (order_of q) rows (entry_of k24_laws (action_of form))) h.size f.matrices;
      dim = f.dim ∙ sym (basis-length v.kind i.vector (order_of q) (dimension_in v.tables) (matrix_in q v.tables) rows f.basis);
      group = ap quotient_group f.quotient;
      generators = ap (λ (s : SupercellGroup). length (generators_of s)) f.quotient;
      generator = ap generator_of f.quotient;
      lawful = action_of-lawful form;
    }

    pub is-formed : IsFormed c (formed_by c form)
    is-formed = record { star = star_in v; small = g; kind = v.kind; rows = rows; form = is-real-form; format_is = refl; quotient_is = refl; name_is = refl }

  -- no real basis
  pub no-basis : IsFormCause q v (tried_of (dimension_in v.tables) i.vector) form_error.NoRealBasis → OrWide RefusesForm IsWideFormOf c (refusal.NoRealBasis i.name)
  no-basis (e, none) = inl (
    star_in v,
    g,
    subst (λ k. IsOfKind c (star_in v) g k) e of-kind,
    subst (λ n. NoneOf (FitsNot (dimension_of (star_in v) n) (order_of q) (induced_of q (star_in v) n g)) (tried_of (dimension_of (star_in v) n) i.vector)) h.size none,
    refl,
  )

  abbrev WideKind : ℕ → ℕ → Type 0
  WideKind k n =
      ((k ≡ 1) × (v.kind ≡ Real) × IsWideSpans (dimension_of (star_in v) n) (order_of q) (induced_of q (star_in v) n g) (tried_of (dimension_of (star_in v) n) i.vector))
      ⊎ ((k ≡ 2) × IsWideForm v.kind (dimension_of (star_in v) n) (length q.translations) (length q.parent.ops) (induced_of q (star_in v) n g) (tried_of (dimension_of (star_in v) n) i.vector))

  -- a number of the spans or of the matrices
  pub wide-form : (k : ℕ) → IsFormCause q v (tried_of (dimension_in v.tables) i.vector) (form_error.Wide k) → OrWide RefusesForm IsWideFormOf c (refusal.Wide k)
  wide-form k w = inr (
    k,
    (
      star_in v,
      g,
      v.kind,
      of-kind,
      subst (WideKind k) h.size w,
    ),
    refl,
  )
