-- The facts of an irrep's induced matrices.
use Rattle.std.proofs.Common.{◌≡◌, refl, sym, ap, ◌∙◌, subst, ℕ, inl, inr, ◌<◌, ◌≤◌, length, arith}
use Rattle.kstar.specs.Star.{WaveStar, IsStarOf}
use Rattle.super_group.specs.Quotient.{SupercellGroup, IsQuotient, order_of}
use Rattle.small_rep.specs.Rep.{matrices_of}
use Rattle.small_rep.specs.RepCheck.{CheckedView}
use Rattle.small_rep.specs.SmallRep.{Matrices, character_sum}
use Rattle.induce.specs.Induced.{dimension_of, indicator_sum}
use Rattle.induce.specs.InducedView.{InducedView, star_in, rep_in, IsInducedOf}
use Rattle.induce.specs.Kinds.{IsKind, real_dimension, HasTooMany}
use Rattle.induce.specs.Tables.{size_in, matrices_in, dimension_in}
use Rattle.induce.specs.Wide.{IsWideInduced}
use Rattle.iso_text.specs.declared.sections.IrrepText.{IrrepText}
use Rattle.report_steps.specs.declared.context.AcceptedRep.{AcceptedRep}
use Rattle.report_steps.specs.Held.{IsRepHeld, facts_in, IsInducedHeld}
use Rattle.report_steps.specs.IrrepReport.{AreFactsBy}
use Rattle.report_steps.specs.Irreps.{row_of_irrep, IsVectorOf, IsVectorCause, IsInducible, RefusesInduced, IsWideInducedRep}
use Rattle.report_steps.specs.Steps.{Answers, OrWide}
use Rattle.report_steps.specs.declared.refusal.Refusal.TheVariants as refusal
use Rattle.report_steps.specs.declared.step.Step.{Step}
use Rattle.report_steps.specs.declared.step.Step.TheVariants as step
use Rattle.report_steps.proofs.InducedUniqueLemmas.{kind-one}
use Rattle.report_steps.proofs.IrrepUniqueLemmas.{some-elements}

module _ (q : SupercellGroup) (i : IrrepText) (a : AcceptedRep) (held : IsRepHeld q i a) (v : InducedView) (of : IsInducedOf q v) (star : star_in v ≡ a.star) (rep : rep_in v ≡ a.rep)
    (real : v.real_dim ≡ real_dimension v.kind (dimension_in v.tables)) (few : v.real_dim ≤ 24) where
  size-is : size_in v.tables ≡ i.size
  size-is = ap (λ (c : CheckedView). c.rep.size) rep ∙ held.rep.size

  matrices-are : matrices_in v.tables ≡ matrices_of a.rep.rep
  matrices-are = ap (λ (c : CheckedView). matrices_of c.rep) rep

  dimension-is : dimension_in v.tables ≡ dimension_of a.star i.size
  dimension-is = λ t. dimension_of (star t) (size-is t)

  indicator-is : indicator_sum q v.tables.star (size_in v.tables) (matrices_in v.tables) ≡ indicator_sum q a.star i.size (matrices_of a.rep.rep)
  indicator-is = λ t. indicator_sum q (star t) (size-is t) (matrices-are t)

  kind-is : IsKind v.kind (indicator_sum q a.star i.size (matrices_of a.rep.rep)) (order_of q)
  kind-is = subst (λ x. IsKind v.kind x (order_of q)) indicator-is of.kind

  real-is : v.real_dim ≡ real_dimension v.kind (dimension_of a.star i.size)
  real-is = real ∙ ap (real_dimension v.kind) dimension-is

  quotient : IsQuotient q
  quotient = of.tables.inducible.on.quotient

  not_many : (n : ℕ) → HasTooMany q a.star i.size (matrices_of a.rep.rep) n → ⊥
  not_many n x =
      let k = kind-one x.kind v.kind (indicator_sum q a.star i.size (matrices_of a.rep.rep)) (order_of q) (some-elements q quotient) x.is_kind kind-is in
      let e : n ≡ v.real_dim = x.dimension ∙ ap (λ c. real_dimension c (dimension_of a.star i.size)) k ∙ sym real-is in
      let m : 24 < n = x.many in
      omega (arith, e, m, few)

  inducible : IsVectorOf (dimension_in v.tables) i.vector → IsInducible q i a.star (matrices_of a.rep.rep)
  inducible vector = record { rep = held.rep.rep; few = not_many; vector = subst (λ n. IsVectorOf n i.vector) dimension-is vector }

  sum-is : (facts_in v).sum ≡ character_sum a.star.little i.size (matrices_of a.rep.rep)
  sum-is = let little = ap (λ (c : CheckedView). c.rep.little) rep ∙ held.rep.of.little in λ t. character_sum (little t) (size-is t) (matrices-are t)

  facts-by : IsVectorOf (dimension_in v.tables) i.vector → AreFactsBy q i (facts_in v) a.star (matrices_of a.rep.rep)
  facts-by vector = record {
    inducible = inducible vector;
    by = ap (λ (s : WaveStar). s.by) star;
    little = ap (λ (s : WaveStar). length s.little) star;
    sum = sum-is;
    kind = kind-is;
    dim = real-is;
  }

  facts-induced : IsVectorOf (dimension_in v.tables) i.vector → IsInducedHeld q i v
  facts-induced vector = record {
    block = held.star.held.block;
    star = subst (IsStarOf q.parent (row_of_irrep i)) (sym star) held.star.held.star;
    of = of;
    size = size-is;
    inducible = (subst (λ (g : Matrices). IsInducible q i (star_in v) g) (sym matrices-are) (subst (λ (s : WaveStar). IsInducible q i s (matrices_of a.rep.rep)) (sym star) (inducible vector)));
    facts = (a.star, matrices_of a.rep.rep, facts-by vector);
  }

  -- a given vector fits, or is of another size
  pub fitted : (st : Step InducedView) → Answers (IsVectorCause (dimension_in v.tables) i.vector) (λ w. IsVectorOf (dimension_in v.tables) i.vector × (w ≡ v)) st
      → Answers (OrWide (RefusesInduced q) (IsWideInducedRep q) i) (IsInducedHeld q i) st
  fitted (step.Passed w) (vector, e) = subst (IsInducedHeld q i) (sym e) (facts-induced vector)
  fitted (step.Refused r) c = inl (a.star, matrices_of a.rep.rep, held.rep.rep, inr (not_many, subst (λ n. IsVectorCause n i.vector r) dimension-is c))

-- why nothing is induced
module _ (q : SupercellGroup) (i : IrrepText) (a : AcceptedRep) (held : IsRepHeld q i a) where
  pub too-many : (n : ℕ) → HasTooMany q a.star a.rep.rep.size (matrices_of a.rep.rep) n → OrWide (RefusesInduced q) (IsWideInducedRep q) i (refusal.TooManyDimensions i.name n)
  too-many n h = inl (a.star, matrices_of a.rep.rep, held.rep.rep, inl (n, subst (λ m. HasTooMany q a.star m (matrices_of a.rep.rep) n) held.rep.size h, refl))

  pub wide-induced : (k : ℕ) → (k ≡ 0) × IsWideInduced q a.star a.rep.rep.size (matrices_of a.rep.rep) → OrWide (RefusesInduced q) (IsWideInducedRep q) i (refusal.Wide k)
  wide-induced k (z, w) = inr (k, (a.star, matrices_of a.rep.rep, held.rep.rep, z, subst (λ m. IsWideInduced q a.star m (matrices_of a.rep.rep)) held.rep.size w), refl)
