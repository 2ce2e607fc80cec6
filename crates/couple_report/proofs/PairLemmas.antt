-- The two irreps that are taken together, and their real forms.
use Rattle.std.proofs.Common.{◌≡◌, refl, sym, subst, inl, inr, ℕ, List, Option, Some, Result, IfOk}
use Rattle.std.proofs.lemmas.Result.{IfOk-weaker}
use Rattle.iso_text.specs.declared.sections.IrrepText.{IrrepText}
use Rattle.real_form.specs.declared.form.RealForm.{RealForm}
use Rattle.report_steps.specs.Contexts.{Divided}
use Rattle.report_steps.specs.Steps.{Answers, OrWide}
use Rattle.report_steps.specs.declared.refusal.Refusal.{Refusal}
use Rattle.report_steps.specs.declared.refusal.Refusal.TheVariants as refusal
use Rattle.report_steps.specs.declared.step.Step.{Step}
use Rattle.report_steps.specs.declared.step.Step.TheVariants as step
use Rattle.list_report.specs.Choice.{HasNone, chosen_of}
use Rattle.list_report.specs.Contexts.{Formed}
use Rattle.list_report.specs.HeldListings.{IsPlaceOf, formed_by}
use Rattle.list_report.specs.RealForms.{RefusesForm, IsWideFormOf, IsFormed}
use Rattle.couple_report.specs.HeldPairs.{chosen_pair, ArePlaces, formed_pair}
use Rattle.couple_report.specs.Pairs.{ChosenPair, RefusesPair, ArePair, RefusesForms, AreWideForms, AreFormed}
use Rattle.couple_report.specs.declared.forms.FormPair.{FormPair}

module _ (wanted : Option (List ℕ)) (other : List ℕ) (d : Divided) (irreps : List IrrepText) (e : irreps ≡ d.file.irreps) where
  -- the first name has none
  pub first-none : HasNone wanted irreps → RefusesPair wanted other d (refusal.NoSuchIrrep wanted)
  first-none h = inl (subst (HasNone wanted) e h, refl)

  pub first-place : (k : ℕ) → IsPlaceOf wanted irreps k → IsPlaceOf wanted d.file.irreps k
  first-place k h = subst (λ (xs : List IrrepText). IsPlaceOf wanted xs k) e h

  module _ (k : ℕ) (first : IsPlaceOf wanted d.file.irreps k) where
    -- the other has none
    pub other-none : HasNone (Some other) irreps → RefusesPair wanted other d (refusal.NoSuchIrrep (Some other))
    other-none h = inr (chosen_of d first.0, (first.2, refl), (subst (HasNone (Some other)) e h, refl))

    pub both-places : (l : ℕ) → IsPlaceOf (Some other) irreps l → ArePlaces wanted other d (k, l)
    both-places l h = (first, subst (λ (xs : List IrrepText). IsPlaceOf (Some other) xs l) e h)

-- the irreps at two places are a pair
pub places-pair : (wanted : Option (List ℕ)) (other : List ℕ) (d : Divided) (k : ℕ × ℕ) (h : ArePlaces wanted other d k) → ArePair wanted other d (chosen_pair d h.0.0 h.1.0)
places-pair wanted other d k h = ((h.0.2, refl), (h.1.2, refl))

-- ---- the real forms

module _ (p : ChosenPair) where
  -- the first has none, or a number of it is wide
  pub left-wide : (r : Refusal) → OrWide RefusesForm IsWideFormOf p.left r → OrWide RefusesForms AreWideForms p r
  left-wide r (inl x) = inl (inl x)
  left-wide r (inr (k, w, e)) = inr (k, inl w, e)

  module _ (x : Formed) (left : IsFormed p.left x) where
    right-wide : (r : Refusal) → OrWide RefusesForm IsWideFormOf p.right r → OrWide RefusesForms AreWideForms p r
    right-wide r (inl y) = inl (inr (x, left, y))
    right-wide r (inr (k, w, e)) = inr (k, inr (x, left, w), e)

-- the answer at the second, behind the first
pub forms-answer : (p : ChosenPair) (form : RealForm) → IsFormed p.left (formed_by p.left form) → (s : Step FormPair)
    → Answers (OrWide RefusesForm IsWideFormOf p.right) (λ f. (f.left ≡ form) × IsFormed p.right (formed_by p.right f.right)) s
    → Answers (OrWide RefusesForms AreWideForms p) (λ f. AreFormed p (formed_pair p f)) s
forms-answer p form left (step.Passed f) h = (subst (λ (x : RealForm). IsFormed p.left (formed_by p.left x)) (sym h.0) left, h.1)
forms-answer p form left (step.Refused r) h = right-wide p (formed_by p.left form) left r h

pub forms-answers : {E : Type 0} (p : ChosenPair) (form : RealForm) → IsFormed p.left (formed_by p.left form) → (r : Result (Step FormPair) E)
    → IfOk r (λ s. Answers (OrWide RefusesForm IsWideFormOf p.right) (λ f. (f.left ≡ form) × IsFormed p.right (formed_by p.right f.right)) s)
    → IfOk r (λ s. Answers (OrWide RefusesForms AreWideForms p) (λ f. AreFormed p (formed_pair p f)) s)
forms-answers p form left r h = IfOk-weaker r _ _ (forms-answer p form left) h
