-- What is found for a generated file is one.
use Rattle.std.proofs.Common.{◌≡◌, sym, ap, ◌∙◌, subst, ℕ, None}
use Rattle.super_group.specs.Quotient.{IsQuotient}
use Rattle.list_report.specs.Choice.{RefusesChoice, IsChosen}
use Rattle.list_report.specs.Closing.{RefusesSubspaces, AreWideSubspaces, AreFew, RefusesNone, AreWideClasses, IsListed}
use Rattle.list_report.specs.Contexts.{Chosen, Formed, Listed}
use Rattle.list_report.specs.RealForms.{RefusesForm, IsWideFormOf, IsFormed}
use Rattle.list_report.specs.TwinLaws.{AreTwins}
use Rattle.report_steps.specs.Contexts.{Divided}
use Rattle.report_steps.specs.StepLaws.{IsSingleAt, FindsOneAt, After-single-at, IsSingleFor, FindsOneFor, After-single-for}
use Rattle.report_steps.specs.Steps.{never}
use Rattle.mode_report.specs.Atoms.{RefusesAtoms}
use Rattle.mode_report.specs.ModesFound.{AreWideAll, AreToldOf}
use Rattle.demo_report.specs.DemoFound.{IsReported, AfterClasses, AfterSubspaces, AfterForm, AfterChoice, IsDemoFound}

module _ (d : Divided) (number : ℕ) (told : IsSingleAt RefusesAtoms AreToldOf d) where
  classes-one : (l : Listed) → FindsOneAt (AfterClasses number d) l
  classes-one l = After-single-at RefusesAtoms AreWideAll AreToldOf (IsReported number d l) d told (λ t w f g e k u v. e ∙ sym k)

  module _ (single : (x y : Formed) → AreTwins x y → IsSingleFor RefusesSubspaces AreFew x y) (listed : (x y : Formed) → AreTwins x y → (l m : Listed) → IsListed x l → IsListed y m → l ≡ m) where
    module _ (x y : Formed) (w : AreTwins x y) where
      listing-one : FindsOneFor (AfterSubspaces number d) x y
      listing-one =
          After-single-for RefusesNone AreWideClasses IsListed (AfterClasses number d) x y (record { refusal = λ r s p q. absurd p; first = λ r c p q. absurd p; second = λ r c p q. absurd q })
          (λ l m a b.
          let P : Listed → Type 0 = λ z. FindsOneFor (AfterClasses number d) z m in
          subst P (sym (listed x y w l m a b)) (classes-one m))

      form-one : FindsOneFor (AfterForm number d) x y
      form-one =
          After-single-for RefusesSubspaces AreWideSubspaces AreFew (AfterSubspaces number d) x y (single x y w)
          (λ c e p q.
          let P : Formed → Type 0 = λ z. FindsOneFor (AfterSubspaces number d) z e in
          let Q : Formed → Type 0 = λ z. FindsOneFor (AfterSubspaces number d) x z in
          subst P (sym p.1) (subst Q (sym q.1) listing-one))

    module _ (forms : (c : Chosen) → IsQuotient c.quotient → IsSingleFor RefusesForm IsFormed c c) (twins : (c : Chosen) → IsQuotient c.quotient → (x y : Formed) → IsFormed c x → IsFormed c y → AreTwins x y) where
      choice-one : (c : Chosen) → IsQuotient c.quotient → FindsOneAt (AfterChoice number d) c
      choice-one c h = After-single-for RefusesForm IsWideFormOf IsFormed (AfterForm number d) c c (forms c h) (λ x y a b. form-one x y (twins c h x y a b))

      pub demo-one : IsSingleAt (RefusesChoice None) (IsChosen None) d → IsQuotient d.quotient → FindsOneAt (IsDemoFound number) d
      demo-one choice h =
          After-single-at (RefusesChoice None) never (IsChosen None) (AfterChoice number d) d choice
          (λ c w.
          let e = ap (λ (x : Chosen). x.quotient) w.1 in
          choice-one c (subst IsQuotient (sym e) h))
