-- What is found behind the first irrep of a file, by its place.
use Rattle.std.proofs.Common.{◌≡◌, subst, refl, ℕ, List, None, Some, slice_get, Result, IfOk}
use Rattle.iso_text.specs.declared.sections.IrrepText.{IrrepText}
use Rattle.list_report.specs.Choice.{RefusesChoice, IsChosen, chosen_of}
use Rattle.list_report.specs.HeldListings.{IsPlaceOf}
use Rattle.report_steps.specs.Contexts.{Divided}
use Rattle.report_steps.specs.FindingLaws.{found-next}
use Rattle.report_steps.specs.Steps.{never}
use Rattle.report_steps.specs.declared.step.Step.{Step}
use Rattle.demo_report.specs.DemoFound.{AfterChoice, IsDemoFound}
use Rattle.demo_report.specs.FoundDemo.{summary_of, IsDemoHeld, FindsDemo}
use Rattle.demo_report.specs.declared.found.FoundDemo.{FoundDemo}

pub choice-next : {E : Type 0} (number : ℕ) (d : Divided) (irreps : List IrrepText) → irreps ≡ d.file.irreps → (k : ℕ) → IsPlaceOf None irreps k → (r : Result (Step FoundDemo) E)
    → ((i : IrrepText) → slice_get d.file.irreps k ≡ Some i → IfOk r (FindsDemo (AfterChoice number d (chosen_of d i)))) → IfOk r (FindsDemo (IsDemoFound number d))
choice-next number d irreps e k p r next =
    let h = subst (λ (xs : List IrrepText). IsPlaceOf None xs k) e p in
    found-next summary_of IsDemoHeld (RefusesChoice None) never (IsChosen None) (AfterChoice number d) d (chosen_of d h.0) (h.2, refl) r (next h.0 h.1)
