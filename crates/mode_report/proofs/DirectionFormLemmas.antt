-- The real form of an irrep of a file, by its place.
use Rattle.std.proofs.Common.{◌≡◌, subst, refl, ℕ, List, Option, Some, slice_get, Result, IfOk}
use Rattle.iso_text.specs.declared.sections.IrrepText.{IrrepText}
use Rattle.list_report.specs.Choice.{RefusesChoice, IsChosen, chosen_of}
use Rattle.list_report.specs.HeldListings.{IsPlaceOf}
use Rattle.report_steps.specs.Contexts.{Divided}
use Rattle.report_steps.specs.FindingLaws.{found-next}
use Rattle.report_steps.specs.Steps.{never}
use Rattle.report_steps.specs.declared.step.Step.{Step}
use Rattle.mode_report.specs.DirectionFound.{AfterChoice, IsFoundAlong}
use Rattle.mode_report.specs.FoundAlong.{along_text, IsAlongHeld, FindsAlong}
use Rattle.mode_report.specs.declared.along.ModesAlong.{ModesAlong}

-- what is found behind the irrep at a place
pub choice-next : {E : Type 0} (wanted : Option (List ℕ)) (number : ℕ) (d : Divided) (irreps : List IrrepText) → irreps ≡ d.file.irreps → (k : ℕ) → IsPlaceOf wanted irreps k → (r : Result (Step ModesAlong) E)
    → ((i : IrrepText) → slice_get d.file.irreps k ≡ Some i → IfOk r (FindsAlong (AfterChoice d number (chosen_of d i)))) → IfOk r (FindsAlong (IsFoundAlong wanted number d))
choice-next wanted number d irreps e k p r next =
    let h = subst (λ (xs : List IrrepText). IsPlaceOf wanted xs k) e p in
    found-next along_text IsAlongHeld (RefusesChoice wanted) never (IsChosen wanted) (AfterChoice d number) d (chosen_of d h.0) (h.2, refl) r (next h.0 h.1)
