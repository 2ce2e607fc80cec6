-- The irrep whose directions are listed: the one of a name, or else the first of the file.
--
-- IsFirstNamed name irreps i: i is the first of them with that name
-- HasNone wanted irreps: none has the wanted name; where none is named, there are none
-- IsWanted wanted irreps i: i is the wanted one
-- RefusesChoice wanted d r, IsChosen wanted d c: no such irrep; the irrep under the quotient
use Rattle.std.specs.Prelude.{◌≡◌, ◌≢◌, ◌⊎◌, ℕ, List, [], ◌∷◌, All, Option, Some, None, slice_get}
use Rattle.iso_text.specs.declared.sections.IrrepText.{IrrepText}
use Rattle.super_group.specs.Quotient.{SupercellGroup}
use Rattle.report_steps.specs.Contexts.{Divided}
use Rattle.list_report.specs.Contexts.{Chosen}
use Rattle.report_steps.specs.declared.refusal.Refusal.{Refusal}
use Rattle.report_steps.specs.declared.refusal.Refusal.TheVariants as refusal

-- the first of that name
abbrev pub IsFirstNamed : List ℕ → List IrrepText → IrrepText → Type 0
IsFirstNamed name [] i = ⊥
IsFirstNamed name (x ∷ xs) i = ((x.name ≡ name) × (i ≡ x)) ⊎ ((x.name ≢ name) × IsFirstNamed name xs i)

-- none has the name; or there are none
abbrev pub HasNone : Option (List ℕ) → List IrrepText → Type 0
HasNone None irreps = irreps ≡ []
HasNone (Some name) irreps = All (λ (i : IrrepText). i.name ≢ name) irreps

-- the one of the name; or the first
abbrev pub IsWanted : Option (List ℕ) → List IrrepText → IrrepText → Type 0
IsWanted None irreps i = slice_get irreps 0 ≡ Some i
IsWanted (Some name) irreps i = IsFirstNamed name irreps i

-- no such irrep
abbrev pub RefusesChoice : Option (List ℕ) → Divided → Refusal → Type 0
RefusesChoice wanted d r = HasNone wanted d.file.irreps × (r ≡ refusal.NoSuchIrrep wanted)

-- an irrep under a quotient
abbrev pub chosen_by : ℕ → SupercellGroup → IrrepText → Chosen
chosen_by format q i = record { format = format; quotient = q; irrep = i }

-- an irrep of a file, under its quotient
abbrev pub chosen_of : Divided → IrrepText → Chosen
chosen_of d i = chosen_by d.file.format d.quotient i

-- the irrep under the quotient
abbrev pub IsChosen : Option (List ℕ) → Divided → Chosen → Type 0
IsChosen wanted d c = IsWanted wanted d.file.irreps c.irrep × (c ≡ chosen_of d c.irrep)
