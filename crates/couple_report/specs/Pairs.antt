-- The two irreps of a file that are taken together, and their real forms.
--
-- ChosenPair: two irreps of the file under the quotient
-- RefusesPair wanted other d r, ArePair wanted other d p: no irrep of the wanted name, or then of the other; the two irreps
-- FormedPair: with the quotient acting by real matrices of each
-- RefusesForms p r, AreWideForms p k, AreFormed p x: no real basis of the one, or then of the other; a number of one is wide; both real forms
use Rattle.std.specs.Prelude.{◌⊎◌, ℕ, List, Option, Some}
use Rattle.report_steps.specs.Contexts.{Divided}
use Rattle.report_steps.specs.declared.refusal.Refusal.{Refusal}
use Rattle.list_report.specs.Choice.{RefusesChoice, IsChosen}
use Rattle.list_report.specs.Contexts.{Chosen, Formed}
use Rattle.list_report.specs.RealForms.{RefusesForm, IsWideFormOf, IsFormed}

-- one irrep may be both
pub record ChosenPair : Type 0 where
  pub left : Chosen
  pub right : Chosen

-- no irrep of the wanted name, or then of the other
abbrev pub RefusesPair : Option (List ℕ) → List ℕ → Divided → Refusal → Type 0
RefusesPair wanted other d r = RefusesChoice wanted d r ⊎ ((c : Chosen) × IsChosen wanted d c × RefusesChoice (Some other) d r)

abbrev pub ArePair : Option (List ℕ) → List ℕ → Divided → ChosenPair → Type 0
ArePair wanted other d p = IsChosen wanted d p.left × IsChosen (Some other) d p.right

pub record FormedPair : Type 0 where
  pub left : Formed
  pub right : Formed

-- no real basis of the one, or then of the other
abbrev pub RefusesForms : ChosenPair → Refusal → Type 0
RefusesForms p r = RefusesForm p.left r ⊎ ((x : Formed) × IsFormed p.left x × RefusesForm p.right r)

abbrev pub AreWideForms : ChosenPair → ℕ → Type 0
AreWideForms p k = IsWideFormOf p.left k ⊎ ((x : Formed) × IsFormed p.left x × IsWideFormOf p.right k)

abbrev pub AreFormed : ChosenPair → FormedPair → Type 0
AreFormed p x = IsFormed p.left x.left × IsFormed p.right x.right
