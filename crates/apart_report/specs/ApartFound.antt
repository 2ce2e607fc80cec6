-- What `apart` finds behind the steps that all jobs share.
--
-- weighted irreps ws: each irrep with its weights; pairs_of xs: all pairs of a list, the earlier one first, by the first and then the second
-- IsToldOf q pair t: what is told of a pair
-- AreWidePairs d k, ArePairsTold d told: a number of some pair is wide; what is told of all pairs
-- AreApartFound d f: what is found
use Rattle.std.specs.Prelude.{◌≡◌, ◌↔◌, ℕ, true, List, [], ◌∷◌, ◌++◌, Contains, map}
use Rattle.cyclo24.specs.ExactK24.{Exact24, k24, k24_laws}
use Rattle.iso_text.specs.declared.sections.IrrepText.{IrrepText}
use Rattle.super_group.specs.Quotient.{SupercellGroup, quotient_group}
use Rattle.induce.specs.Apart.{AreApart}
use Rattle.char_orth.specs.Wide.{IsWideApart}
use Rattle.report_steps.specs.Contexts.{Divided}
use Rattle.report_steps.specs.Finding.{Finding, report}
use Rattle.report_steps.specs.IrrepSteps.{Each}
use Rattle.report_steps.specs.Steps.{After}
use Rattle.report_steps.specs.declared.refusal.Refusal.{Refusal}
use Rattle.mode_report.specs.IrrepWeights.{AreWeightsOf}
use Rattle.apart_report.specs.ApartReport.{ToldPair, apart_text}

abbrev pub Weighted : Type 0
Weighted = IrrepText × (ℕ → Exact24)

-- each irrep with its weights
abbrev pub weighted : List IrrepText → List (ℕ → Exact24) → List Weighted
weighted [] ws = []
weighted (i ∷ irreps) [] = []
weighted (i ∷ irreps) (w ∷ ws) = (i, w) ∷ weighted irreps ws

abbrev pub pairs_of : {A : Type 0} → List A → List (A × A)
pairs_of [] = []
pairs_of (x ∷ xs) = map (λ y. (x, y)) xs ++ pairs_of xs

-- apart exactly where their weights are
pub record IsToldOf (q : SupercellGroup) (pair : Weighted × Weighted) (t : ToldPair) : Type 0 where
  pub name_is : t.name ≡ pair.0.0.name
  pub other_is : t.other ≡ pair.1.0.name
  pub apart : (t.apart ≡ true) ↔ AreApart k24_laws (quotient_group q) pair.0.1 pair.1.1

-- no pair is refused
abbrev pub RefusesNone : Divided → Refusal → Type 0
RefusesNone d r = ⊥

abbrev pub AreWidePairs : Divided → ℕ → Type 0
AreWidePairs d k =
    (k ≡ 10) × ((ws : List (ℕ → Exact24)) × AreWeightsOf d.quotient d.file.irreps ws
    × ((pair : Weighted × Weighted) × Contains (pairs_of (weighted d.file.irreps ws)) pair × IsWideApart k24 (quotient_group d.quotient) pair.0.1 pair.1.1))

-- what is told of all pairs, in file order
abbrev pub ArePairsTold : Divided → List ToldPair → Type 0
ArePairsTold d told =
    (ws : List (ℕ → Exact24)) × AreWeightsOf d.quotient d.file.irreps ws × Each (IsToldOf d.quotient) (pairs_of (weighted d.file.irreps ws)) told

abbrev pub IsReported : ℕ → List ToldPair → Finding → Type 0
IsReported format told f = f ≡ report (apart_text format told)

abbrev pub AreApartFound : Divided → Finding → Type 0
AreApartFound d f = After RefusesNone AreWidePairs ArePairsTold (IsReported d.file.format) d f
