-- The weights of the irreps of a file, by which displacements are projected.
--
-- IsWeightOf q i w: w is the weight of what irrep i induces, at each element: its character plus the conjugate
-- AreWeightsOf q irreps ws: one for each irrep, in file order
use Rattle.std.specs.Prelude.{◌≡◌, ℕ, ◌<◌, ◌≤◌, List}
use Rattle.cyclo24.specs.ExactK24.{Exact24, k24_laws}
use Rattle.iso_text.specs.declared.sections.IrrepText.{IrrepText}
use Rattle.kstar.specs.Star.{WaveStar}
use Rattle.super_group.specs.Quotient.{SupercellGroup, order_of}
use Rattle.small_rep.specs.SmallRep.{Matrices}
use Rattle.induce.specs.Induced.{weight_at}
use Rattle.report_steps.specs.Irreps.{IsInducible}
use Rattle.report_steps.specs.IrrepSteps.{Each}

-- by a star and the matrices of a small representation; 0 past the elements
pub record IsWeightBy (q : SupercellGroup) (i : IrrepText) (s : WaveStar) (g : Matrices) (w : ℕ → Exact24) : Type 0 where
  pub inducible : IsInducible q i s g
  pub inside : (e : ℕ) → e < order_of q → w e ≡ weight_at q s i.size g e
  pub past : (e : ℕ) → order_of q ≤ e → w e ≡ k24_laws.nought

abbrev pub IsWeightOf : SupercellGroup → IrrepText → (ℕ → Exact24) → Type 0
IsWeightOf q i w = (s : WaveStar) × (g : Matrices) × IsWeightBy q i s g w

abbrev pub AreWeightsOf : SupercellGroup → List IrrepText → List (ℕ → Exact24) → Type 0
AreWeightsOf q = Each (IsWeightOf q)
