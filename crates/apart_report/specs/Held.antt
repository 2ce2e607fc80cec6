-- What the program holds of the pairs of irreps of a file.
--
-- number_pairs count: all pairs of numbers below count, the smaller one first
-- AreBelow count pairs: the numbers of these pairs are below count
-- held_weights f, weights_at ws j: the weights of the irreps of a file; those of irrep j
-- IsWidePair q ws p k, IsAnswer q ws p answer: a number of a pair is wide; whether the pair is apart
-- IsWideSomePair q ws pairs k: of some pair
-- told_in irreps pairs answers: what is told of pairs with these answers
use Rattle.std.specs.Prelude.{◌≡◌, ◌↔◌, ℕ, ◌<◌, Bool, true, List, [], ◌∷◌, All, Contains, map, slice_index_or}
use Rattle.std.specs.List.{range_with_len}
use Rattle.cyclo24.specs.ExactK24.{Exact24, k24, k24_laws}
use Rattle.iso_text.specs.declared.sections.IrrepText.{IrrepText}
use Rattle.super_group.specs.Quotient.{SupercellGroup, quotient_group}
use Rattle.induce.specs.Apart.{AreApart, weights_by}
use Rattle.char_orth.specs.Wide.{IsWideApart}
use Rattle.report_steps.specs.declared.context.InducedFile.{InducedFile}
use Rattle.mode_report.specs.AllModes.{name_at}
use Rattle.apart_report.specs.ApartFound.{pairs_of}
use Rattle.apart_report.specs.ApartReport.{ToldPair}

-- the smaller number first, by the first and then the second
abbrev pub number_pairs : ℕ → List (ℕ × ℕ)
number_pairs count = pairs_of (range_with_len 0 count)

abbrev pub AreBelow : ℕ → List (ℕ × ℕ) → Type 0
AreBelow count pairs = All (λ (p : ℕ × ℕ). (p.0 < count) × (p.1 < count)) pairs

abbrev pub held_weights : InducedFile → List (ℕ → Exact24)
held_weights f = map weights_by f.irreps.items

abbrev pub weights_at : List (ℕ → Exact24) → ℕ → ℕ → Exact24
weights_at ws j = slice_index_or ws j (λ e. k24_laws.nought)

abbrev pub IsWidePair : SupercellGroup → List (ℕ → Exact24) → ℕ × ℕ → ℕ → Type 0
IsWidePair q ws p k = IsWideApart k24 (quotient_group q) (weights_at ws p.0) (weights_at ws p.1) × (k ≡ 10)

abbrev pub IsAnswer : SupercellGroup → List (ℕ → Exact24) → ℕ × ℕ → Bool → Type 0
IsAnswer q ws p answer = (answer ≡ true) ↔ AreApart k24_laws (quotient_group q) (weights_at ws p.0) (weights_at ws p.1)

abbrev pub IsWideSomePair : SupercellGroup → List (ℕ → Exact24) → List (ℕ × ℕ) → ℕ → Type 0
IsWideSomePair q ws pairs k = (p : ℕ × ℕ) × Contains pairs p × IsWidePair q ws p k

-- an answer for each pair
abbrev pub told_in : List IrrepText → List (ℕ × ℕ) → List Bool → List ToldPair
told_in irreps [] answers = []
told_in irreps (p ∷ pairs) [] = []
told_in irreps (p ∷ pairs) (answer ∷ answers) = record { name = name_at irreps p.0; other = name_at irreps p.1; apart = answer } ∷ told_in irreps pairs answers
