-- What `occ-amps` and `axial-amps` find in a file behind the steps that all jobs share.
--
-- lines_of nature f: the lines of a file that give amounts of this nature
-- naming_in nature d orbits: these lines, which name atoms of the orbits
-- RefusesLines g r, RefusesGathering nature m r: the line that is refused
-- Gathered, HaveAmounts nature m s: the file with the amounts of the atoms
-- AreWideExtraAmps nature s k, HaveExtraAmps nature s all: a number of the amplitudes of some orbit is wide; what is told of the amplitudes of all orbits
-- AreSolvable all amounts: there are amounts for the modes of each orbit
-- AreExtraAmpsFound nature d f: what is found
use Rattle.std.specs.Prelude.{◌≡◌, ℕ, ◌<◌, ◌*◌, List, [], Some, length, map, slice_get, slice_index_or}
use Rattle.iso_text.specs.FileValue.{File}
use Rattle.wyckoff.specs.Orbit.{OrbitView}
use Rattle.mode_project.specs.ModesView.{ModesView}
use Rattle.mode_project.specs.OrbitAmplitudes.{AreModesOfSome}
use Rattle.extra_modes.specs.Amounts.{Naming, AmountsView, AreAmounts, IsGatherCause, value_line, axial_line, naming_of}
use Rattle.extra_modes.specs.ExtraAmplitudes.{amounts_of}
use Rattle.extra_modes.specs.ExtraSpace.{extra_space}
use Rattle.extra_modes.specs.declared.amount_lines.AmountLine.{AmountLine}
use Rattle.extra_modes.specs.declared.errors.ExtraError.TheVariants as extra_error
use Rattle.extra_modes.specs.declared.nature.Nature.{Nature}
use Rattle.extra_modes.specs.declared.nature.Nature.TheVariants.{Occupation, Axial}
use Rattle.report_steps.specs.Contexts.{Divided}
use Rattle.report_steps.specs.Finding.{Finding, report}
use Rattle.report_steps.specs.Steps.{After, never}
use Rattle.report_steps.specs.declared.refusal.Refusal.{Refusal}
use Rattle.report_steps.specs.declared.refusal.Refusal.TheVariants as refusal
use Rattle.mode_report.specs.Atoms.{RefusesAtoms}
use Rattle.mode_report.specs.Held.{RefusesNothing}
use Rattle.mode_report.specs.ModesFound.{AreWideAllBy}
use Rattle.mode_report.specs.ModesReport.{each_of}
use Rattle.amp_report.specs.AmpsFound.{Moded, HaveOrbitModesBy, AreWideNumbers, HaveAmplitudesBy}
use Rattle.amp_report.specs.AmpsReport.{OrbitAmplitudes}
use Rattle.extra_report.specs.ExtraReport.{entries_of, extra_amps_text}

abbrev pub lines_of : Nature → File → List AmountLine
lines_of Occupation f = map value_line f.values
lines_of Axial f = map axial_line f.axials

abbrev pub naming_in : Nature → Divided → List OrbitView → Naming
naming_in nature d orbits = naming_of d.quotient orbits (lines_of nature d.file)

abbrev pub RefusesLines : Naming → Refusal → Type 0
RefusesLines g (refusal.Unmatched n) = IsGatherCause g (extra_error.Unmatched n)
RefusesLines g (refusal.Ambiguous n) = IsGatherCause g (extra_error.Ambiguous n)
RefusesLines g _ = ⊥

abbrev pub RefusesGathering : Nature → Moded → Refusal → Type 0
RefusesGathering nature m = RefusesLines (naming_in nature m.divided m.orbits)

-- with the amounts of the atoms
pub record Gathered : Type 0 where
  pub moded : Moded
  pub amounts : AmountsView

abbrev pub HaveAmounts : Nature → Moded → Gathered → Type 0
HaveAmounts nature m s = (s.moded ≡ m) × AreAmounts (naming_in nature m.divided m.orbits) (each_of (entries_of nature)) s.amounts

-- the numbers of amplitudes are family 9
abbrev pub AreWideExtraAmps : Nature → Gathered → ℕ → Type 0
AreWideExtraAmps nature s = AreWideNumbers (each_of (entries_of nature)) 9 s.moded (amounts_of s.amounts)

abbrev pub HaveExtraAmps : Nature → Gathered → List OrbitAmplitudes → Type 0
HaveExtraAmps nature s = HaveAmplitudesBy (each_of (entries_of nature)) s.moded (amounts_of s.amounts)

-- so many amounts for each atom
pub record AreSolvable (all : List ModesView) (amounts : AmountsView) : Type 0 where
  pub below : (n : ℕ) (m : ModesView) → slice_get all n ≡ Some m → n < length amounts.atoms
  pub atoms : (n : ℕ) (m : ModesView) → slice_get all n ≡ Some m → length (slice_index_or amounts.atoms n []) * amounts.each ≡ m.size
  pub modes : (n : ℕ) (m : ModesView) → slice_get all n ≡ Some m → AreModesOfSome m

abbrev pub IsAmpsReported : Nature → ℕ → List OrbitAmplitudes → Finding → Type 0
IsAmpsReported nature format all f = f ≡ report (extra_amps_text nature format all)

abbrev pub AfterAmounts : Nature → ℕ → Gathered → Finding → Type 0
AfterAmounts nature format = After RefusesNothing (AreWideExtraAmps nature) (HaveExtraAmps nature) (IsAmpsReported nature format)

abbrev pub AfterModes : Nature → ℕ → Moded → Finding → Type 0
AfterModes nature format = After (RefusesGathering nature) never (HaveAmounts nature) (AfterAmounts nature format)

abbrev pub AreExtraAmpsFound : Nature → Divided → Finding → Type 0
AreExtraAmpsFound nature d f =
    After RefusesAtoms (AreWideAllBy (extra_space nature) 8) (HaveOrbitModesBy (extra_space nature)) (AfterModes nature d.file.format) d f
