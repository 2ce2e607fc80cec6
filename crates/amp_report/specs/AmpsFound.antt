-- What `amps` finds in a file behind the steps that all jobs share.
--
-- Moded: a file with the orbits of its atoms, and the modes of each
-- IsBasisBy space q ws o b, HaveOrbitModesBy space d m: these are the orbits and their modes, where this space is that of their atoms
-- HaveOrbitModes d m: the same for displacements
-- AreWideNumbers each family m v k: finding the amplitudes of the numbers v of some orbit is wide, so many numbers an atom
-- IsToldBy each m v n told, HaveAmplitudesBy each m v all: what is told of the amplitudes of one orbit, and of all
-- matching_of d orbits: the listed lines of the file, to be matched with the atoms of the orbits
-- RefusesMatching m r, RefusesMatch m r: the cell or the line that is refused, or the atom that is missing
-- Shifted, HaveShifts m s: the file with the displacement of each atom
-- AreWideAmplitudes s k, HaveAmplitudes s all: a number of the amplitudes of some orbit is wide; what is told of the amplitudes of all orbits
-- AreAmpsFound d f: what is found
use Rattle.std.specs.Prelude.{◌≡◌, ℕ, suc, ◌+◌, ◌*◌, ℤ, pos, List, [], ◌∷◌, Some, length, slice_get, unwrap_or}
use Rattle.cyclo24.specs.ExactK24.{Exact24, k24, k24_laws}
use Rattle.super_group.specs.Quotient.{SupercellGroup}
use Rattle.wyckoff.specs.Orbit.{OrbitView}
use Rattle.distort_match.specs.Matches.{Matching}
use Rattle.distort_match.specs.Outcomes.{AreShiftsOf, IsMatchCause}
use Rattle.distort_match.specs.declared.errors.MatchError.TheVariants as match_error
use Rattle.mode_project.specs.Amplitudes.{AreAmplitudes, IsWideAmplitudes}
use Rattle.mode_project.specs.OrbitAmplitudes.{displacement_of}
use Rattle.mode_project.specs.AtomSpace.{AtomSpace, displacements}
use Rattle.mode_project.specs.Modes.{AreModes, all_modes, vector_at}
use Rattle.report_steps.specs.Contexts.{Divided}
use Rattle.report_steps.specs.Finding.{Finding, report}
use Rattle.report_steps.specs.IrrepSteps.{Each}
use Rattle.report_steps.specs.Steps.{After, never}
use Rattle.report_steps.specs.declared.refusal.Refusal.{Refusal}
use Rattle.report_steps.specs.declared.refusal.Refusal.TheVariants as refusal
use Rattle.mode_report.specs.AllModes.{told_modes}
use Rattle.mode_report.specs.Atoms.{RefusesAtoms, HaveOrbits}
use Rattle.mode_report.specs.Held.{placed_in}
use Rattle.mode_report.specs.IrrepWeights.{AreWeightsOf}
use Rattle.mode_report.specs.ModesFound.{AreWideAll}
use Rattle.amp_report.specs.AmpsReport.{OrbitAmplitudes, amps_text}

-- the orbits of the atoms of a file, and the modes of each: those of irreps, and the columns of the others
pub record Moded : Type 0 where
  pub divided : Divided
  pub orbits : List OrbitView
  pub bases : List (List (ℕ × (ℕ → Exact24)) × List ℕ)

abbrev pub IsBasisBy : (SupercellGroup → OrbitView → AtomSpace) → SupercellGroup → List (ℕ → Exact24) → OrbitView → List (ℕ × (ℕ → Exact24)) × List ℕ → Type 0
IsBasisBy space q ws o b = AreModes k24_laws (space q o) ws b.0 b.1

abbrev pub IsBasisOf : SupercellGroup → List (ℕ → Exact24) → OrbitView → List (ℕ × (ℕ → Exact24)) × List ℕ → Type 0
IsBasisOf = IsBasisBy displacements

pub record HaveOrbitModesBy (space : SupercellGroup → OrbitView → AtomSpace) (d : Divided) (m : Moded) : Type 0 where
  pub divided_is : m.divided ≡ d
  pub orbits : HaveOrbits d (placed_in d m.orbits)
  pub weights : List (ℕ → Exact24)
  pub weights_are : AreWeightsOf d.quotient d.file.irreps weights
  pub bases : Each (IsBasisBy space d.quotient weights) m.orbits m.bases

abbrev pub HaveOrbitModes : Divided → Moded → Type 0
HaveOrbitModes = HaveOrbitModesBy displacements

-- the listed lines, to be matched with the atoms of the orbits
abbrev pub matching_of : Divided → List OrbitView → Matching
matching_of d orbits = record {
  group = d.quotient;
  orbits = orbits;
  listed = d.file.listed;
  tolerance = unwrap_or d.file.tolerance (pos 0);
  cell = d.file.cell;
}

-- with the displacement of each atom
pub record Shifted : Type 0 where
  pub moded : Moded
  pub shifts : List (List (List ℤ))

abbrev pub RefusesMatching : Matching → Refusal → Type 0
RefusesMatching m (refusal.BadCell n) = IsMatchCause m (match_error.BadCell n)
RefusesMatching m (refusal.OffGrid n) = IsMatchCause m (match_error.OffGrid n)
RefusesMatching m (refusal.Unmatched n) = IsMatchCause m (match_error.Unmatched n)
RefusesMatching m (refusal.Ambiguous n) = IsMatchCause m (match_error.Ambiguous n)
RefusesMatching m (refusal.MissingAtom label place) = IsMatchCause m (match_error.MissingAtom label place)
RefusesMatching m _ = ⊥

abbrev pub RefusesMatch : Moded → Refusal → Type 0
RefusesMatch m = RefusesMatching (matching_of m.divided m.orbits)

abbrev pub HaveShifts : Moded → Shifted → Type 0
HaveShifts m s = (s.moded ≡ m) × AreShiftsOf (matching_of m.divided m.orbits) s.shifts

-- some orbit, its modes, and its number
pub record IsOrbitAt (m : Moded) (n : ℕ) (o : OrbitView) (b : List (ℕ × (ℕ → Exact24)) × List ℕ) : Type 0 where
  pub orbit : slice_get m.orbits n ≡ Some o
  pub basis : slice_get m.bases n ≡ Some b

-- the numbers of the atoms of an orbit, by column, have wide amplitudes
abbrev pub AreWideNumbers : ℕ → ℕ → Moded → (ℕ → ℕ → Exact24) → ℕ → Type 0
AreWideNumbers each family m v k =
    (n : ℕ) × ((o : OrbitView) × ((b : List (ℕ × (ℕ → Exact24)) × List ℕ) × IsOrbitAt m n o b
    × IsWideAmplitudes k24 (length o.places * each) b.0 b.1 (v n) × (k ≡ family)))

abbrev pub AreWideAmplitudes : Shifted → ℕ → Type 0
AreWideAmplitudes s = AreWideNumbers 3 6 s.moded (displacement_of s.shifts)

-- each mode's name with its amplitude, from mode m on
abbrev pub named_amplitudes : (ℕ → Exact24) → ℕ → List (List ℕ × (ℕ → Exact24)) → List (List ℕ × Exact24)
named_amplitudes a m [] = []
named_amplitudes a m (x ∷ xs) = (x.0, a m) ∷ named_amplitudes a (suc m) xs

-- what is told of orbit number n
pub record IsToldBy (each : ℕ) (m : Moded) (v : ℕ → ℕ → Exact24) (n : ℕ) (told : OrbitAmplitudes) : Type 0 where
  pub orbit : OrbitView
  pub basis : List (ℕ × (ℕ → Exact24)) × List ℕ
  pub is : IsOrbitAt m n orbit basis
  pub amplitudes : ℕ → Exact24
  pub are : AreAmplitudes k24_laws (length basis.0 + length basis.1) (vector_at k24_laws (all_modes k24_laws basis.0 basis.1)) (length orbit.places * each) (v n) amplitudes
  pub label_is : told.label ≡ orbit.label
  pub amplitudes_are : told.amplitudes ≡ named_amplitudes amplitudes 0 (told_modes m.divided.file.irreps basis.0 basis.1)

-- what is told of each orbit
pub record HaveAmplitudesBy (numbers : ℕ) (m : Moded) (v : ℕ → ℕ → Exact24) (all : List OrbitAmplitudes) : Type 0 where
  pub count : length all ≡ length m.orbits
  pub each : (n : ℕ) (told : OrbitAmplitudes) → slice_get all n ≡ Some told → IsToldBy numbers m v n told

abbrev pub IsToldOf : Shifted → ℕ → OrbitAmplitudes → Type 0
IsToldOf s = IsToldBy 3 s.moded (displacement_of s.shifts)

abbrev pub HaveAmplitudes : Shifted → List OrbitAmplitudes → Type 0
HaveAmplitudes s = HaveAmplitudesBy 3 s.moded (displacement_of s.shifts)

abbrev pub RefusesNone : Shifted → Refusal → Type 0
RefusesNone s r = ⊥

abbrev pub IsReported : ℕ → List OrbitAmplitudes → Finding → Type 0
IsReported format all f = f ≡ report (amps_text format all)

abbrev pub AfterShifts : ℕ → Shifted → Finding → Type 0
AfterShifts format = After RefusesNone AreWideAmplitudes HaveAmplitudes (IsReported format)

abbrev pub AfterModes : ℕ → Moded → Finding → Type 0
AfterModes format = After RefusesMatch never HaveShifts (AfterShifts format)

abbrev pub AreAmpsFound : Divided → Finding → Type 0
AreAmpsFound d f = After RefusesAtoms AreWideAll HaveOrbitModes (AfterModes d.file.format) d f
