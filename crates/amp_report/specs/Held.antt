-- What the program holds of the amplitudes of the orbits of a file.
--
-- basis_in m: the modes of an orbit, and the columns of the others
-- moded_in d orbits all, shifted_in d orbits all shifts: a file with these orbits and modes; with displacements
-- AreModesHeldBy space each d orbits all: they are the orbits and the modes of the file, where this space is that of their atoms
-- AreModesHeld d orbits all: the same for displacements
-- AreSolvable all shifts: there are displacements for the modes of each orbit
-- IsWideRowBy family v n m k, IsRowBy v n m a: the amplitudes of the numbers v of orbit n
-- IsWideSomeRowBy family all v k, AreRowsBy all v n rows: those of some orbit; of the first n orbits
-- IsWideRow, IsRowOf, IsWideSomeRow, AreRowsOf: the same for displacements
-- names_of irreps m: the names of the modes of an orbit
-- HasRow m a: there is a number for each mode
-- told_of irreps o m a, told_in irreps orbits all rows: what is told of an orbit with these; of all orbits
use Rattle.std.specs.Prelude.{◌≡◌, ℕ, ◌*◌, ◌<◌, ℤ, List, [], ◌∷◌, Some, length, map, slice_get, slice_index_or}
use Rattle.cyclo24.specs.declared.k24.K24.{K24}
use Rattle.cyclo24.specs.ExactK24.{Exact24, k24, k24_laws}
use Rattle.cyclo24.specs.K24.{exact24}
use Rattle.iso_text.specs.declared.sections.IrrepText.{IrrepText}
use Rattle.lin_alg.specs.Rows.{vector}
use Rattle.super_group.specs.Quotient.{SupercellGroup}
use Rattle.wyckoff.specs.Orbit.{OrbitView}
use Rattle.mode_project.specs.Amplitudes.{AreAmplitudes, IsWideAmplitudes}
use Rattle.mode_project.specs.AtomSpace.{AtomSpace, displacements}
use Rattle.mode_project.specs.ModesView.{ModesView, irrep_modes_in, count_in, mode_in}
use Rattle.mode_project.specs.OrbitAmplitudes.{displacement_of, AreModesOfSome}
use Rattle.report_steps.specs.Contexts.{Divided}
use Rattle.report_steps.specs.IrrepSteps.{Each}
use Rattle.mode_report.specs.AllModes.{told_modes}
use Rattle.mode_report.specs.Held.{HasSizeBy}
use Rattle.amp_report.specs.AmpsFound.{Moded, HaveOrbitModesBy, Shifted, named_amplitudes}
use Rattle.amp_report.specs.AmpsReport.{OrbitAmplitudes}

abbrev pub basis_in : ModesView → List (ℕ × (ℕ → Exact24)) × List ℕ
basis_in m = (irrep_modes_in m, m.sites)

abbrev pub moded_in : Divided → List OrbitView → List ModesView → Moded
moded_in d orbits all = record { divided = d; orbits = orbits; bases = map basis_in all }

abbrev pub shifted_in : Divided → List OrbitView → List ModesView → List (List (List ℤ)) → Shifted
shifted_in d orbits all shifts = record { moded = moded_in d orbits all; shifts = shifts }

abbrev pub AreModesHeldBy : (SupercellGroup → OrbitView → AtomSpace) → ℕ → Divided → List OrbitView → List ModesView → Type 0
AreModesHeldBy space each d orbits all = HaveOrbitModesBy space d (moded_in d orbits all) × Each (HasSizeBy each) orbits all

abbrev pub AreModesHeld : Divided → List OrbitView → List ModesView → Type 0
AreModesHeld = AreModesHeldBy displacements 3

-- three numbers for each atom
pub record AreSolvable (all : List ModesView) (shifts : List (List (List ℤ))) : Type 0 where
  pub below : (n : ℕ) (m : ModesView) → slice_get all n ≡ Some m → n < length shifts
  pub atoms : (n : ℕ) (m : ModesView) → slice_get all n ≡ Some m → 3 * length (slice_index_or shifts n []) ≡ m.size
  pub modes : (n : ℕ) (m : ModesView) → slice_get all n ≡ Some m → AreModesOfSome m

abbrev pub IsWideRowBy : ℕ → (ℕ → ℕ → Exact24) → ℕ → ModesView → ℕ → Type 0
IsWideRowBy family v n m k = IsWideAmplitudes k24 m.size (irrep_modes_in m) m.sites (v n) × (k ≡ family)

abbrev pub IsWideRow : List (List (List ℤ)) → ℕ → ModesView → ℕ → Type 0
IsWideRow shifts = IsWideRowBy 6 (displacement_of shifts)

-- the amplitudes of the modes of an orbit
pub record IsRowBy (v : ℕ → ℕ → Exact24) (n : ℕ) (m : ModesView) (a : List K24) : Type 0 where
  pub count : length a ≡ count_in m
  pub are : AreAmplitudes k24_laws (count_in m) (mode_in m) m.size (v n) (vector k24_laws exact24 a)

abbrev pub IsRowOf : List (List (List ℤ)) → ℕ → ModesView → List K24 → Type 0
IsRowOf shifts = IsRowBy (displacement_of shifts)

abbrev pub IsWideSomeRowBy : ℕ → List ModesView → (ℕ → ℕ → Exact24) → ℕ → Type 0
IsWideSomeRowBy family all v k = (n : ℕ) × (m : ModesView) × (slice_get all n ≡ Some m) × IsWideRowBy family v n m k

abbrev pub IsWideSomeRow : List ModesView → List (List (List ℤ)) → ℕ → Type 0
IsWideSomeRow all shifts = IsWideSomeRowBy 6 all (displacement_of shifts)

-- those of the first n orbits
pub record AreRowsBy (all : List ModesView) (v : ℕ → ℕ → Exact24) (n : ℕ) (rows : List (List K24)) : Type 0 where
  pub count : length rows ≡ n
  pub each : (i : ℕ) (m : ModesView) (a : List K24) → slice_get all i ≡ Some m → slice_get rows i ≡ Some a → IsRowBy v i m a

abbrev pub AreRowsOf : List ModesView → List (List (List ℤ)) → ℕ → List (List K24) → Type 0
AreRowsOf all shifts = AreRowsBy all (displacement_of shifts)

abbrev pub names_of : List IrrepText → ModesView → List (List ℕ)
names_of irreps m = map (λ x. x.0) (told_modes irreps (irrep_modes_in m) m.sites)

-- a number for each mode
abbrev pub HasRow : ModesView → List K24 → Type 0
HasRow m a = length a ≡ count_in m

abbrev pub told_of : List IrrepText → OrbitView → ModesView → List K24 → OrbitAmplitudes
told_of irreps o m a = record { label = o.label; amplitudes = named_amplitudes (vector k24_laws exact24 a) 0 (told_modes irreps (irrep_modes_in m) m.sites) }

abbrev pub told_in : List IrrepText → List OrbitView → List ModesView → List (List K24) → List OrbitAmplitudes
told_in irreps [] all rows = []
told_in irreps (o ∷ orbits) [] rows = []
told_in irreps (o ∷ orbits) (m ∷ all) [] = []
told_in irreps (o ∷ orbits) (m ∷ all) (a ∷ rows) = told_of irreps o m a ∷ told_in irreps orbits all rows
