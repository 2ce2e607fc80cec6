-- What the program holds of the orbits and the modes of a file.
--
-- placed_in d orbits: a file with these orbits; AreOrbitsHeld d orbits: they are those of its atoms
-- RefusesNothing a r: nothing is refused
-- IsWideOrbitBy space family q ws o k, AreModesBy space q ws o m: the modes of an orbit by the weights, where this space is that of its atoms
-- IsWideSomeBy space family q ws orbits k: of some orbit
-- IsWideOrbit, AreModesOfOrbit, IsWideSomeOrbit: the same for displacements
-- HasSizeBy each o m, HasSizeOf o m: the modes have so many numbers for each atom; three
-- told_of irreps o m: what is told of an orbit with these modes; told_in irreps orbits all: of all orbits
use Rattle.std.specs.Prelude.{◌≡◌, ℕ, List, [], ◌∷◌, ◌*◌, Contains, length}
use Rattle.std.specs.List.{All}
use Rattle.cyclo24.specs.ExactK24.{Exact24, k24, k24_laws}
use Rattle.iso_text.specs.declared.sections.IrrepText.{IrrepText}
use Rattle.super_group.specs.Quotient.{SupercellGroup}
use Rattle.wyckoff.specs.Orbit.{OrbitView}
use Rattle.mode_project.specs.AtomSpace.{AtomSpace, displacements, size_of, IsOrbit}
use Rattle.mode_project.specs.Modes.{AreModes}
use Rattle.mode_project.specs.ModesView.{ModesView, irrep_modes_in}
use Rattle.mode_project.specs.Wide.{IsWideModes}
use Rattle.report_steps.specs.Contexts.{Divided}
use Rattle.report_steps.specs.declared.refusal.Refusal.{Refusal}
use Rattle.mode_report.specs.AllModes.{told_modes}
use Rattle.mode_report.specs.Atoms.{Placed, HaveOrbits}
use Rattle.mode_report.specs.Told.{OrbitModes, counts_text}

abbrev pub placed_in : Divided → List OrbitView → Placed
placed_in d orbits = record { divided = d; orbits = orbits }

abbrev pub AreOrbitsHeld : Divided → List OrbitView → Type 0
AreOrbitsHeld d orbits = HaveOrbits d (placed_in d orbits) × All (IsOrbit d.quotient) orbits

abbrev pub RefusesNothing : {A : Type 0} → A → Refusal → Type 0
RefusesNothing a r = ⊥

abbrev pub IsWideOrbitBy : (SupercellGroup → OrbitView → AtomSpace) → ℕ → SupercellGroup → List (ℕ → Exact24) → OrbitView → ℕ → Type 0
IsWideOrbitBy space family q ws o k = IsWideModes k24 (space q o) ws × (k ≡ family)

abbrev pub IsWideOrbit : SupercellGroup → List (ℕ → Exact24) → OrbitView → ℕ → Type 0
IsWideOrbit = IsWideOrbitBy displacements 5

pub record AreModesBy (space : SupercellGroup → OrbitView → AtomSpace) (q : SupercellGroup) (ws : List (ℕ → Exact24)) (o : OrbitView) (m : ModesView) : Type 0 where
  pub modes : AreModes k24_laws (space q o) ws (irrep_modes_in m) m.sites
  pub size : m.size ≡ size_of (space q o)

abbrev pub AreModesOfOrbit : SupercellGroup → List (ℕ → Exact24) → OrbitView → ModesView → Type 0
AreModesOfOrbit = AreModesBy displacements

abbrev pub IsWideSomeBy : (SupercellGroup → OrbitView → AtomSpace) → ℕ → SupercellGroup → List (ℕ → Exact24) → List OrbitView → ℕ → Type 0
IsWideSomeBy space family q ws orbits k = (o : OrbitView) × Contains orbits o × IsWideOrbitBy space family q ws o k

abbrev pub IsWideSomeOrbit : SupercellGroup → List (ℕ → Exact24) → List OrbitView → ℕ → Type 0
IsWideSomeOrbit = IsWideSomeBy displacements 5

-- so many numbers for each atom
abbrev pub HasSizeBy : ℕ → OrbitView → ModesView → Type 0
HasSizeBy each o m = m.size ≡ length o.places * each

-- three numbers for each atom
abbrev pub HasSizeOf : OrbitView → ModesView → Type 0
HasSizeOf = HasSizeBy 3

abbrev pub told_of : List IrrepText → OrbitView → ModesView → OrbitModes
told_of irreps o m = record {
  label = o.label;
  places = o.places;
  counts = counts_text (length m.rows) (length m.sites);
  modes = told_modes irreps (irrep_modes_in m) m.sites;
}

abbrev pub told_in : List IrrepText → List OrbitView → List ModesView → List OrbitModes
told_in irreps [] all = []
told_in irreps (o ∷ orbits) [] = []
told_in irreps (o ∷ orbits) (m ∷ all) = told_of irreps o m ∷ told_in irreps orbits all
