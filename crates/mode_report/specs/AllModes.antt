-- The modes of the orbits of a file.
--
-- name_at irreps j: the name of irrep j
-- named irreps m, told_sites columns, told_modes irreps ms sites: a mode of an irrep by its name; the unit vectors; all of them
-- IsToldBy space q irreps ws o told: what is told of an orbit: all its modes, where this space is that of its atoms
-- AreWideOrbitsBy space family p k, HaveModesBy space p told: of all orbits
-- IsToldOf, AreWideOrbits, HaveModes: the same for displacements
use Rattle.std.specs.Prelude.{◌≡◌, ℕ, suc, zero, List, [], ◌∷◌, ◌++◌, Contains, length, map, codes}
use Rattle.cyclo24.specs.ExactK24.{Exact24, k24, k24_laws}
use Rattle.iso_text.specs.declared.sections.IrrepText.{IrrepText}
use Rattle.lin_alg.specs.Equations.{unit_vector}
use Rattle.super_group.specs.Quotient.{SupercellGroup}
use Rattle.wyckoff.specs.Orbit.{OrbitView}
use Rattle.mode_project.specs.AtomSpace.{AtomSpace, displacements}
use Rattle.mode_project.specs.Modes.{AreModes}
use Rattle.mode_project.specs.Wide.{IsWideModes}
use Rattle.report_steps.specs.IrrepSteps.{Each}
use Rattle.mode_report.specs.Atoms.{Placed}
use Rattle.mode_report.specs.IrrepWeights.{AreWeightsOf}
use Rattle.mode_report.specs.Told.{OrbitModes, counts_text}

abbrev pub name_at : List IrrepText → ℕ → List ℕ
name_at [] j = []
name_at (i ∷ irreps) zero = i.name
name_at (i ∷ irreps) (suc j) = name_at irreps j

-- a mode of an irrep by its name
abbrev pub named : List IrrepText → (ℕ × (ℕ → Exact24)) → List ℕ × (ℕ → Exact24)
named irreps m = (name_at irreps m.0, m.1)

-- the unit vectors at these columns
abbrev pub told_sites : List ℕ → List (List ℕ × (ℕ → Exact24))
told_sites columns = map (λ c. (codes "site", unit_vector k24_laws c)) columns

-- the modes of irreps, then the unit vectors
abbrev pub told_modes : List IrrepText → List (ℕ × (ℕ → Exact24)) → List ℕ → List (List ℕ × (ℕ → Exact24))
told_modes irreps ms sites = map (named irreps) ms ++ told_sites sites

-- all modes of an orbit
pub record IsToldBy (space : SupercellGroup → OrbitView → AtomSpace) (q : SupercellGroup) (irreps : List IrrepText) (ws : List (ℕ → Exact24)) (o : OrbitView) (told : OrbitModes) : Type 0 where
  pub rows : List (ℕ × (ℕ → Exact24))
  pub sites : List ℕ
  pub modes : AreModes k24_laws (space q o) ws rows sites
  pub label_is : told.label ≡ o.label
  pub places_are : told.places ≡ o.places
  pub counts_are : told.counts ≡ counts_text (length rows) (length sites)
  pub modes_are : told.modes ≡ told_modes irreps rows sites

abbrev pub IsToldOf : SupercellGroup → List IrrepText → List (ℕ → Exact24) → OrbitView → OrbitModes → Type 0
IsToldOf = IsToldBy displacements

-- the numbers of the modes of some orbit, of this family
abbrev pub AreWideOrbitsBy : (SupercellGroup → OrbitView → AtomSpace) → ℕ → Placed → ℕ → Type 0
AreWideOrbitsBy space family p k =
    (ws : List (ℕ → Exact24)) × AreWeightsOf p.divided.quotient p.divided.file.irreps ws
    × ((o : OrbitView) × Contains p.orbits o × IsWideModes k24 (space p.divided.quotient o) ws × (k ≡ family))

abbrev pub AreWideOrbits : Placed → ℕ → Type 0
AreWideOrbits = AreWideOrbitsBy displacements 5

-- the modes of all orbits
abbrev pub HaveModesBy : (SupercellGroup → OrbitView → AtomSpace) → Placed → List OrbitModes → Type 0
HaveModesBy space p told =
    (ws : List (ℕ → Exact24)) × AreWeightsOf p.divided.quotient p.divided.file.irreps ws
    × Each (IsToldBy space p.divided.quotient p.divided.file.irreps ws) p.orbits told

abbrev pub HaveModes : Placed → List OrbitModes → Type 0
HaveModes = HaveModesBy displacements
