-- What a direction allows of the modes of an orbit: those of each irrep that its stabiliser leaves as they are.
--
-- RefusesDirection number l r, IsDirection number l h: no direction of that number; its stabiliser
-- AreRowsAlong s ws h rows: for each irrep, the reduced rows of what h leaves of the range of its projection
-- named_rows irreps rows: these, named
-- IsToldAlong q irreps ws h o told: what is told of an orbit
-- AreWideAlong h, HaveModesAlong h: of all orbits
use Rattle.std.specs.Prelude.{◌≡◌, ◌⊎◌, ℕ, ◌<◌, ◌+◌, List, [], ◌∷◌, ◌++◌, Contains, length, map, Some, slice_get}
use Rattle.cyclo24.specs.ExactK24.{Exact24, k24, k24_laws}
use Rattle.iso_text.specs.declared.sections.IrrepText.{IrrepText}
use Rattle.class_list.specs.Directions.{Direction}
use Rattle.super_group.specs.Quotient.{SupercellGroup}
use Rattle.wyckoff.specs.Orbit.{OrbitView}
use Rattle.mode_project.specs.AtomSpace.{AtomSpace, displacements}
use Rattle.mode_project.specs.DirectionModes.{AreModesOf}
use Rattle.mode_project.specs.Wide.{IsWideModesOf}
use Rattle.list_report.specs.Contexts.{Listed}
use Rattle.report_steps.specs.IrrepSteps.{Each}
use Rattle.report_steps.specs.declared.refusal.Refusal.{Refusal}
use Rattle.report_steps.specs.declared.refusal.Refusal.TheVariants as refusal
use Rattle.mode_report.specs.Atoms.{Placed}
use Rattle.mode_report.specs.IrrepWeights.{AreWeightsOf}
use Rattle.mode_report.specs.Told.{OrbitModes, count_text}

-- directions are numbered from 1
abbrev pub RefusesDirection : ℕ → Listed → Refusal → Type 0
RefusesDirection number l r = ((number ≡ 0) ⊎ (length l.directions < number)) × (r ≡ refusal.NoSuchDirection l.name number)

-- the stabiliser of that number
abbrev pub IsDirection : ℕ → Listed → List ℕ → Type 0
IsDirection number l h = (i : ℕ) × (d : Direction Exact24) × (number ≡ i + 1) × (slice_get l.directions i ≡ Some d) × (h ≡ d.stabiliser)

-- the rows of each irrep, in file order
abbrev pub AreRowsAlong : AtomSpace → List (ℕ → Exact24) → List ℕ → List (List (ℕ × (ℕ → Exact24))) → Type 0
AreRowsAlong s ws h = Each (λ w. AreModesOf k24_laws s w h) ws

-- by the names of the irreps
abbrev pub named_rows : List IrrepText → List (List (ℕ × (ℕ → Exact24))) → List (List ℕ × (ℕ → Exact24))
named_rows (i ∷ irreps) (rows ∷ more) = map (λ (r : ℕ × (ℕ → Exact24)). (i.name, r.1)) rows ++ named_rows irreps more
named_rows _ _ = []

-- the modes of an orbit that h leaves
pub record IsToldAlong (q : SupercellGroup) (irreps : List IrrepText) (ws : List (ℕ → Exact24)) (h : List ℕ) (o : OrbitView) (told : OrbitModes) : Type 0 where
  pub rows : List (List (ℕ × (ℕ → Exact24)))
  pub along : AreRowsAlong (displacements q o) ws h rows
  pub label_is : told.label ≡ o.label
  pub places_are : told.places ≡ o.places
  pub modes_are : told.modes ≡ named_rows irreps rows
  pub counts_are : told.counts ≡ count_text (length told.modes)

-- the numbers of the modes of some irrep and some orbit
abbrev pub AreWideAlong : List ℕ → Placed → ℕ → Type 0
AreWideAlong h p k =
    (ws : List (ℕ → Exact24)) × AreWeightsOf p.divided.quotient p.divided.file.irreps ws
    × ((o : OrbitView) × (w : ℕ → Exact24) × Contains p.orbits o × Contains ws w × IsWideModesOf k24 (displacements p.divided.quotient o) w h × (k ≡ 5))

-- the modes of all orbits
abbrev pub HaveModesAlong : List ℕ → Placed → List OrbitModes → Type 0
HaveModesAlong h p told =
    (ws : List (ℕ → Exact24)) × AreWeightsOf p.divided.quotient p.divided.file.irreps ws
    × Each (IsToldAlong p.divided.quotient p.divided.file.irreps ws h) p.orbits told
