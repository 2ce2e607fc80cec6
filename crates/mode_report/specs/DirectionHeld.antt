-- What the program holds of the modes that a stabiliser leaves.
--
-- AreRowsOf rs m: the rows of a matrix are those of a list
-- IsWideIrrep q h o w k, AreIrrepRows q h o w m: the modes of an irrep on an orbit
-- IsWideOnOrbit q h ws o k, AreOrbitRows q h ws o ms: those of all irreps on it
-- IsWideOnSome q h ws orbits k: those of some orbit
-- matrix_rows m: the rows of a matrix as exact vectors
-- named_matrices irreps ms: the rows of the matrices of the irreps, named
-- along_of irreps o ms, along_in irreps orbits all: what is told of an orbit with these; of all orbits
use Rattle.std.specs.Prelude.{◌≡◌, ℕ, ◌<◌, ◌*◌, List, [], ◌∷◌, ◌++◌, Contains, length, map}
use Rattle.std.specs.List.{All, range_with_len}
use Rattle.std.specs.declared.vec.Vec.{Vec}
use Rattle.cyclo24.specs.declared.k24.K24.{K24}
use Rattle.cyclo24.specs.ExactK24.{Exact24, k24, k24_laws}
use Rattle.cyclo24.specs.K24.{exact24}
use Rattle.iso_text.specs.declared.sections.IrrepText.{IrrepText}
use Rattle.lin_alg.specs.Matrix.{MatrixView, entry}
use Rattle.lin_alg.specs.Spans.{row_vectors}
use Rattle.super_group.specs.Quotient.{SupercellGroup}
use Rattle.wyckoff.specs.Orbit.{OrbitView}
use Rattle.mode_project.specs.AtomSpace.{displacements}
use Rattle.mode_project.specs.DirectionModes.{AreModesOf}
use Rattle.mode_project.specs.Modes.{vector_at}
use Rattle.mode_project.specs.Wide.{IsWideModesOf}
use Rattle.report_steps.specs.IrrepSteps.{Each}
use Rattle.mode_report.specs.Told.{OrbitModes, count_text}

-- the rows of a matrix are those of a list
pub record AreRowsOf (rs : List (ℕ × (ℕ → Exact24))) (m : MatrixView K24) : Type 0 where
  pub count : length rs ≡ m.rows
  pub each : (i : ℕ) → i < m.rows → entry k24_laws exact24 m i ≡ vector_at k24_laws (row_vectors rs) i

-- a number of the modes of an irrep on an orbit
abbrev pub IsWideIrrep : SupercellGroup → List ℕ → OrbitView → (ℕ → Exact24) → ℕ → Type 0
IsWideIrrep q h o w k = IsWideModesOf k24 (displacements q o) w h × (k ≡ 5)

-- the modes of an irrep on an orbit
pub record AreIrrepRows (q : SupercellGroup) (h : List ℕ) (o : OrbitView) (w : ℕ → Exact24) (m : MatrixView K24) : Type 0 where
  pub rows : List (ℕ × (ℕ → Exact24))
  pub modes : AreModesOf k24_laws (displacements q o) w h rows
  pub held : AreRowsOf rows m
  pub width : m.cols ≡ length o.places * 3

abbrev pub IsWideOnOrbit : SupercellGroup → List ℕ → List (ℕ → Exact24) → OrbitView → ℕ → Type 0
IsWideOnOrbit q h ws o k = (w : ℕ → Exact24) × Contains ws w × IsWideIrrep q h o w k

-- the matrices of all irreps, in file order
abbrev pub AreOrbitRows : {Z : Type 0} → SupercellGroup → List ℕ → List (ℕ → Exact24) → OrbitView → Vec (MatrixView K24) Z → Type 0
AreOrbitRows q h ws o ms = Each (AreIrrepRows q h o) ws ms.items

abbrev pub IsWideOnSome : SupercellGroup → List ℕ → List (ℕ → Exact24) → List OrbitView → ℕ → Type 0
IsWideOnSome q h ws orbits k = (o : OrbitView) × Contains orbits o × IsWideOnOrbit q h ws o k

-- the rows of a matrix as exact vectors
abbrev pub matrix_rows : MatrixView K24 → List (ℕ → Exact24)
matrix_rows m = map (entry k24_laws exact24 m) (range_with_len 0 m.rows)

-- by the name of their irrep
abbrev pub named_by : List ℕ → MatrixView K24 → List (List ℕ × (ℕ → Exact24))
named_by name m = map (λ v. (name, v)) (matrix_rows m)

-- those of all irreps, in file order
abbrev pub named_matrices : List IrrepText → List (MatrixView K24) → List (List ℕ × (ℕ → Exact24))
named_matrices [] ms = []
named_matrices (i ∷ irreps) [] = []
named_matrices (i ∷ irreps) (m ∷ ms) = named_by i.name m ++ named_matrices irreps ms

-- a matrix for each irrep, with three columns for each atom
pub record AreFit {Z : Type 0} (irreps : List IrrepText) (o : OrbitView) (ms : Vec (MatrixView K24) Z) : Type 0 where
  pub count : length irreps ≡ length ms.items
  pub widths : All (λ (m : MatrixView K24). m.cols ≡ length o.places * 3) ms.items

abbrev pub along_of : List IrrepText → OrbitView → List (MatrixView K24) → OrbitModes
along_of irreps o ms = record {
  label = o.label;
  places = o.places;
  counts = count_text (length (named_matrices irreps ms));
  modes = named_matrices irreps ms;
}

abbrev pub along_in : {Z : Type 0} → List IrrepText → List OrbitView → List (Vec (MatrixView K24) Z) → List OrbitModes
along_in irreps [] all = []
along_in irreps (o ∷ orbits) [] = []
along_in irreps (o ∷ orbits) (ms ∷ all) = along_of irreps o ms.items ∷ along_in irreps orbits all
