-- The pieces of the reports of `modes`, by the program's values.
--
-- modes_told r, modes_pieces r: what is told of all modes; the pieces of their report
-- along_told a, along_front a, along_pieces a: what is told of the modes along a direction; the first two lines; the pieces of their report
-- IsModesReport r, IsAlongReport a: they can be reported
use Rattle.std.specs.Prelude.{◌≡◌, ℕ, List, [], ◌++◌, codes, decimal}
use Rattle.iso_text.specs.Lines.{line}
use Rattle.report_steps.specs.IrrepSteps.{Each}
use Rattle.mode_report.specs.DirectionHeld.{along_in}
use Rattle.mode_report.specs.FoundAlong.{IsAlongHeld}
use Rattle.mode_report.specs.Held.{HasSizeOf, told_in}
use Rattle.mode_report.specs.ModesPieces.{told_pieces_by}
use Rattle.mode_report.specs.ModesReport.{head_text}
use Rattle.mode_report.specs.Parts.{mode_counts, parts_of}
use Rattle.mode_report.specs.Told.{OrbitModes}
use Rattle.mode_report.specs.declared.along.ModesAlong.{ModesAlong}
use Rattle.mode_report.specs.declared.along_report.AlongReport.{AlongReport}
use Rattle.mode_report.specs.declared.moves.AtomEntries.TheVariants.{Three}
use Rattle.mode_report.specs.declared.report.ModesReport.{ModesReport}

abbrev pub modes_told : ModesReport → List OrbitModes
modes_told r = told_in r.file.divided.file.irreps r.found.orbits r.found.modes.items

-- the first line, and the pieces of each orbit
abbrev pub modes_pieces : ModesReport → List (List ℕ)
modes_pieces r = told_pieces_by Three (head_text r.file.divided.file.format) (modes_told r)

-- three numbers for each atom, and the table of the pieces
pub record IsModesReport (r : ModesReport) : Type 0 where
  pub sizes : Each HasSizeOf r.found.orbits r.found.modes.items
  pub parts : r.parts.items ≡ parts_of (mode_counts (modes_told r))

abbrev pub along_told : ModesAlong → List OrbitModes
along_told a = along_in a.file.divided.file.irreps a.orbits a.rows.items

-- the first two lines
abbrev pub along_front : ModesAlong → List ℕ
along_front a = head_text a.file.divided.file.format ++ line (codes "direction " ++ decimal a.number ++ codes " of " ++ a.name) []

-- these, and the pieces of each orbit
abbrev pub along_pieces : AlongReport → List (List ℕ)
along_pieces r = told_pieces_by Three (along_front r.along) (along_told r.along)

-- a matrix for each irrep on each orbit, and the table of the pieces
pub record IsAlongReport (r : AlongReport) : Type 0 where
  pub held : IsAlongHeld r.along
  pub parts : r.parts.items ≡ parts_of (mode_counts (along_told r.along))
