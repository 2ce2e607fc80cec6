-- The pieces of the report of `occ` and `axial`.
--
-- extra_front f, extra_told f: the first line; what is told of the orbits
-- extra_pieces r: the first line; and for each orbit its first lines, and each mode
-- IsExtraReport r: it can be written
use Rattle.std.specs.Prelude.{◌≡◌, ℕ, List}
use Rattle.mode_report.specs.Held.{told_in}
use Rattle.mode_report.specs.ModesPieces.{told_pieces_by}
use Rattle.mode_report.specs.Parts.{mode_counts, parts_of}
use Rattle.mode_report.specs.Told.{OrbitModes}
use Rattle.extra_report.specs.ExtraReport.{entries_of, head_text, word_of}
use Rattle.extra_report.specs.FoundExtra.{IsExtraHeld}
use Rattle.extra_report.specs.declared.found.FoundExtra.{FoundExtra}
use Rattle.extra_report.specs.declared.report.ExtraReport.{ExtraReport}

-- the first line
abbrev pub extra_front : FoundExtra → List ℕ
extra_front f = head_text f.file.divided.file.format (word_of f.nature)

-- what is told of the orbits
abbrev pub extra_told : FoundExtra → List OrbitModes
extra_told f = told_in f.file.divided.file.irreps f.orbits f.modes.items

abbrev pub extra_pieces : ExtraReport → List (List ℕ)
extra_pieces r = told_pieces_by (entries_of r.found.nature) (extra_front r.found) (extra_told r.found)

-- so many numbers for each atom, and the table of the pieces
pub record IsExtraReport (r : ExtraReport) : Type 0 where
  pub held : IsExtraHeld r.found
  pub parts : r.parts.items ≡ parts_of (mode_counts (extra_told r.found))
