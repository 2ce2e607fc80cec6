-- The pieces of the report of `amps`.
--
-- orbit_pieces f: the lines of each orbit
-- amps_pieces f: the first line, and the lines of each orbit
use Rattle.std.specs.Prelude.{List, ℕ, ◌∷◌, map}
use Rattle.std.specs.List.{enumerate_from}
use Rattle.amp_report.specs.AmpsReport.{head_text, orbit_text}
use Rattle.amp_report.specs.Held.{told_in}
use Rattle.amp_report.specs.declared.found.FoundAmplitudes.{FoundAmplitudes}

-- the lines of each orbit
abbrev pub orbit_pieces : FoundAmplitudes → List (List ℕ)
orbit_pieces f = map orbit_text (enumerate_from 1 (told_in f.file.divided.file.irreps f.orbits f.modes.items f.rows.items))

-- the first line, and the lines of each orbit
abbrev pub amps_pieces : FoundAmplitudes → List (List ℕ)
amps_pieces f = head_text f.file.divided.file.format ∷ orbit_pieces f
