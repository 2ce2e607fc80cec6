-- The pieces of the reports of `modes`.
--
-- orbit_front (number, told): the line of an orbit, and its places
-- orbit_pieces_by e (number, told): these, and each mode
-- told_pieces_by e front told: what stands in front of all orbits, and the pieces of each
use Rattle.std.specs.Prelude.{ℕ, List, [], ◌∷◌, ◌++◌, length, map, flat_map, codes, decimal}
use Rattle.std.specs.List.{enumerate_from}
use Rattle.iso_text.specs.Lines.{line}
use Rattle.mode_report.specs.ModesReport.{mode_text_by, place_lines}
use Rattle.mode_report.specs.Told.{OrbitModes}
use Rattle.mode_report.specs.declared.moves.AtomEntries.{AtomEntries}

-- the line of an orbit, and its places
abbrev pub orbit_front : ℕ × OrbitModes → List ℕ
orbit_front o =
    line (codes "orbit " ++ decimal o.0 ++ codes " " ++ o.1.label ++ codes " atoms " ++ decimal (length o.1.places) ++ o.1.counts) [] ++ place_lines o.1.places

-- these, and each mode
abbrev pub orbit_pieces_by : AtomEntries → ℕ × OrbitModes → List (List ℕ)
orbit_pieces_by e o = orbit_front o ∷ map (mode_text_by e (length o.1.places)) (enumerate_from 1 o.1.modes)

-- what stands in front of all orbits, and the pieces of each
abbrev pub told_pieces_by : AtomEntries → List ℕ → List OrbitModes → List (List ℕ)
told_pieces_by e front told = front ∷ flat_map (orbit_pieces_by e) (enumerate_from 1 told)
