-- The report of `modes`.
--
-- place_lines places: the places of the atoms, numbered from 1
-- is_still v i: atom i doesn't move; move_lines v atoms: the moves of the atoms that do, three numbers an atom
-- number_lines v atoms: the same with one number an atom
-- each_of e, moves_by e atoms v: how many numbers an atom has; the lines of the atoms that move
-- mode_text_by e atoms (number, mode), orbit_text_by e (number, told), orbits_text_by e told: the lines of a mode, of an orbit, of all orbits
-- mode_text, orbit_text, orbits_text: the same with three numbers an atom
-- head_text format, direction_text name number: the first line, and that of a direction
-- modes_text format told, direction_modes_text format name number told: the whole report
use Rattle.std.specs.Prelude.{ℕ, ◌+◌, ◌*◌, Bool, ◌&&◌, if◌then◌else◌, ℤ, List, [], ◌++◌, length, flat_map, codes, decimal}
use Rattle.std.specs.List.{enumerate_from, range_with_len}
use Rattle.cyclo24.specs.ExactK24.{Exact24, k24_laws}
use Rattle.cyclo24.specs.TextK24.{text24}
use Rattle.iso_text.specs.Lines.{line}
use Rattle.report_steps.specs.Places.{place_text}
use Rattle.mode_report.specs.declared.moves.AtomEntries.{AtomEntries}
use Rattle.mode_report.specs.declared.moves.AtomEntries.TheVariants.{One, Three}
use Rattle.mode_report.specs.Told.{OrbitModes}

-- `place NUMBER X Y Z`
abbrev pub place_line : ℕ × List ℤ → List ℕ
place_line p = line (codes "place " ++ decimal p.0 ++ codes " " ++ place_text p.1) []

abbrev pub place_lines : List (List ℤ) → List ℕ
place_lines places = flat_map place_line (enumerate_from 1 places)

-- its three numbers are 0
abbrev pub is_still : (ℕ → Exact24) → ℕ → Bool
is_still v i = k24_laws.is_nought (v (i * 3)) && k24_laws.is_nought (v (i * 3 + 1)) && k24_laws.is_nought (v (i * 3 + 2))

-- `move ATOM DX DY DZ`, nothing for an atom that stays
abbrev pub move_line : (ℕ → Exact24) → ℕ → List ℕ
move_line v i =
    if is_still v i then [] else line (codes "move " ++ decimal (i + 1) ++ codes " " ++ text24 (v (i * 3)) ++ codes " " ++ text24 (v (i * 3 + 1)) ++ codes " " ++ text24 (v (i * 3 + 2))) []

abbrev pub move_lines : ℕ → (ℕ → Exact24) → List ℕ
move_lines atoms v = flat_map (move_line v) (range_with_len 0 atoms)

-- `move ATOM D`, nothing for an atom whose number is 0
abbrev pub number_line : (ℕ → Exact24) → ℕ → List ℕ
number_line v i = if k24_laws.is_nought (v i) then [] else line (codes "move " ++ decimal (i + 1) ++ codes " " ++ text24 (v i)) []

abbrev pub number_lines : ℕ → (ℕ → Exact24) → List ℕ
number_lines atoms v = flat_map (number_line v) (range_with_len 0 atoms)

abbrev pub each_of : AtomEntries → ℕ
each_of One = 1
each_of Three = 3

abbrev pub moves_by : AtomEntries → ℕ → (ℕ → Exact24) → List ℕ
moves_by One = number_lines
moves_by Three = move_lines

-- `mode NUMBER NAME`, and its moves
abbrev pub mode_text_by : AtomEntries → ℕ → ℕ × (List ℕ × (ℕ → Exact24)) → List ℕ
mode_text_by e atoms m = line (codes "mode " ++ decimal m.0 ++ codes " " ++ m.1.0) [] ++ moves_by e atoms m.1.1

abbrev pub mode_text : ℕ → ℕ × (List ℕ × (ℕ → Exact24)) → List ℕ
mode_text = mode_text_by Three

-- `orbit NUMBER LABEL atoms N` and its counts, its places and its modes
abbrev pub orbit_text_by : AtomEntries → ℕ × OrbitModes → List ℕ
orbit_text_by e o =
    line (codes "orbit " ++ decimal o.0 ++ codes " " ++ o.1.label ++ codes " atoms " ++ decimal (length o.1.places) ++ o.1.counts) []
    ++ place_lines o.1.places ++ flat_map (mode_text_by e (length o.1.places)) (enumerate_from 1 o.1.modes)

abbrev pub orbit_text : ℕ × OrbitModes → List ℕ
orbit_text = orbit_text_by Three

abbrev pub orbits_text_by : AtomEntries → List OrbitModes → List ℕ
orbits_text_by e told = flat_map (orbit_text_by e) (enumerate_from 1 told)

abbrev pub orbits_text : List OrbitModes → List ℕ
orbits_text = orbits_text_by Three

-- the first line
abbrev pub head_text : ℕ → List ℕ
head_text format = line (codes "isodist " ++ decimal format ++ codes " modes") []

abbrev pub modes_text : ℕ → List OrbitModes → List ℕ
modes_text format told = head_text format ++ orbits_text told

-- the second line names the direction
abbrev pub direction_modes_text : ℕ → List ℕ → ℕ → List OrbitModes → List ℕ
direction_modes_text format name number told =
    head_text format ++ line (codes "direction " ++ decimal number ++ codes " of " ++ name) [] ++ orbits_text told
