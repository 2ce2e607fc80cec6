-- Which piece of a report of modes is which.
--
-- mode_counts told: how many modes each orbit has
-- orbit_parts (i, count): the pieces of orbit i
-- parts_of counts: those of a report on orbits with so many modes
-- IsOrbitPart told i text, IsModePart e told i m text: the first lines of orbit i, and mode m of it
-- IsPart e front told part text: the text of a piece
use Rattle.std.specs.Prelude.{◌≡◌, ℕ, ◌+◌, List, ◌∷◌, Some, length, map, flat_map, slice_get}
use Rattle.std.specs.List.{enumerate_from, range_with_len}
use Rattle.cyclo24.specs.ExactK24.{Exact24}
use Rattle.mode_report.specs.ModesPieces.{orbit_front}
use Rattle.mode_report.specs.ModesReport.{mode_text_by}
use Rattle.mode_report.specs.Told.{OrbitModes}
use Rattle.mode_report.specs.declared.moves.AtomEntries.{AtomEntries}
use Rattle.mode_report.specs.declared.parts.Part.{Part}
use Rattle.mode_report.specs.declared.parts.Part.TheVariants.{Front, Orbit, Mode}

abbrev pub mode_counts : List OrbitModes → List ℕ
mode_counts told = map (λ o. length o.modes) told

-- its first lines, and its modes
abbrev pub orbit_parts : ℕ × ℕ → List Part
orbit_parts o = Orbit o.0 ∷ map (λ m. Mode o.0 m) (range_with_len 0 o.1)

-- what stands in front of all orbits, and the pieces of each
abbrev pub parts_of : List ℕ → List Part
parts_of counts = Front ∷ flat_map orbit_parts (enumerate_from 0 counts)

abbrev pub IsOrbitPart : List OrbitModes → ℕ → List ℕ → Type 0
IsOrbitPart told i text = (o : OrbitModes) × (slice_get told i ≡ Some o) × (text ≡ orbit_front (i + 1, o))

abbrev pub IsModePart : AtomEntries → List OrbitModes → ℕ → ℕ → List ℕ → Type 0
IsModePart e told i m text =
    (o : OrbitModes) × (slice_get told i ≡ Some o)
    × ((x : List ℕ × (ℕ → Exact24)) × (slice_get o.modes m ≡ Some x) × (text ≡ mode_text_by e (length o.places) (m + 1, x)))

-- the text of a piece
abbrev pub IsPart : AtomEntries → List ℕ → List OrbitModes → Part → List ℕ → Type 0
IsPart e front told Front text = text ≡ front
IsPart e front told (Orbit i) text = IsOrbitPart told i text
IsPart e front told (Mode i m) text = IsModePart e told i m text
