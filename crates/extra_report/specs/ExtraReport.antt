-- The reports of `occ`, `axial`, `occ-amps` and `axial-amps`.
--
-- word_of nature, amps_word_of nature: the words of the commands
-- entries_of nature: how many numbers an atom has
-- head_text format word: the first line
-- extra_text nature format told: the report of modes
-- extra_amps_text nature format told: the report of amplitudes
use Rattle.std.specs.Prelude.{ℕ, List, [], ◌++◌, flat_map, codes, decimal}
use Rattle.std.specs.List.{enumerate_from}
use Rattle.iso_text.specs.Lines.{line}
use Rattle.extra_modes.specs.declared.nature.Nature.{Nature}
use Rattle.extra_modes.specs.declared.nature.Nature.TheVariants.{Occupation, Axial}
use Rattle.mode_report.specs.declared.moves.AtomEntries.{AtomEntries}
use Rattle.mode_report.specs.declared.moves.AtomEntries.TheVariants.{One, Three}
use Rattle.mode_report.specs.ModesReport.{orbits_text_by}
use Rattle.mode_report.specs.Told.{OrbitModes}
use Rattle.amp_report.specs.AmpsReport.{OrbitAmplitudes, orbit_text}

abbrev pub word_of : Nature → List ℕ
word_of Occupation = codes "occ"
word_of Axial = codes "axial"

abbrev pub amps_word_of : Nature → List ℕ
amps_word_of Occupation = codes "occ-amps"
amps_word_of Axial = codes "axial-amps"

-- one number an atom, or three
abbrev pub entries_of : Nature → AtomEntries
entries_of Occupation = One
entries_of Axial = Three

-- the first line
abbrev pub head_text : ℕ → List ℕ → List ℕ
head_text format word = line (codes "isodist " ++ decimal format ++ codes " " ++ word) []

abbrev pub extra_text : Nature → ℕ → List OrbitModes → List ℕ
extra_text nature format told = head_text format (word_of nature) ++ orbits_text_by (entries_of nature) told

abbrev pub extra_amps_text : Nature → ℕ → List OrbitAmplitudes → List ℕ
extra_amps_text nature format told = head_text format (amps_word_of nature) ++ flat_map orbit_text (enumerate_from 1 told)
