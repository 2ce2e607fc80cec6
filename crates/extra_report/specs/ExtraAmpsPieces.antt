-- The pieces of the reports of `occ-amps` and `axial-amps`.
--
-- amps_head f: the first line
-- orbit_pieces f: the lines of each orbit
-- extra_amps_pieces f: the first line, and the lines of each orbit
use Rattle.std.specs.Prelude.{List, ℕ, ◌∷◌, map}
use Rattle.std.specs.List.{enumerate_from}
use Rattle.amp_report.specs.AmpsReport.{orbit_text}
use Rattle.amp_report.specs.Held.{told_in}
use Rattle.extra_report.specs.ExtraReport.{amps_word_of, head_text}
use Rattle.extra_report.specs.declared.amps_found.FoundExtraAmps.{FoundExtraAmps}

-- the first line
abbrev pub amps_head : FoundExtraAmps → List ℕ
amps_head f = head_text f.file.divided.file.format (amps_word_of f.nature)

-- the lines of each orbit
abbrev pub orbit_pieces : FoundExtraAmps → List (List ℕ)
orbit_pieces f = map orbit_text (enumerate_from 1 (told_in f.file.divided.file.irreps f.orbits f.modes.items f.rows.items))

-- the first line, and the lines of each orbit
abbrev pub extra_amps_pieces : FoundExtraAmps → List (List ℕ)
extra_amps_pieces f = amps_head f ∷ orbit_pieces f
