-- The pieces of the report of `apart`.
--
-- apart_head format: the first line
-- pair_lines f: the lines of all pairs
-- apart_pieces f: the first line, and the lines of all pairs
use Rattle.std.specs.Prelude.{ℕ, List, [], ◌∷◌, ◌++◌, flat_map, length, codes, decimal}
use Rattle.iso_text.specs.Lines.{line}
use Rattle.apart_report.specs.ApartReport.{pair_line}
use Rattle.apart_report.specs.Held.{number_pairs, told_in}
use Rattle.apart_report.specs.declared.found.FoundPairs.{FoundPairs}

-- the first line, with the file's format
abbrev pub apart_head : ℕ → List ℕ
apart_head format = line (codes "isodist " ++ decimal format ++ codes " apart") []

-- the lines of all pairs
abbrev pub pair_lines : FoundPairs → List ℕ
pair_lines f = flat_map pair_line (told_in f.file.divided.file.irreps (number_pairs (length f.file.divided.file.irreps)) f.answers.items)

-- the first line, and the lines of all pairs
abbrev pub apart_pieces : FoundPairs → List (List ℕ)
apart_pieces f = apart_head f.file.divided.file.format ∷ pair_lines f ∷ []
