-- What is found for `apart`, by the program's answer.
--
-- apart_of f: the report that is written of pairs
-- ArePairsHeld f: it can be written
use Rattle.std.specs.Prelude.{◌≡◌, ℕ, List, length}
use Rattle.apart_report.specs.ApartReport.{apart_text}
use Rattle.apart_report.specs.Held.{number_pairs, told_in}
use Rattle.apart_report.specs.declared.found.FoundPairs.{FoundPairs}

-- the report that is written of pairs
abbrev pub apart_of : FoundPairs → List ℕ
apart_of f = apart_text f.file.divided.file.format (told_in f.file.divided.file.irreps (number_pairs (length f.file.divided.file.irreps)) f.answers.items)

-- an answer for each pair
abbrev pub ArePairsHeld : FoundPairs → Type 0
ArePairsHeld f = length f.answers.items ≡ length (number_pairs (length f.file.divided.file.irreps))
