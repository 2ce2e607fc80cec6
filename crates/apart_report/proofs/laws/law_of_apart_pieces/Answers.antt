use Rattle.apart_report.specs.ApartPieces.{apart_head, pair_lines}
use Rattle.apart_report.proofs.TextLemmas.{two-pieces}
use Rattle.apart_report.proofs.laws.law_of_apart_pieces.Goals as goal

pub returns : goal.returns
returns c = λ f. two-pieces (apart_head f.file.divided.file.format) (pair_lines f)
