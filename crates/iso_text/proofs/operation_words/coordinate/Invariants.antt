use Rattle.std.proofs.Common.{◌≡◌, length}
use Rattle.iso_text.specs.Cuts.{cut_at, is_sign}
use Rattle.iso_text.specs.Operations.{with_parts, empty_row}
use Rattle.iso_text.proofs.operation_words.coordinate.Given as goal

abbrev pub invariant-loop-rest : goal.invariant-loop-rest
invariant-loop-rest l = with_parts empty_row (cut_at is_sign l.text) ≡ with_parts l.row (cut_at is_sign l.rest)

abbrev pub decreases-loop-rest : goal.decreases-loop-rest
decreases-loop-rest l = length l.rest
