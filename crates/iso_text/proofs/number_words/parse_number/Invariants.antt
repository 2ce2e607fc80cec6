use Rattle.std.proofs.Common.{length}
use Rattle.iso_text.proofs.NumberLemmas.{IsRead}
use Rattle.iso_text.proofs.number_words.parse_number.Given as goal

abbrev pub invariant-loop-rest : goal.invariant-loop-rest
invariant-loop-rest l = IsRead l.text l.terms.items l.rest

abbrev pub decreases-loop-rest : goal.decreases-loop-rest
decreases-loop-rest l = length l.rest
