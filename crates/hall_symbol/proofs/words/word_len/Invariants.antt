use Rattle.std.proofs.Common.{◌-◌, length}
use Rattle.hall_symbol.proofs.WordsLemmas.{GoesOn}
use Rattle.hall_symbol.proofs.words.word_len.Given as goal

abbrev pub invariant-bytes : goal.invariant-bytes
invariant-bytes l = GoesOn l.text l.last

abbrev pub decreases-bytes : goal.decreases-bytes
decreases-bytes l = length l.text - l.last
