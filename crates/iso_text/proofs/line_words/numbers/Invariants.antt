use Rattle.std.proofs.Common.{length}
use Rattle.iso_text.proofs.ListLemmas.{AreRead}
use Rattle.iso_text.proofs.line_words.numbers.Given as goal

abbrev pub invariant-loop-word : goal.invariant-loop-word
invariant-loop-word l = AreRead l.most l.text l.numbers.items l.rest

abbrev pub decreases-loop-word : goal.decreases-loop-word
decreases-loop-word l = length l.rest
