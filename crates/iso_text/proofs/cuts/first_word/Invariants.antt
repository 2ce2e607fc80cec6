use Rattle.std.proofs.Common.{◌≡◌, ◌≤◌, length}
use Rattle.iso_text.specs.Cuts.{words_of}
use Rattle.iso_text.proofs.cuts.first_word.Given as goal

abbrev pub invariant-loop-rest : goal.invariant-loop-rest
invariant-loop-rest l = record {
  words : words_of l.text ≡ words_of l.rest;
  shorter : length l.rest ≤ length l.text;
}

abbrev pub decreases-loop-rest : goal.decreases-loop-rest
decreases-loop-rest l = length l.rest
