use Rattle.std.proofs.Common.{ap, sym, ◌∙◌}
use Rattle.hall_symbol.specs.WordReading.{ends_word}
use Rattle.hall_symbol.proofs.WordsLemmas.{GoesOn-more, GoesOn-ends, with_front-none, begins-some, whole_end}
use Rattle.hall_symbol.proofs.words.word_len.Goals as goal

pub bytes-init : goal.bytes-init
bytes-init c = record {
  begins = c.requires;
  within = begins-some c.args.text.now c.requires;
  split = with_front-none c.args.text.now c.requires;
}

pub bytes-preserved : goal.bytes-preserved
bytes-preserved c =
    GoesOn-more c.args.text.now c.bytes.last c.bytes.invariant (sym (ap ends_word (whole_end c.args.text.now c.bytes.last)) ∙ sym c.ends_word.ensures ∙ c.bytes-test.true)

pub returns-clause-value : goal.returns-clause-value
returns-clause-value c =
    GoesOn-ends c.args.text.now c.bytes.last c.bytes.invariant (sym (ap ends_word (whole_end c.args.text.now c.bytes.last)) ∙ sym c.ends_word.ensures ∙ c.bytes-test.false)
