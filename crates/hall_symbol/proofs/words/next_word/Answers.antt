use Rattle.std.proofs.Common.{◌≡◌, ◌<◌, length, ◌∙◌, ap, sym, arith, subst}
use Rattle.std.proofs.lemmas.Bool.Decides.{nat_tests}
use Rattle.hall_symbol.specs.WordReading.{words, begins_word}
use Rattle.hall_symbol.proofs.WordsLemmas.{words-unindented, begins_word-unindented, words-none}
use Rattle.hall_symbol.proofs.words.next_word.Goals as goal

pub returns-then-is_empty-clause-value : goal.returns-then-is_empty-clause-value
returns-then-is_empty-clause-value c =
    let none : length c.unindented-text.result.now ≡ 0 = grind (arith, nat_tests) in
    sym (words-unindented c.args.text.now) ∙ ap words (sym c.unindented-text.ensures.value) ∙ words-none c.unindented-text.result.now none

pub word_len-requires : goal.word_len-requires
word_len-requires c =
    let some : 0 < length c.unindented-text.result.now = grind (arith, nat_tests) in
    let e = c.unindented-text.ensures.value in
    ap begins_word e ∙ begins_word-unindented c.args.text.now (subst (λ t. 0 < length t) e some)

pub returns-clause-value : goal.returns-clause-value
returns-clause-value c =
    let front = sym c.split_at.ensures.front in
    let back = sym c.split_at.ensures.back in
    sym (words-unindented c.args.text.now) ∙ ap words (sym c.unindented-text.ensures.value) ∙ c.word_len.ensures.value ∙ cc
