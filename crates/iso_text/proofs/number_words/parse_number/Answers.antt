use Rattle.std.proofs.Common.{arith, sym, rules, ◌<◌, length}
use Rattle.iso_text.proofs.NumberLemmas.{read_many}
use Rattle.std.proofs.lemmas.Bool.Decides.{nat_tests}
use Rattle.iso_text.proofs.number_words.parse_number.Goals as goal

pub returns-then-len-eq-MAX_TERMS : goal.returns-then-len-eq-MAX_TERMS
returns-then-len-eq-MAX_TERMS c =
    let some : 0 < length c.loop-rest.rest.now = grind (arith, nat_tests) in
    sym (read_many c.args.text.now c.loop-rest.terms.items c.loop-rest.rest.now c.loop-rest.invariant (search rules) some)
