use Rattle.std.proofs.Common.{ap, rules, arith, length}
use Rattle.iso_text.proofs.CutLemmas.{words_of-first, front_some}
use Rattle.iso_text.proofs.cuts.first_word.Goals as goal

pub returns-then-not-is_mark-clause-word : goal.returns-then-not-is_mark-clause-word
returns-then-not-is_mark-clause-word c =
    let first = words_of-first c.loop-rest.rest.now (omega arith) (search rules) in cc

pub returns-then-not-is_mark-clause-shorter : goal.returns-then-not-is_mark-clause-shorter
returns-then-not-is_mark-clause-shorter c =
    let some = front_some c.loop-rest.rest.now (omega arith) (search rules) in
    omega (arith, ap (λ t. length t) c.split_at_mark.ensures.front)
