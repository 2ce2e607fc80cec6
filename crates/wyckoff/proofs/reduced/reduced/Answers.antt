use Rattle.std.proofs.Common.{◌≡◌, length, arith, rules}
use Rattle.std.proofs.lemmas.List.{get_or_default}
use Rattle.algebra.specs.ListLaws.{same_three}
use Rattle.space_ops.specs.Op.{number_at}
use Rattle.wyckoff.proofs.Passed.{passed_rem}
use Rattle.wyckoff.proofs.reduced.reduced.Goals as goal

pub returns-clause-value : goal.returns-clause-value
returns-clause-value c =
    let l : length c.args.d ≡ 3 = search rules in
    same_three _ _ _ _ _ _
    (passed_rem c.reduced_along.result (number_at c.args.x 0) _ _ (search rules) (search rules) (get_or_default c.args.d 0 0 1 (omega (arith, l))) c.reduced_along.ensures.value)
    (passed_rem c.reduced_along-2.result (number_at c.args.x 1) _ _ (search rules) (search rules) (get_or_default c.args.d 1 0 1 (omega (arith, l))) c.reduced_along-2.ensures.value)
    (passed_rem c.reduced_along-3.result (number_at c.args.x 2) _ _ (search rules) (search rules) (get_or_default c.args.d 2 0 1 (omega (arith, l))) c.reduced_along-3.ensures.value)
