use Rattle.std.proofs.Common.{◌≡◌, length, arith, rules}
use Rattle.space_ops.specs.Op.{number_at}
use Rattle.std.proofs.lemmas.List.{get_or_default}
use Rattle.algebra.specs.ListLaws.{same_three}
use Rattle.super_group.proofs.Passed.{passed_sum}
use Rattle.super_group.proofs.inside.sum_inside.Goals as goal

pub returns : goal.returns
returns c =
    let l : length c.args.d ≡ 3 = search rules in
    same_three _ _ _ _ _ _
    (passed_sum c.sum_along.result (number_at c.args.a 0) (number_at c.args.b 0) _ _ (search rules) (search rules) (search rules) (get_or_default c.args.d 0 0 1 (omega (arith, l))) c.sum_along.ensures)
    (passed_sum c.sum_along-2.result (number_at c.args.a 1) (number_at c.args.b 1) _ _ (search rules) (search rules) (search rules) (get_or_default c.args.d 1 0 1 (omega (arith, l))) c.sum_along-2.ensures)
    (passed_sum c.sum_along-3.result (number_at c.args.a 2) (number_at c.args.b 2) _ _ (search rules) (search rules) (search rules) (get_or_default c.args.d 2 0 1 (omega (arith, l))) c.sum_along-3.ensures)
