use Rattle.std.proofs.Common.{◌≤◌, ◌*◌, rules}
use Rattle.induce.proofs.KindLemmas.{few_rows}
use Rattle.induce.proofs.indicator.dimension.Goals as goal

pub overflow_mul-result : goal.overflow_mul-result
overflow_mul-result c =
    let l : c.arms.result * c.size.result ≤ 288 = few_rows c.arms.result c.size.result c.arms.ensures.few c.size.ensures.few in
    search rules

pub returns-clause-value : goal.returns-clause-value
returns-clause-value c = λ t. c.arms.ensures.value t * c.size.ensures.value t

pub returns-clause-few : goal.returns-clause-few
returns-clause-few c = few_rows c.arms.result c.size.result c.arms.ensures.few c.size.ensures.few
