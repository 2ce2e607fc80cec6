use Rattle.std.proofs.Common.{◌∙◌}
use Rattle.cyclo24.specs.ListedLaws.{positive_abs}
use Rattle.cyclo24.specs.Written8Laws.{sum_by}
use Rattle.cyclo24.proofs.fraction8.Fraction8.written_sum.Goals as goal

pub divided-p-requires-clause-positive : goal.divided-p-requires-clause-positive
divided-p-requires-clause-positive c = c.common-common.ensures.positive (positive_abs c.args.other.d.n c.requires.positive).0

pub divided-q-requires-clause-positive : goal.divided-q-requires-clause-positive
divided-q-requires-clause-positive c = c.common-common.ensures.positive (positive_abs c.args.other.d.n c.requires.positive).0

pub returns : goal.returns
returns c = c.sum_over.ensures ∙ sum_by c.args.self c.args.other c.common-common.result c.divided-p.result c.divided-q.result c.common-common.ensures.value c.divided-p.ensures c.divided-q.ensures
