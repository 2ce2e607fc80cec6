use Rattle.std.proofs.Common.{rules}
use Rattle.kstar.proofs.Stars.{few_listed}
use Rattle.kstar.proofs.star.star_of_rows.Goals as goal

pub invariant_of-result : goal.invariant_of-result
invariant_of-result c = record {
  near = c.requires.row;
  arms_near = search rules;
  count = search rules;
  few_arms = few_listed _ _ _ c.in-Ok-firsts_of.ensures c.requires.few;
  few_little = few_listed _ _ _ c.in-Ok.ensures c.requires.few;
  phases = c.requires.phases;
}
