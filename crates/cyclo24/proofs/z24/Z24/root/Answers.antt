use Rattle.std.proofs.Common.{◌∙◌, ap, pos, ◌^◌, lit≤}
use Rattle.cyclo24.specs.declared.whole.Whole.{Whole}
use Rattle.cyclo24.specs.CheckedLaws.{below_wide}
use Rattle.cyclo24.specs.Listed.{is_positive}
use Rattle.cyclo24.specs.ExactZ24.{power}
use Rattle.cyclo24.specs.TermsLaws.{at_most}
use Rattle.cyclo24.specs.TermsValuesLaws.{root_reduced, small_sums}
use Rattle.cyclo24.specs.Z24CallsLaws.{made_low8, made_value8}
use Rattle.cyclo24.proofs.z24.Z24.root.Goals as goal

pub with_row-fraction-requires-clause-sum : goal.with_row-fraction-requires-clause-sum
with_row-fraction-requires-clause-sum c = at_most 0 (2 ^ 40) c.zero_over-zero.result (lit≤ tt) c.zero_over-zero.ensures.most

pub reduced-requires-clause-narrow : goal.reduced-requires-clause-narrow
reduced-requires-clause-narrow c =
    small_sums c.with_row-fraction.result (pos 1) (at_most 128 (2 ^ 40) c.with_row-fraction.result (lit≤ tt) (c.with_row-fraction.ensures.most 0 c.zero_over-zero.ensures.most)) (c.with_row-fraction.ensures.low ∙ c.zero_over-zero.ensures.low)
    (below_wide (pos 1) (lit≤ tt))

pub reduced-requires-clause-positive : goal.reduced-requires-clause-positive
reduced-requires-clause-positive c = ap (λ (w : Whole). is_positive w.n) (c.with_row-fraction.ensures.low ∙ c.zero_over-zero.ensures.low)

pub invariant_of-result : goal.invariant_of-result
invariant_of-result c = record {
  narrow = c.reduced.ensures.narrow;
  lowest = made_low8 c.reduced.result (power c.args.a) (root_reduced c.zero_over-zero.result c.with_row-fraction.result c.reduced.result c.power_row-row.result c.args.a c.zero_over-zero.ensures.value c.zero_over-zero.ensures.low
      c.power_row-row.ensures c.with_row-fraction.ensures.value c.with_row-fraction.ensures.low c.reduced.ensures.lowest);
}

pub returns : goal.returns
returns c = made_value8 c.reduced.result (power c.args.a) (root_reduced c.zero_over-zero.result c.with_row-fraction.result c.reduced.result c.power_row-row.result c.args.a c.zero_over-zero.ensures.value c.zero_over-zero.ensures.low
    c.power_row-row.ensures c.with_row-fraction.ensures.value c.with_row-fraction.ensures.low c.reduced.ensures.lowest) _
