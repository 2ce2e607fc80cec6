use Rattle.std.proofs.Common.{ap, pos, lit≤}
use Rattle.cyclo24.specs.declared.whole.Whole.{Whole}
use Rattle.cyclo24.specs.CheckedLaws.{below_wide}
use Rattle.cyclo24.specs.Listed.{is_positive}
use Rattle.cyclo24.specs.Terms.{terms_value}
use Rattle.cyclo24.specs.TermsValuesLaws.{terms_reduced, small_sums}
use Rattle.cyclo24.specs.Z24CallsLaws.{made_low8, made_value8}
use Rattle.cyclo24.proofs.z24.Z24.from_terms.Goals as goal

pub reduced-requires-clause-narrow : goal.reduced-requires-clause-narrow
reduced-requires-clause-narrow c = small_sums c.sum_of_terms-sum.result (pos 24) c.sum_of_terms-sum.ensures.most c.sum_of_terms-sum.ensures.low (below_wide (pos 24) (lit≤ tt))

pub reduced-requires-clause-positive : goal.reduced-requires-clause-positive
reduced-requires-clause-positive c = ap (λ (w : Whole). is_positive w.n) c.sum_of_terms-sum.ensures.low

pub invariant_of-result : goal.invariant_of-result
invariant_of-result c = record {
  narrow = c.reduced.ensures.narrow;
  lowest = made_low8 c.reduced.result (terms_value c.args.terms.now) (terms_reduced c.sum_of_terms-sum.result c.reduced.result c.args.terms.now c.requires.terms c.sum_of_terms-sum.ensures.value c.sum_of_terms-sum.ensures.low c.reduced.ensures.lowest);
}

pub returns : goal.returns
returns c = made_value8 c.reduced.result (terms_value c.args.terms.now) (terms_reduced c.sum_of_terms-sum.result c.reduced.result c.args.terms.now c.requires.terms c.sum_of_terms-sum.ensures.value c.sum_of_terms-sum.ensures.low c.reduced.ensures.lowest) _
