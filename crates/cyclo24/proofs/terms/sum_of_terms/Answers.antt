use Rattle.std.proofs.Common.{◌∙◌, ◌*◌, arith, length, get_or, pos}
use Rattle.iso_text.specs.declared.numbers.Term.{Term}
use Rattle.iso_text.specs.declared.numbers.Unit.TheVariants.{One}
use Rattle.std.specs.Int.RustNames.{unsigned_abs}
use Rattle.cyclo24.specs.TermsLaws.{terms_step, terms_end, terms_start, term_by, at_most, bound_step, bound_below}
use Rattle.cyclo24.specs.Written8.{eight_of}
use Rattle.cyclo24.specs.Terms.{terms8}
use Rattle.cyclo24.proofs.terms.sum_of_terms.Goals as goal

abbrev none : Term
none = record { num = pos 0; den = 0; unit = One }

pub loop-term-init : goal.loop-term-init
loop-term-init c = record { value = terms_start (eight_of c.zero_over-sum.result) c.args.terms.now c.zero_over-sum.ensures.value; low = c.zero_over-sum.ensures.low; most = c.zero_over-sum.ensures.most }

pub with_row-sum-requires-clause-sum : goal.with_row-sum-requires-clause-sum
with_row-sum-requires-clause-sum c = at_most (30720000 * c.loop-term.term-index) _ c.loop-term.sum (bound_below c.loop-term.term-index (length c.args.terms.now) (omega arith) c.requires.few) c.loop-term.invariant.most

pub loop-term-preserved : goal.loop-term-preserved
loop-term-preserved c = record {
  value = terms_step (terms8 c.args.terms.now) (eight_of c.loop-term.sum) (eight_of c.with_row-sum.result) c.args.terms.now c.loop-term.term-index none c.loop-term-test.true
      (term_by (eight_of c.loop-term.sum) (eight_of c.with_row-sum.result) c.factor_of-factor.result c.unit_row-row.result (get_or c.args.terms.now c.loop-term.term-index none) c.with_row-sum.ensures.value c.factor_of-factor.ensures.value c.unit_row-row.ensures)
      c.loop-term.invariant.value;
  low = c.with_row-sum.ensures.low ∙ c.loop-term.invariant.low;
  most = at_most _ _ c.with_row-sum.result (bound_step c.loop-term.term-index (unsigned_abs c.factor_of-factor.result.n) c.factor_of-factor.ensures.most) (c.with_row-sum.ensures.most (30720000 * c.loop-term.term-index) c.loop-term.invariant.most);
}

pub returns-clause-value : goal.returns-clause-value
returns-clause-value c = terms_end (terms8 c.args.terms.now) (eight_of c.loop-term.sum) c.args.terms.now c.loop-term.term-index c.loop-term-test.false c.loop-term.invariant.value

pub returns-clause-most : goal.returns-clause-most
returns-clause-most c = at_most (30720000 * c.loop-term.term-index) _ c.loop-term.sum (bound_below c.loop-term.term-index (length c.args.terms.now) (omega arith) c.requires.few) c.loop-term.invariant.most
