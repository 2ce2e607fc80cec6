use Rattle.cyclo24.specs.ExactK24.{k24_laws}
use Rattle.cyclo24.specs.K24Laws.{made_low, made_value, negated24}
use Rattle.cyclo24.specs.Packed4.{widened}
use Rattle.cyclo24.specs.Ratio.{packed_ratio4}
use Rattle.cyclo24.specs.ShortRational.{exact_rational}
use Rattle.cyclo24.proofs.short_rational.ShortRationalField.neg.Goals as goal

pub invariant_of-result : goal.invariant_of-result
invariant_of-result c =
    record {
      packed = c.negated.ensures.packed;
      lowest = made_low (widened (packed_ratio4 c.negated.result)) (k24_laws.neg (exact_rational c.args.self)) (negated24 (widened (packed_ratio4 c.args.self.ratio)) (widened (packed_ratio4 c.negated.result)) c.args.self.lowest c.negated.ensures.value);
    }

pub returns : goal.returns
returns c = made_value (widened (packed_ratio4 c.negated.result)) (k24_laws.neg (exact_rational c.args.self)) (negated24 (widened (packed_ratio4 c.args.self.ratio)) (widened (packed_ratio4 c.negated.result)) c.args.self.lowest c.negated.ensures.value) _
