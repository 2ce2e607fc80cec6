use Rattle.cyclo24.specs.ExactK24.{k24_laws}
use Rattle.cyclo24.specs.K24Laws.{made_low, made_value, negated24}
use Rattle.cyclo24.specs.Packed4.{widened}
use Rattle.cyclo24.specs.ShortK24.{exact_short}
use Rattle.cyclo24.proofs.short_k24.ShortK24Field.neg.Goals as goal

pub invariant_of-result : goal.invariant_of-result
invariant_of-result c =
    record {
      packed = c.negated.ensures.packed;
      lowest = made_low (widened c.negated.result) (k24_laws.neg (exact_short c.args.self)) (negated24 (widened c.args.self.fraction) (widened c.negated.result) c.args.self.lowest c.negated.ensures.value);
    }

pub returns : goal.returns
returns c = made_value (widened c.negated.result) (k24_laws.neg (exact_short c.args.self)) (negated24 (widened c.args.self.fraction) (widened c.negated.result) c.args.self.lowest c.negated.ensures.value) _
