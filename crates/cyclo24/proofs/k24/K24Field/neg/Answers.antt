use Rattle.cyclo24.specs.ExactK24.{k24_laws}
use Rattle.cyclo24.specs.K24Laws.{exact_of, made_low, made_value, negated24, negated_narrow}
use Rattle.cyclo24.proofs.k24.K24Field.neg.Goals as goal

pub invariant_of-result : goal.invariant_of-result
invariant_of-result c = record { narrow = negated_narrow c.args.self.fraction c.negated.result c.args.self.narrow c.negated.ensures; lowest = made_low c.negated.result (k24_laws.neg (exact_of c.args.self.fraction c.args.self.lowest)) (negated24 c.args.self.fraction c.negated.result c.args.self.lowest c.negated.ensures) }

pub returns : goal.returns
returns c = made_value c.negated.result (k24_laws.neg (exact_of c.args.self.fraction c.args.self.lowest)) (negated24 c.args.self.fraction c.negated.result c.args.self.lowest c.negated.ensures) _
