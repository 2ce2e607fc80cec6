use Rattle.cyclo24.specs.ExactZ24.{z24_laws}
use Rattle.cyclo24.specs.Z24Calls.{exact_of8}
use Rattle.cyclo24.specs.Z24CallsLaws.{made_low8, made_value8, negated_z24, negated_narrow8}
use Rattle.cyclo24.proofs.z24.Z24Field.neg.Goals as goal

pub invariant_of-result : goal.invariant_of-result
invariant_of-result c = record { narrow = negated_narrow8 c.args.self.fraction c.negated.result c.args.self.narrow c.negated.ensures; lowest = made_low8 c.negated.result (z24_laws.neg (exact_of8 c.args.self.fraction c.args.self.lowest)) (negated_z24 c.args.self.fraction c.negated.result c.args.self.lowest c.negated.ensures) }

pub returns : goal.returns
returns c = made_value8 c.negated.result (z24_laws.neg (exact_of8 c.args.self.fraction c.args.self.lowest)) (negated_z24 c.args.self.fraction c.negated.result c.args.self.lowest c.negated.ensures) _
