use Rattle.std.proofs.Common.{refl}
use Rattle.cyclo24.specs.ExactK24.{k24_laws}
use Rattle.cyclo24.specs.Written4.{numbers4, product}
use Rattle.cyclo24.specs.Ratio.{ratio4, packed_ratio4}
use Rattle.cyclo24.specs.Packed4.{widened}
use Rattle.cyclo24.specs.K24Laws.{made_low, low_positive, product24}
use Rattle.cyclo24.specs.ShortRational.{exact_rational}
use Rattle.cyclo24.specs.ExactShortLaws.{answered_exact, answered_wide}
use Rattle.cyclo24.proofs.short_rational.ShortRationalField.mul.Goals as goal

pub product-requires-clause-positive : goal.product-requires-clause-positive
product-requires-clause-positive c = low_positive (widened (packed_ratio4 c.args.self.ratio)) c.args.self.lowest

pub product-requires-clause-positive_other : goal.product-requires-clause-positive_other
product-requires-clause-positive_other c = low_positive (widened (packed_ratio4 c.args.other.ratio)) c.args.other.lowest

pub of-requires : goal.of-requires
of-requires c =
    let a = widened (packed_ratio4 c.args.self.ratio) in let b = widened (packed_ratio4 c.args.other.ratio) in
    made_low (ratio4 c.product.result) (k24_laws.times (exact_rational c.args.self) (exact_rational c.args.other)) (product24 a b ((product a b).value) (ratio4 c.product.result) c.args.self.lowest c.args.other.lowest refl c.product.ensures)

pub returns-clause-exact : goal.returns-clause-exact
returns-clause-exact c =
    let a = widened (packed_ratio4 c.args.self.ratio) in let b = widened (packed_ratio4 c.args.other.ratio) in
    answered_exact exact_rational c.of.result (numbers4 (ratio4 c.product.result)) (k24_laws.times (exact_rational c.args.self) (exact_rational c.args.other)) (product24 a b ((product a b).value) (ratio4 c.product.result) c.args.self.lowest c.args.other.lowest refl c.product.ensures) c.of.ensures.exact

pub returns-clause-wide : goal.returns-clause-wide
returns-clause-wide c =
    let a = widened (packed_ratio4 c.args.self.ratio) in let b = widened (packed_ratio4 c.args.other.ratio) in
    answered_wide c.of.result (numbers4 (ratio4 c.product.result)) (k24_laws.times (exact_rational c.args.self) (exact_rational c.args.other)) (product24 a b ((product a b).value) (ratio4 c.product.result) c.args.self.lowest c.args.other.lowest refl c.product.ensures) c.of.ensures.wide
