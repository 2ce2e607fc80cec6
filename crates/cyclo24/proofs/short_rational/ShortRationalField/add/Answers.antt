use Rattle.std.proofs.Common.{refl}
use Rattle.cyclo24.specs.ExactK24.{k24_laws}
use Rattle.cyclo24.specs.Written4.{numbers4, sum}
use Rattle.cyclo24.specs.Ratio.{ratio4, packed_ratio4}
use Rattle.cyclo24.specs.Packed4.{one, widened}
use Rattle.cyclo24.specs.K24Laws.{made_low, low_positive, sum24}
use Rattle.cyclo24.specs.ShortRational.{exact_rational}
use Rattle.cyclo24.specs.ExactShortLaws.{answered_exact, answered_wide}
use Rattle.cyclo24.proofs.short_rational.ShortRationalField.add.Goals as goal

pub sum-requires-clause-positive : goal.sum-requires-clause-positive
sum-requires-clause-positive c = low_positive (widened (packed_ratio4 c.args.self.ratio)) c.args.self.lowest

pub sum-requires-clause-positive_other : goal.sum-requires-clause-positive_other
sum-requires-clause-positive_other c = low_positive (widened (packed_ratio4 c.args.other.ratio)) c.args.other.lowest

pub of-requires : goal.of-requires
of-requires c =
    let a = widened (packed_ratio4 c.args.self.ratio) in let b = widened (packed_ratio4 c.args.other.ratio) in
    made_low (ratio4 c.sum.result) (k24_laws.plus (exact_rational c.args.self) (exact_rational c.args.other)) (sum24 a b ((sum one a b).value) (ratio4 c.sum.result) c.args.self.lowest c.args.other.lowest refl c.sum.ensures)

pub returns-clause-exact : goal.returns-clause-exact
returns-clause-exact c =
    let a = widened (packed_ratio4 c.args.self.ratio) in let b = widened (packed_ratio4 c.args.other.ratio) in
    answered_exact exact_rational c.of.result (numbers4 (ratio4 c.sum.result)) (k24_laws.plus (exact_rational c.args.self) (exact_rational c.args.other)) (sum24 a b ((sum one a b).value) (ratio4 c.sum.result) c.args.self.lowest c.args.other.lowest refl c.sum.ensures) c.of.ensures.exact

pub returns-clause-wide : goal.returns-clause-wide
returns-clause-wide c =
    let a = widened (packed_ratio4 c.args.self.ratio) in let b = widened (packed_ratio4 c.args.other.ratio) in
    answered_wide c.of.result (numbers4 (ratio4 c.sum.result)) (k24_laws.plus (exact_rational c.args.self) (exact_rational c.args.other)) (sum24 a b ((sum one a b).value) (ratio4 c.sum.result) c.args.self.lowest c.args.other.lowest refl c.sum.ensures) c.of.ensures.wide
