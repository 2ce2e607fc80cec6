use Rattle.std.proofs.Common.{refl}
use Rattle.cyclo24.specs.ExactK24.{k24_laws}
use Rattle.cyclo24.specs.K24Laws.{made_low}
use Rattle.cyclo24.specs.Written4.{numbers4}
use Rattle.cyclo24.specs.Packed4.{widened}
use Rattle.cyclo24.specs.Ratio.{ratio4, packed_ratio4}
use Rattle.cyclo24.specs.SwappedLaws.{swapped_inverse}
use Rattle.cyclo24.specs.ShortRational.{exact_rational}
use Rattle.cyclo24.specs.ExactShortLaws.{answered_exact, answered_wide}
use Rattle.cyclo24.proofs.short_rational.ShortRationalField.inv.Goals as goal

pub of-requires : goal.of-requires
of-requires c = made_low (ratio4 c.inverse.result) (k24_laws.inverse (exact_rational c.args.self)) (swapped_inverse (widened (packed_ratio4 c.args.self.ratio)) (ratio4 c.inverse.result) c.args.self.lowest refl c.requires c.inverse.ensures)

pub returns-clause-exact : goal.returns-clause-exact
returns-clause-exact c = answered_exact exact_rational c.of.result (numbers4 (ratio4 c.inverse.result)) (k24_laws.inverse (exact_rational c.args.self)) (swapped_inverse (widened (packed_ratio4 c.args.self.ratio)) (ratio4 c.inverse.result) c.args.self.lowest refl c.requires c.inverse.ensures) c.of.ensures.exact

pub returns-clause-wide : goal.returns-clause-wide
returns-clause-wide c = answered_wide c.of.result (numbers4 (ratio4 c.inverse.result)) (k24_laws.inverse (exact_rational c.args.self)) (swapped_inverse (widened (packed_ratio4 c.args.self.ratio)) (ratio4 c.inverse.result) c.args.self.lowest refl c.requires c.inverse.ensures) c.of.ensures.wide
