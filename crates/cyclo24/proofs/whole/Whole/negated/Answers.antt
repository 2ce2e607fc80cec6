use Rattle.std.proofs.Common.{ap}
use Rattle.std.proofs.lemmas.Int.{to_z-of_z}
use Rattle.cyclo24.specs.declared.whole.Whole.{Whole}
use Rattle.std.specs.Prelude.{ℤ}
use Rattle.cyclo24.specs.CheckedLaws.{negated_fits, negated_is, fits_from_narrow}
use Rattle.cyclo24.proofs.whole.Whole.negated.Goals as goal

pub overflow_sub-result : goal.overflow_sub-result
overflow_sub-result c = let h = fits_from_narrow c.args.self.n c.requires in simp to_z-of_z (negated_fits c.args.self.n c.requires)

pub returns : goal.returns
returns c = let whole : ℤ → Whole = λ z. record { n = z } in ap whole (negated_is c.args.self.n c.requires)
