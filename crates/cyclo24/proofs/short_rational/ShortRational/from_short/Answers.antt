use Rattle.std.proofs.Common.{◌∙◌, sym, ap, rules}
use Rattle.cyclo24.specs.Written4.{numbers4}
use Rattle.cyclo24.specs.K24Laws.{made_low, made_value}
use Rattle.cyclo24.specs.Packed4.{widened}
use Rattle.cyclo24.specs.Ratio.{packed_ratio4}
use Rattle.cyclo24.specs.PackedLaws.{ratio_same, ratio_packed}
use Rattle.cyclo24.specs.ShortK24.{exact_short}
use Rattle.cyclo24.proofs.short_rational.ShortRational.from_short.Goals as goal

pub invariant_of-result : goal.invariant_of-result
invariant_of-result c =
    let e = ratio_same c.args.number.fraction c.ratio-ratio.result (sym c.is_rational.ensures ∙ c.if-is_rational.true) c.ratio-ratio.ensures in
    record {
      packed = ratio_packed c.args.number.fraction c.ratio-ratio.result c.args.number.packed c.ratio-ratio.ensures;
      lowest = made_low (widened (packed_ratio4 c.ratio-ratio.result)) (exact_short c.args.number) (ap numbers4 e);
    }

pub returns-then-is_rational-clause-exact : goal.returns-then-is_rational-clause-exact
returns-then-is_rational-clause-exact c =
    let e = ratio_same c.args.number.fraction c.ratio-ratio.result (sym c.is_rational.ensures ∙ c.if-is_rational.true) c.ratio-ratio.ensures in
    made_value (widened (packed_ratio4 c.ratio-ratio.result)) (exact_short c.args.number) (ap numbers4 e) _
