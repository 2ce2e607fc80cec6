use Rattle.std.proofs.Common.{ap}
use Rattle.cyclo24.specs.Written4.{numbers4}
use Rattle.cyclo24.specs.K24Laws.{made_low, made_value}
use Rattle.cyclo24.specs.PackedLaws.{widened_narrow}
use Rattle.cyclo24.specs.ShortK24.{exact_short}
use Rattle.cyclo24.proofs.short_k24.ShortK24.to_k24.Goals as goal

pub invariant_of-result : goal.invariant_of-result
invariant_of-result c =
    record {
      narrow = widened_narrow c.args.self.fraction c.widened.result c.args.self.packed c.widened.ensures;
      lowest = made_low c.widened.result (exact_short c.args.self) (ap numbers4 c.widened.ensures);
    }

pub returns : goal.returns
returns c = made_value c.widened.result (exact_short c.args.self) (ap numbers4 c.widened.ensures) _
