use Rattle.std.proofs.Common.{ap, sym, subst}
use Rattle.cyclo24.specs.declared.packed4.Packed4.{Packed4}
use Rattle.cyclo24.specs.Written4.{numbers4}
use Rattle.cyclo24.specs.K24Laws.{made_low, made_value}
use Rattle.cyclo24.specs.Packed4.{widened, IsPacked4}
use Rattle.cyclo24.specs.ShortRational.{exact_rational}
use Rattle.cyclo24.proofs.short_rational.ShortRational.to_short.Goals as goal

pub invariant_of-result : goal.invariant_of-result
invariant_of-result c =
    record {
      packed = subst IsPacked4 (sym c.four.ensures) c.args.self.packed;
      lowest = made_low (widened c.four.result) (exact_rational c.args.self) (ap (λ (p : Packed4). numbers4 (widened p)) c.four.ensures);
    }

pub returns : goal.returns
returns c = made_value (widened c.four.result) (exact_rational c.args.self) (ap (λ (p : Packed4). numbers4 (widened p)) c.four.ensures) _
