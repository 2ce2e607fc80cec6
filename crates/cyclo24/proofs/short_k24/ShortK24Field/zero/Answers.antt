use Rattle.std.proofs.Common.{ap, sym, subst, lit≤}
use Rattle.cyclo24.specs.declared.packed4.Packed4.{Packed4}
use Rattle.cyclo24.specs.ExactK24.{k24_laws}
use Rattle.cyclo24.specs.K24Laws.{made_low, made_value, zero24}
use Rattle.cyclo24.specs.Written4.{numbers4}
use Rattle.cyclo24.specs.Packed4.{widened, IsPacked4}
use Rattle.cyclo24.proofs.short_k24.ShortK24Field.zero.Goals as goal
use Rattle.std.proofs.Common.{◌∙◌}

pub invariant_of-result : goal.invariant_of-result
invariant_of-result c =
    record {
      packed = subst IsPacked4 (sym c.rational.ensures) (record { d = lit≤ tt; a0 = lit≤ tt; a1 = lit≤ tt; a2 = lit≤ tt; a3 = lit≤ tt });
      lowest = made_low (widened c.rational.result) k24_laws.nought (ap (λ (p : Packed4). numbers4 (widened p)) c.rational.ensures ∙ zero24);
    }

pub returns : goal.returns
returns c = made_value (widened c.rational.result) k24_laws.nought (ap (λ (p : Packed4). numbers4 (widened p)) c.rational.ensures ∙ zero24) _
