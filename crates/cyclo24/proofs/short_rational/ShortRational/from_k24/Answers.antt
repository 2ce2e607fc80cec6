use Rattle.std.proofs.Common.{◌≡◌, false, ap, subst}
use Rattle.std.specs.Prelude.{◌↔◌, IsNone, not}
use Rattle.cyclo24.specs.ExactK24.{Exact24}
use Rattle.cyclo24.specs.K24.{exact24}
use Rattle.cyclo24.specs.ExactShort.{is_short24, is_rational24}
use Rattle.cyclo24.specs.ExactShortLaws.{wide_some, held_by}
use Rattle.cyclo24.proofs.short_rational.ShortRational.from_k24.Goals as goal

pub returns-clause-none : goal.returns-clause-none
returns-clause-none c =
    let v = exact24 c.args.number in
    held_by (is_short24 v) (is_rational24 v) (IsNone c.from_short.result) (ap not (wide_some c.from_k24.result c.in_ok-short.short _ c.from_k24.ensures.long c.in_ok-short.was))
    (subst (λ (x : Exact24). IsNone c.from_short.result ↔ (is_rational24 x ≡ false)) c.in_ok-short.ensures.exact c.from_short.ensures.rational)
