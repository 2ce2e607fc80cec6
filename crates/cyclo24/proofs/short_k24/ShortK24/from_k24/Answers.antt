use Rattle.std.proofs.Common.{rules, sym, ap, ◌∙◌}
use Rattle.cyclo24.specs.declared.short4.Short4.{Short4}
use Rattle.cyclo24.specs.K24.{exact24}
use Rattle.cyclo24.specs.K24Laws.{made_low, made_value}
use Rattle.cyclo24.specs.Written4.{numbers4}
use Rattle.cyclo24.specs.Short4.{wide_of}
use Rattle.cyclo24.specs.Packed4.{widened}
use Rattle.std.specs.Prelude.{not}
use Rattle.std.specs.List.{list_all}
use Rattle.cyclo24.specs.Long.{is_short}
use Rattle.cyclo24.specs.LongLaws.{long_is}
use Rattle.cyclo24.proofs.short_k24.ShortK24.from_k24.Goals as goal

pub packed-fraction-requires : goal.packed-fraction-requires
packed-fraction-requires c =
    ap (λ (r : Short4). list_all is_short (numbers4 (wide_of r))) c.short.ensures ∙ sym c.is_short.ensures.exact ∙ c.if-is_short.true

pub invariant_of-result : goal.invariant_of-result
invariant_of-result c =
    let e = c.packed-fraction.ensures.value ∙ ap wide_of c.short.ensures in
    record { packed = c.packed-fraction.ensures.packed; lowest = made_low (widened c.packed-fraction.result) (exact24 c.args.number) (ap numbers4 e) }

pub returns-then-is_short-clause-exact : goal.returns-then-is_short-clause-exact
returns-then-is_short-clause-exact c =
    let e = c.packed-fraction.ensures.value ∙ ap wide_of c.short.ensures in
    made_value (widened c.packed-fraction.result) (exact24 c.args.number) (ap numbers4 e) _

pub returns-then-is_short-clause-long : goal.returns-then-is_short-clause-long
returns-then-is_short-clause-long c = let h = long_is (numbers4 c.args.number.fraction) ∙ ap not (sym c.is_short.ensures.exact ∙ c.if-is_short.true) in search (rules, h)

pub returns-else-is_short-clause-long : goal.returns-else-is_short-clause-long
returns-else-is_short-clause-long c = let h = long_is (numbers4 c.args.number.fraction) ∙ ap not (sym c.is_short.ensures.exact ∙ c.if-is_short.false) in search (rules, h)
