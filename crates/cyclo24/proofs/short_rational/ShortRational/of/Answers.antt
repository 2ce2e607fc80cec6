use Rattle.std.proofs.Common.{◌∙◌, sym, ap, rules}
use Rattle.std.specs.Prelude.{not}
use Rattle.cyclo24.specs.Written4.{numbers4}
use Rattle.cyclo24.specs.Listed.{is_exact}
use Rattle.cyclo24.specs.LongLaws.{long_is}
use Rattle.cyclo24.specs.Ratio.{ratio4, packed_ratio4}
use Rattle.cyclo24.proofs.short_rational.ShortRational.of.Goals as goal

pub packed-requires : goal.packed-requires
packed-requires c = sym c.is_short.ensures ∙ c.if-is_short.true

pub invariant_of-result : goal.invariant_of-result
invariant_of-result c = record { packed = c.packed.ensures.packed; lowest = ap (λ r. is_exact 4 (numbers4 r)) c.packed.ensures.value ∙ c.requires }

pub returns-then-is_short-clause-exact : goal.returns-then-is_short-clause-exact
returns-then-is_short-clause-exact c = ap numbers4 c.packed.ensures.value

pub returns-then-is_short-clause-wide : goal.returns-then-is_short-clause-wide
returns-then-is_short-clause-wide c = let h = long_is (numbers4 (ratio4 c.args.number)) ∙ ap not (sym c.is_short.ensures ∙ c.if-is_short.true) in search (rules, h)

pub returns-else-is_short-clause-wide : goal.returns-else-is_short-clause-wide
returns-else-is_short-clause-wide c = let h = long_is (numbers4 (ratio4 c.args.number)) ∙ ap not (sym c.is_short.ensures ∙ c.if-is_short.false) in search (rules, h)
