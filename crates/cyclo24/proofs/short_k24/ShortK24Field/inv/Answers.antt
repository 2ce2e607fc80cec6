use Rattle.std.proofs.Common.{rules, ◌≡◌, true, sym, ap, ◌∙◌}
use Rattle.cyclo24.specs.ExactK24.{Exact24, k24_laws, is_wide_inverse24}
use Rattle.cyclo24.specs.Long.{is_long}
use Rattle.cyclo24.specs.K24Laws.{made_low}
use Rattle.cyclo24.specs.Written4.{numbers4}
use Rattle.cyclo24.specs.Written4Inverse.{upright}
use Rattle.cyclo24.specs.Short4.{wide_of}
use Rattle.cyclo24.specs.Packed4.{widened}
use Rattle.cyclo24.specs.Ratio.{swapped}
use Rattle.cyclo24.specs.PackedLaws.{within, ratio_same, ratio_packed}
use Rattle.cyclo24.specs.ShortInverseLaws.{short_inverse}
use Rattle.cyclo24.specs.SwappedLaws.{swapped_inverse}
use Rattle.cyclo24.specs.ShortK24.{exact_short}
use Rattle.cyclo24.specs.ExactShortLaws.{answered_exact, answered_wide, wide_err, wide_some, never}
use Rattle.cyclo24.proofs.short_k24.ShortK24Field.inv.Goals as goal

pub returns-in_err-inverse-clause-wide : goal.returns-in_err-inverse-clause-wide
returns-in_err-inverse-clause-wide c =
    let x = exact_short c.args.self in
    let e = ap is_wide_inverse24 (sym c.to_k24.ensures) ∙ wide_err c.inv.result _ _ c.inv.ensures.wide c.in_err-inverse.was in
    let h : is_long (k24_laws.inverse x).0 ≡ true = never (is_wide_inverse24 x) (is_long (k24_laws.inverse x).0 ≡ true) e (short_inverse (widened c.args.self.fraction) (within c.args.self.fraction c.args.self.packed)) in
    search (rules, h)

pub returns-in-Some-clause-wide : goal.returns-in-Some-clause-wide
returns-in-Some-clause-wide c =
    let v = ap k24_laws.inverse (sym c.to_k24.ensures) ∙ sym c.in_ok-inverse.ensures.exact in
    let h = ap (λ (y : Exact24). is_long y.0) v ∙ wide_some c.from_k24.result c.in-Some.short _ c.from_k24.ensures.long c.in-Some.is in
    search (rules, h)

pub inverse-requires : goal.inverse-requires
inverse-requires c = ratio_packed c.args.self.fraction c.ratio.result c.args.self.packed c.ratio.ensures

pub of-requires : goal.of-requires
of-requires c = made_low (wide_of c.four.result) (k24_laws.inverse (exact_short c.args.self)) (let h = sym c.is_rational.ensures ∙ c.if-is_rational.true in let f = c.args.self.fraction in
    swapped_inverse (widened f) (wide_of c.four.result) c.args.self.lowest h c.requires (c.four.ensures ∙ c.inverse.ensures ∙ ap (λ r. upright (swapped r)) (ratio_same f c.ratio.result h c.ratio.ensures)))

pub returns-then-is_rational-clause-exact : goal.returns-then-is_rational-clause-exact
returns-then-is_rational-clause-exact c = answered_exact exact_short c.of.result (numbers4 (wide_of c.four.result)) (k24_laws.inverse (exact_short c.args.self)) (let h = sym c.is_rational.ensures ∙ c.if-is_rational.true in let f = c.args.self.fraction in
    swapped_inverse (widened f) (wide_of c.four.result) c.args.self.lowest h c.requires (c.four.ensures ∙ c.inverse.ensures ∙ ap (λ r. upright (swapped r)) (ratio_same f c.ratio.result h c.ratio.ensures))) c.of.ensures.exact

pub returns-then-is_rational-clause-wide : goal.returns-then-is_rational-clause-wide
returns-then-is_rational-clause-wide c = answered_wide c.of.result (numbers4 (wide_of c.four.result)) (k24_laws.inverse (exact_short c.args.self)) (let h = sym c.is_rational.ensures ∙ c.if-is_rational.true in let f = c.args.self.fraction in
    swapped_inverse (widened f) (wide_of c.four.result) c.args.self.lowest h c.requires (c.four.ensures ∙ c.inverse.ensures ∙ ap (λ r. upright (swapped r)) (ratio_same f c.ratio.result h c.ratio.ensures))) c.of.ensures.wide
