use Rattle.std.proofs.Common.{ap, ◌∙◌, sym, subst, lit≤}
use Rattle.cyclo24.specs.declared.packed.Packed.{Packed}
use Rattle.cyclo24.specs.declared.packed4.Packed4.{Packed4}
use Rattle.cyclo24.specs.ExactK24.{k24_laws}
use Rattle.cyclo24.specs.Numerals.{of_whole}
use Rattle.cyclo24.specs.K24Laws.{made_low, made_value}
use Rattle.cyclo24.specs.K24NumbersLaws.{whole_list}
use Rattle.cyclo24.specs.K24Numbers.{whole_numbers}
use Rattle.cyclo24.specs.Written4.{numbers4}
use Rattle.cyclo24.specs.Packed4.{widened, IsPacked4}
use Rattle.cyclo24.specs.LongLaws.{byte_packed}
use Rattle.cyclo24.proofs.short_k24.ShortK24Field.small.Goals as goal

pub invariant_of-result : goal.invariant_of-result
invariant_of-result c =
    let e = ap (λ (p : Packed4). numbers4 (widened p)) c.rational.ensures ∙ ap (λ (p : Packed). whole_numbers p.n) (byte_packed c.byte.result c.args.n c.ranges.n c.byte.ensures.value) ∙ whole_list c.args.n in
    record {
      packed = subst IsPacked4 (sym c.rational.ensures) (record { d = lit≤ tt; a0 = c.byte.ensures.short; a1 = lit≤ tt; a2 = lit≤ tt; a3 = lit≤ tt });
      lowest = made_low (widened c.rational.result) (of_whole k24_laws c.args.n) e;
    }

pub returns : goal.returns
returns c =
    let e = ap (λ (p : Packed4). numbers4 (widened p)) c.rational.ensures ∙ ap (λ (p : Packed). whole_numbers p.n) (byte_packed c.byte.result c.args.n c.ranges.n c.byte.ensures.value) ∙ whole_list c.args.n in
    made_value (widened c.rational.result) (of_whole k24_laws c.args.n) e _
