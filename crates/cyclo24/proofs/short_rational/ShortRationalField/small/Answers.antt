use Rattle.std.proofs.Common.{ap, ◌∙◌, lit≤}
use Rattle.std.specs.Prelude.{pos}
use Rattle.cyclo24.specs.declared.packed.Packed.{Packed}
use Rattle.cyclo24.specs.ExactK24.{k24_laws}
use Rattle.cyclo24.specs.Numerals.{of_whole}
use Rattle.cyclo24.specs.K24Laws.{made_low, made_value}
use Rattle.cyclo24.specs.K24NumbersLaws.{whole_list}
use Rattle.cyclo24.specs.K24Numbers.{whole_numbers}
use Rattle.cyclo24.specs.Packed4.{widened}
use Rattle.cyclo24.specs.Ratio.{packed_ratio4}
use Rattle.cyclo24.specs.LongLaws.{byte_packed}
use Rattle.cyclo24.proofs.short_rational.ShortRationalField.small.Goals as goal

pub invariant_of-result : goal.invariant_of-result
invariant_of-result c =
    let e = ap (λ (p : Packed). whole_numbers p.n) (byte_packed c.byte.result c.args.n c.ranges.n c.byte.ensures.value) ∙ whole_list c.args.n in
    record {
      packed = record { d = lit≤ tt; a0 = c.byte.ensures.short; a1 = lit≤ tt; a2 = lit≤ tt; a3 = lit≤ tt };
      lowest = made_low (widened (packed_ratio4 (record { d = record { n = pos 1 }; n = c.byte.result }))) (of_whole k24_laws c.args.n) e;
    }

pub returns : goal.returns
returns c =
    let e = ap (λ (p : Packed). whole_numbers p.n) (byte_packed c.byte.result c.args.n c.ranges.n c.byte.ensures.value) ∙ whole_list c.args.n in
    made_value (widened (packed_ratio4 (record { d = record { n = pos 1 }; n = c.byte.result }))) (of_whole k24_laws c.args.n) e _
