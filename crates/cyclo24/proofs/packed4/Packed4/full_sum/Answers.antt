use Rattle.std.proofs.Common.{◌∙◌, pos}
use Rattle.std.specs.Int.RustNames.{unsigned_abs}
use Rattle.cyclo24.specs.Gcd.{lowest_terms}
use Rattle.cyclo24.specs.Packed4.{widened}
use Rattle.cyclo24.specs.Lowest4Laws.{sum_numbers, sum_low_positive}
use Rattle.cyclo24.proofs.packed4.Packed4.full_sum.Goals as goal

pub lowered-requires-clause-positive : goal.lowered-requires-clause-positive
lowered-requires-clause-positive c = sum_low_positive (widened c.args.self) (widened c.args.other) c.unpacked.result c.unpacked-2.result c.sum.result c.unpacked.ensures.value c.unpacked-2.ensures.value c.requires.positive c.requires.positive_other c.sum.ensures.low

pub returns : goal.returns
returns c =
    let e = sum_numbers (pos 1) (widened c.args.self) (widened c.args.other) c.unpacked.result c.unpacked-2.result c.sum.result c.unpacked.ensures.value c.unpacked-2.ensures.value c.sum.ensures.a0 c.sum.ensures.a1 c.sum.ensures.a2 c.sum.ensures.a3 c.sum.ensures.low in
    c.lowered.ensures.lowest ∙ (λ i. lowest_terms (e.0 i) (unsigned_abs (e.1 i)))
