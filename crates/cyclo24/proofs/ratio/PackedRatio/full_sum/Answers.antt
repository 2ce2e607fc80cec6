use Rattle.std.proofs.Common.{◌∙◌, ap, pos}
use Rattle.std.specs.Int.RustNames.{unsigned_abs}
use Rattle.cyclo24.specs.Gcd.{lowest_terms}
use Rattle.cyclo24.specs.Listed.{is_positive}
use Rattle.cyclo24.specs.Lowest4Laws.{rational_numbers, rational_sum_numbers, low_sum_positive}
use Rattle.cyclo24.specs.Packed4.{widened, one}
use Rattle.cyclo24.specs.Ratio.{packed_ratio4}
use Rattle.cyclo24.specs.RatioLaws.{ratio_rational}
use Rattle.cyclo24.proofs.ratio.PackedRatio.full_sum.Goals as goal

pub lowered-requires-clause-positive : goal.lowered-requires-clause-positive
lowered-requires-clause-positive c =
    let e = rational_numbers (pos 1) (widened (packed_ratio4 c.args.self)) (widened (packed_ratio4 c.args.other)) c.unpacked-d.result c.unpacked-e.result c.common-common.result c.divided-p.result c.divided-q.result c.unpacked.result c.unpacked-2.result c.joined-n.result c.times.result
    c.unpacked-d.ensures c.unpacked-e.ensures c.common-common.ensures.value c.divided-p.ensures.value c.divided-q.ensures.value c.unpacked.ensures c.unpacked-2.ensures c.joined-n.ensures.value c.times.ensures.value in
    ap is_positive e.1 ∙ low_sum_positive c.args.self.d.n c.args.other.d.n c.requires.positive c.requires.positive_other

pub returns : goal.returns
returns c =
    let a = widened (packed_ratio4 c.args.self) in let b = widened (packed_ratio4 c.args.other) in
    let e = rational_numbers (pos 1) a b c.unpacked-d.result c.unpacked-e.result c.common-common.result c.divided-p.result c.divided-q.result c.unpacked.result c.unpacked-2.result c.joined-n.result c.times.result
    c.unpacked-d.ensures c.unpacked-e.ensures c.common-common.ensures.value c.divided-p.ensures.value c.divided-q.ensures.value c.unpacked.ensures c.unpacked-2.ensures c.joined-n.ensures.value c.times.ensures.value in
    let s = rational_sum_numbers one a b c.joined-n.result c.times.result (ratio_rational c.args.self c.requires.left) (ratio_rational c.args.other c.requires.right) e in
    c.lowered.ensures ∙ (λ i. lowest_terms (s.0 i) (unsigned_abs (s.1 i)))
