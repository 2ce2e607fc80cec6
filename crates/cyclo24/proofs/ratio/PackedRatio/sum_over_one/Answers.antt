use Rattle.std.proofs.Common.{refl, pos}
use Rattle.cyclo24.specs.Ratio.{ratio4, packed_ratio4}
use Rattle.cyclo24.specs.Packed4.{widened}
use Rattle.cyclo24.specs.PackedLaws.{sum_over_one, added}
use Rattle.cyclo24.proofs.ratio.PackedRatio.sum_over_one.Goals as goal

pub returns : goal.returns
returns c =
    sum_over_one (widened (packed_ratio4 c.args.self)) (widened (packed_ratio4 c.args.other)) (ratio4 (record { d = record { n = pos 1 }; n = c.plus.result })) c.requires.one c.requires.one_other refl
    (added c.plus.result c.unpacked.result c.unpacked-2.result c.unpacked.ensures c.unpacked-2.ensures c.plus.ensures.value) refl refl refl
