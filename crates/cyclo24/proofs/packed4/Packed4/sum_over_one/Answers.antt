use Rattle.std.proofs.Common.{refl, pos}
use Rattle.cyclo24.specs.Short4.{wide_of}
use Rattle.cyclo24.specs.Packed4.{widened}
use Rattle.cyclo24.specs.PackedLaws.{sum_over_one, added}
use Rattle.cyclo24.proofs.packed4.Packed4.sum_over_one.Goals as goal

pub returns : goal.returns
returns c =
    sum_over_one (widened c.args.self) (widened c.args.other) (wide_of (record { d = record { n = pos 1 }; a0 = c.plus.result; a1 = c.plus-2.result; a2 = c.plus-3.result; a3 = c.plus-4.result })) c.requires.one c.requires.one_other refl
    (added c.plus.result c.unpacked.result c.unpacked-2.result c.unpacked.ensures c.unpacked-2.ensures c.plus.ensures.value)
    (added c.plus-2.result c.unpacked-3.result c.unpacked-4.result c.unpacked-3.ensures c.unpacked-4.ensures c.plus-2.ensures.value)
    (added c.plus-3.result c.unpacked-5.result c.unpacked-6.result c.unpacked-5.ensures c.unpacked-6.ensures c.plus-3.ensures.value)
    (added c.plus-4.result c.unpacked-7.result c.unpacked-8.result c.unpacked-7.ensures c.unpacked-8.ensures c.plus-4.ensures.value)
