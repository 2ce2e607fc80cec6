use Rattle.std.proofs.Common.{◌∙◌}
use Rattle.std.specs.Int.RustNames.{unsigned_abs}
use Rattle.cyclo24.specs.K24Laws.{made_low}
use Rattle.cyclo24.specs.K24NumbersLaws.{parts_of, parts_numbers, parts_listed, parts_positive, abs_above}
use Rattle.cyclo24.proofs.k24.K24.of_parts.Goals as goal

pub reduced-requires-clause-positive : goal.reduced-requires-clause-positive
reduced-requires-clause-positive c = parts_positive c.args.d c.small.result (c.ranges.d, c.small.ensures.value) c.requires

pub invariant_of-result : goal.invariant_of-result
invariant_of-result c = record { narrow = c.reduced.ensures.narrow; lowest = made_low c.reduced.result (parts_of (record { c0 = c.args.a0; c1 = c.args.a1; c2 = c.args.a2; c3 = c.args.a3 }) (unsigned_abs c.args.d) (abs_above c.args.d c.requires)) (parts_numbers c.args.a0 c.args.a1 c.args.a2 c.args.a3 c.args.d (record { d = c.small.result; a0 = c.small-2.result; a1 = c.small-3.result; a2 = c.small-4.result; a3 = c.small-5.result }) c.reduced.result (c.ranges.a0, c.small-2.ensures.value) (c.ranges.a1, c.small-3.ensures.value) (c.ranges.a2, c.small-4.ensures.value) (c.ranges.a3, c.small-5.ensures.value) (c.ranges.d, c.small.ensures.value) c.requires c.reduced.ensures.lowest) }

pub returns : goal.returns
returns c = (parts_numbers c.args.a0 c.args.a1 c.args.a2 c.args.a3 c.args.d (record { d = c.small.result; a0 = c.small-2.result; a1 = c.small-3.result; a2 = c.small-4.result; a3 = c.small-5.result }) c.reduced.result (c.ranges.a0, c.small-2.ensures.value) (c.ranges.a1, c.small-3.ensures.value) (c.ranges.a2, c.small-4.ensures.value) (c.ranges.a3, c.small-5.ensures.value) (c.ranges.d, c.small.ensures.value) c.requires c.reduced.ensures.lowest) ∙ parts_listed c.args.a0 c.args.a1 c.args.a2 c.args.a3 c.args.d c.requires
