use Rattle.std.proofs.Common.{subst, ◌+◌, ◌-◌, ◌/◌, ℤ, List, ◌≤ℤ◌, ◌<ℤ◌, w64, rules, arith}
use Rattle.std.proofs.lemmas.Int.{ints, to_z-of_z}
use Rattle.space_ops.specs.Op.{number_at}
use Rattle.distort_match.proofs.WindowLemmas.{upper_half, lower_half}
use Rattle.distort_match.proofs.windows.halved.Goals as goal

pub returns-then-place-v-clause-between : goal.returns-then-place-v-clause-between
returns-then-place-v-clause-between c =
    let low = c.args.range.low in
    let high = c.args.range.high in
    let p = to_z-of_z w64 (number_at c.place.result 0) (search rules) in
    let q = to_z-of_z w64 c.args.v c.ranges.v in
    let l : number_at c.place.result 0 <ℤ c.args.v = omega (arith, ints, p, q, c.if-place-v.true) in
    upper_half c.args.orbit.now.places c.requires.rising c.args.v low high (low + (high - low) / 2) c.requires.between (omega arith) (omega (arith, c.requires.some))
    (subst (λ (a : List ℤ). number_at a 0 <ℤ c.args.v) c.place.ensures.value l)

pub returns-clause-between : goal.returns-clause-between
returns-clause-between c =
    let low = c.args.range.low in
    let high = c.args.range.high in
    let p = to_z-of_z w64 (number_at c.place.result 0) (search rules) in
    let q = to_z-of_z w64 c.args.v c.ranges.v in
    let l : c.args.v ≤ℤ number_at c.place.result 0 = omega (arith, ints, p, q, c.if-place-v.false) in
    lower_half c.args.orbit.now.places c.requires.rising c.args.v low high (low + (high - low) / 2) c.requires.between (omega arith) (omega (arith, c.requires.some))
    (subst (λ (a : List ℤ). c.args.v ≤ℤ number_at a 0) c.place.ensures.value l)
