use Rattle.std.proofs.Common.{◌≡◌, ◌∙◌, sym, false, true, below_more, arith}
use Rattle.std.proofs.lemmas.Option.{slice_get_within}
use Rattle.wyckoff.specs.OrbitParts.{HasPlace}
use Rattle.wyckoff.proofs.LineLemmas.{has-place}
use Rattle.wyckoff.proofs.orbits.first_with.Goals as goal

pub loop-i-preserved : goal.loop-i-preserved
loop-i-preserved c =
    below_more (λ k. HasPlace c.args.orbits.now k c.args.place → ⊥) c.loop-i.i c.loop-i.invariant
    (λ p.
    let t : false ≡ true =
    sym c.if-has_place.false ∙ c.has_place.ensures.1 (has-place c.args.orbits.now c.loop-i.i c.args.place c.index-orbits-i.result c.index-orbits-i.is p) in cc)

pub returns : goal.returns
returns c i p =
    let l = slice_get_within c.args.orbits.now i p.orbit p.is in
    let m = c.loop-i-test.false in
    c.loop-i.invariant i (omega (arith, l, m)) p
