use Rattle.std.proofs.Common.{◌≡◌, ap, sym, ◌∙◌, ◌++◌, ◌∷◌, [], List, ℤ, map, get_or}
use Rattle.std.proofs.lemmas.Option.{slice_get_within, get_or_from_slice_get}
use Rattle.wyckoff.specs.Orbit.{OrbitView}
use Rattle.extra_modes.specs.Amounts.{nothing}
use Rattle.extra_modes.proofs.ListLemmas.{map_more}
use Rattle.extra_modes.proofs.gathering.no_amounts.Goals as goal

pub loop-o-preserved : goal.loop-o-preserved
loop-o-preserved c =
    let orbit : OrbitView = c.get.result.now in
    let f : OrbitView → List (List ℤ) = λ (o : OrbitView). map (λ place. nothing) o.places in
    let at : get_or c.args.orbits.now c.loop-o.o orbit ≡ orbit = get_or_from_slice_get c.args.orbits.now c.loop-o.o orbit orbit c.get.ensures in
    c.in-Ok.ensures.items ∙ (λ i. c.loop-o.invariant i ++ (c.in_ok-row.ensures ∙ ap f (sym at)) i ∷ [])
    ∙ sym (map_more f c.args.orbits.now c.loop-o.o orbit (slice_get_within c.args.orbits.now c.loop-o.o orbit c.get.ensures))
