use Rattle.std.proofs.Common.{ap, sym, ◌∙◌, ◌++◌, ◌∷◌, [], arith}
use Rattle.extra_modes.specs.Amounts.{nothing}
use Rattle.extra_modes.proofs.ListLemmas.{map_more}
use Rattle.extra_modes.proofs.amounts.OrbitAmounts.new.Goals as goal

pub loop-preserved : goal.loop-preserved
loop-preserved c =
    c.in-Ok.ensures.items ∙ ap (λ rows. rows ++ nothing ∷ []) c.loop.invariant
    ∙ sym (map_more (λ place. nothing) c.args.orbit.now.places c.loop.counter [] (omega (arith, c.loop-test.true, c.atoms-end.ensures.value)))
