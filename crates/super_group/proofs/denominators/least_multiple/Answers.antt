use Rattle.std.proofs.Common.{ℕ, ◌<◌, below_more}
use Rattle.super_group.specs.FirstAxes.{IsMultipleOf}
use Rattle.super_group.proofs.denominators.least_multiple.Goals as goal

pub loop-m-preserved : goal.loop-m-preserved
loop-m-preserved c =
    let P = λ (k : ℕ). 0 < k → IsMultipleOf c.args.firsts c.args.first c.args.dens.now k → ⊥ in
    λ k z l. below_more P c.loop-m.m (λ k l z. c.loop-m.invariant k z l) (λ _. c.is_multiple.ensures.no c.if-is_multiple.false) k l z
