use Rattle.lin_alg.specs.Equations.{Vanishes}
use Rattle.lin_alg.specs.FormLaws.{vanishes-subspace}
use Rattle.lin_alg.specs.UnionLaws.{avoiding}
use Rattle.lin_alg.specs.WitnessLaws.{vanishes-or}
use Rattle.lin_alg.proofs.laws.law_of_unions.Goals as goal

pub returns : goal.returns
returns g c w rs n ss =
    let f = g.F.Field.field.laws in
    avoiding f g.F.Field.field.characteristic_zero (Vanishes f w rs) (vanishes-subspace f w rs) (λ i. Vanishes f w (ss i)) n (λ i l. vanishes-subspace f w (ss i)) (λ i v l. vanishes-or f w (ss i) v)
