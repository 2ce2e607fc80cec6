use Rattle.lin_alg.specs.FormLaws.{form-equations}
use Rattle.lin_alg.specs.Spans.{row_vectors}
use Rattle.lin_alg.specs.FreeLaws.{free-span}
use Rattle.lin_alg.specs.Equations.{Vanishes}
use Rattle.lin_alg.proofs.laws.law_of_equations.Goals as goal

pub returns-clause-equations : goal.returns-clause-equations
returns-clause-equations g c w rs r = form-equations g.F.Field.field.laws w (Vanishes g.F.Field.field.laws w (row_vectors rs)) rs r (λ v. (λ k. k, λ k. k))

pub returns-clause-free : goal.returns-clause-free
returns-clause-free g c = free-span g.F.Field.field.laws
