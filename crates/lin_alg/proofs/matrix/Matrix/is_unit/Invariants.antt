use Rattle.lin_alg.specs.Matrix.{entry}
use Rattle.lin_alg.specs.Matrices.{unit_entry}
use Rattle.lin_alg.proofs.SquareLemmas.{AreEqualTo}
use Rattle.lin_alg.proofs.matrix.Matrix.is_unit.Given as goal

abbrev pub invariant-loop-e : goal.invariant-loop-e
invariant-loop-e g l =
    let f = g.F.Field.field in
    AreEqualTo l.self.rows (entry f.laws g.F.Field.value l.self) (unit_entry f.laws) l.e
