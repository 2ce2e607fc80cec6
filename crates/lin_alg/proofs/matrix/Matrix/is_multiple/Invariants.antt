use Rattle.lin_alg.specs.Matrix.{entry}
use Rattle.lin_alg.specs.Matrices.{multiple}
use Rattle.lin_alg.proofs.SquareLemmas.{AreEqualTo}
use Rattle.lin_alg.proofs.matrix.Matrix.is_multiple.Given as goal

abbrev pub invariant-loop-e : goal.invariant-loop-e
invariant-loop-e g l =
    let f = g.F.Field.field in
    let v = g.F.Field.value in
    AreEqualTo l.self.rows (entry f.laws v l.self) (multiple f.laws (v l.factor) (entry f.laws v l.other)) l.e
