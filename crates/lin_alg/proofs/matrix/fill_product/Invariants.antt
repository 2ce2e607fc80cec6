use Rattle.std.proofs.Common.{◌/◌, ◌%◌}
use Rattle.lin_alg.specs.Matrix.{entry}
use Rattle.lin_alg.specs.Matrices.{mul}
use Rattle.lin_alg.specs.Rows.{vector}
use Rattle.lin_alg.proofs.WriteLemmas.{IsWritten}
use Rattle.lin_alg.proofs.matrix.fill_product.Given as goal

abbrev pub invariant-loop-p : goal.invariant-loop-p
invariant-loop-p g l =
    let f = g.F.Field.field in
    let v = g.F.Field.value in
    IsWritten f v (λ p. mul f.laws l.a.cols (entry f.laws v l.a) (entry f.laws v l.b) (p / l.b.cols) (p % l.b.cols)) (vector f.laws v l.fn.entries) l.entries l.p
