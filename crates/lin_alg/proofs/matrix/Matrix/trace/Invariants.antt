use Rattle.std.proofs.Common.{◌≡◌}
use Rattle.cyclo24.specs.Sums.{total}
use Rattle.lin_alg.specs.Matrix.{entry}
use Rattle.lin_alg.proofs.matrix.Matrix.trace.Given as goal

abbrev pub invariant-loop-i : goal.invariant-loop-i
invariant-loop-i g l =
    let f = g.F.Field.field in
    let v = g.F.Field.value in
    v l.sum ≡ total f.laws l.i (λ k. entry f.laws v l.self k k)
