use Rattle.std.proofs.Common.{◌≡◌, ℕ}
use Rattle.cyclo24.specs.Sums.{total}
use Rattle.lin_alg.specs.Rows.{vector}
use Rattle.mode_project.specs.AtomSpace.{matrix_of}
use Rattle.mode_project.proofs.column.fill_column.Given as goal

abbrev pub invariant-loop-q : goal.invariant-loop-q
invariant-loop-q g l =
    let f = g.F.Field.field.laws in
    (r : ℕ) → vector f g.F.Field.value l.column r ≡ total f l.q (λ p. f.times (vector f g.F.Field.value l.weights p) (matrix_of f g.S.OfSpace.space p r l.b))
