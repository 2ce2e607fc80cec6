use Rattle.std.proofs.Common.{◌≡◌}
use Rattle.cyclo24.specs.Sums.{total}
use Rattle.mode_project.specs.Parts.{rows_in, row_in}
use Rattle.mode_project.proofs.rank.diagonal.Given as goal

abbrev pub invariant-loop-b : goal.invariant-loop-b
invariant-loop-b g l =
    let f = g.F.Field.field.laws in
    g.F.Field.value l.sum ≡ total f l.b (λ b. row_in f g.F.Field.value (rows_in l.columns) b b)
