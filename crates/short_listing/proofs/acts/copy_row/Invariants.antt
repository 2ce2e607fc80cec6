use Rattle.std.proofs.Common.{◌≡◌, ◌<◌, ℕ}
use Rattle.lin_alg.specs.Rows.{vector}
use Rattle.lin_alg.specs.Matrix.{entry}
use Rattle.short_listing.proofs.acts.copy_row.Given as goal

abbrev pub invariant-loop-j : goal.invariant-loop-j
invariant-loop-j g l =
    let f = g.F.Field.field.laws in
    let v = g.F.Field.value in
    (j : ℕ) → j < l.j → vector f v l.into j ≡ entry f v l.table l.k j
