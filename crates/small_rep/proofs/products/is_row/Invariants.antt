use Rattle.std.proofs.Common.{ℕ, ◌<◌}
use Rattle.small_rep.specs.Products.{IsEntry}
use Rattle.small_rep.proofs.products.is_row.Given as goal

abbrev pub invariant-loop-j : goal.invariant-loop-j
invariant-loop-j g l = (y : ℕ) → y < l.j → IsEntry g.F.Field.field g.F.Field.value l.a.cols (g.F.Field.value l.factor) l.a l.b l.c l.i y
