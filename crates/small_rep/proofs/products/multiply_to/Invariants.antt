use Rattle.std.proofs.Common.{ℕ, ◌<◌}
use Rattle.small_rep.specs.Products.{IsEntry}
use Rattle.small_rep.proofs.products.multiply_to.Given as goal

abbrev pub invariant-loop-i : goal.invariant-loop-i
invariant-loop-i g l = (x : ℕ) → x < l.i → (y : ℕ) → y < l.a.cols → IsEntry g.F.Field.field g.F.Field.value l.a.cols (g.F.Field.value l.factor) l.a l.b l.c x y
