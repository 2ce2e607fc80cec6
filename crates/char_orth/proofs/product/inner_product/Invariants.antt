use Rattle.std.proofs.Common.{◌≡◌}
use Rattle.cyclo24.specs.Sums.{total}
use Rattle.lin_alg.specs.Rows.{vector}
use Rattle.char_orth.proofs.product.inner_product.Given as goal

abbrev pub invariant-loop-q : goal.invariant-loop-q
invariant-loop-q g l =
    let f = g.F.Field.field in
    let v = g.F.Field.value in
    v l.sum ≡ total f.laws l.q (λ a. f.laws.times (vector f.laws v l.left a) (vector f.laws v l.right a))
