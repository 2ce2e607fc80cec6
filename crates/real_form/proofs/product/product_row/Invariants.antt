use Rattle.std.proofs.Common.{◌≡◌, ◌<◌, ◌+◌, ℕ}
use Rattle.lin_alg.specs.Matrix.{entry}
use Rattle.lin_alg.specs.Rows.{vector}
use Rattle.cyclo24.specs.Sums.{total}
use Rattle.real_form.proofs.TermLemmas.{IsNarrowBefore}
use Rattle.real_form.proofs.product.product_row.Given as goal

abbrev pub invariant-loop-k : goal.invariant-loop-k
invariant-loop-k g l =
    let f = g.F.Field.field in
    let v = g.F.Field.value in
    ((j : ℕ) → j < l.right.cols → vector f.laws v l.into j ≡ total f.laws l.k (λ k. f.laws.times (entry f.laws v l.left l.p k) (entry f.laws v l.right (l.first + k) j)))
    × ((j : ℕ) → j < l.right.cols → IsNarrowBefore f l.k (entry f.laws v l.left l.p) (λ k. entry f.laws v l.right (l.first + k) j))
