use Rattle.std.proofs.Common.{◌≡◌, ◌<◌, ◌/◌, ◌%◌, ℕ, length}
use Rattle.lin_alg.specs.Matrix.{entry}
use Rattle.couple.specs.Links.{IsZero, average}
use Rattle.couple.specs.Listed.{lifted}
use Rattle.couple.proofs.averages.first_average.Given as goal

abbrev pub invariant-loop-p : goal.invariant-loop-p
invariant-loop-p g l =
    let f = g.F.Field.field in
    let v = g.F.Field.value in
    let pair = lifted f.laws (g.P.Pairs.pair l.pairs) in
    (l.sums.rows ≡ l.fn.sums.rows) × (l.sums.cols ≡ l.fn.sums.cols) × (length l.row ≡ length l.fn.row) × IsZero f.laws pair (entry f.laws v l.sums)
    × ((k : ℕ) → k < l.p → IsZero f.laws pair (average f.laws pair (k / l.cols) (k % l.cols)))
