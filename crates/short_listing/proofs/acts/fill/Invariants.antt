use Rattle.std.proofs.Common.{◌≡◌, ◌<◌, ◌/◌, ◌%◌, ℕ}
use Rattle.cyclo24.specs.ExactK24.{k24_laws}
use Rattle.lin_alg.specs.Action.{entry_of}
use Rattle.lin_alg.specs.Matrix.{entry}
use Rattle.short_listing.proofs.acts.fill.Given as goal

abbrev pub invariant-loop-k : goal.invariant-loop-k
invariant-loop-k g l =
    let act = g.G.Acts.action l.acts in
    (l.table.rows ≡ l.fn.table.rows) × (l.table.cols ≡ l.fn.table.cols)
    × ((k j : ℕ) → k < l.k → j < act.dim → entry k24_laws g.S.Short.exact l.table k j ≡ entry_of k24_laws act (k / act.dim) (k % act.dim) j)
