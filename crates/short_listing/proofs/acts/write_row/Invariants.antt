use Rattle.std.proofs.Common.{◌≡◌}
use Rattle.cyclo24.specs.ExactK24.{k24_laws}
use Rattle.cyclo24.specs.K24.{exact24}
use Rattle.lin_alg.specs.Rows.{vector}
use Rattle.lin_alg.specs.Matrix.{entry}
use Rattle.short_listing.proofs.TableLemmas.{IsRow}
use Rattle.short_listing.proofs.acts.write_row.Given as goal

abbrev pub invariant-loop-j : goal.invariant-loop-j
invariant-loop-j g l =
    (l.table.rows ≡ l.fn.table.rows) × (l.table.cols ≡ l.fn.table.cols)
    × IsRow (entry k24_laws g.S.Short.exact l.fn.table) (entry k24_laws g.S.Short.exact l.table) l.k (vector k24_laws exact24 l.row) l.j
