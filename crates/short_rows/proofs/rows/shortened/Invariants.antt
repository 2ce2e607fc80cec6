use Rattle.std.proofs.Common.{◌≡◌, ◌<◌, ℕ}
use Rattle.cyclo24.specs.ExactK24.{k24_laws}
use Rattle.cyclo24.specs.K24.{exact24}
use Rattle.lin_alg.specs.Rows.{vector}
use Rattle.short_rows.proofs.rows.shortened.Given as goal

abbrev pub invariant-loop-j : goal.invariant-loop-j
invariant-loop-j g l = (k : ℕ) → k < l.j → vector k24_laws g.S.Short.exact l.into k ≡ vector k24_laws exact24 l.row k
