use Rattle.std.proofs.Common.{◌≡◌, ◌<◌, ℕ}
use Rattle.cyclo24.specs.K24.{exact24}
use Rattle.cyclo24.specs.ShortK24.{exact_short}
use Rattle.cyclo24.specs.ExactK24.{k24_laws}
use Rattle.lin_alg.specs.Matrix.{entry}
use Rattle.real_form.proofs.narrow.short_matrix.Given as goal

abbrev pub invariant-loop-i : goal.invariant-loop-i
invariant-loop-i l =
    (l.short.rows ≡ l.matrix.rows) × (l.short.cols ≡ l.matrix.cols)
    × ((k j : ℕ) → k < l.i → j < l.matrix.cols → entry k24_laws exact_short l.short k j ≡ entry k24_laws exact24 l.matrix k j)
