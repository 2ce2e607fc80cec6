use Rattle.std.proofs.Common.{◌≡◌}
use Rattle.cyclo24.specs.K24.{exact24}
use Rattle.cyclo24.specs.ShortK24.{exact_short}
use Rattle.cyclo24.specs.ExactK24.{k24_laws}
use Rattle.lin_alg.specs.Matrix.{entry}
use Rattle.real_form.proofs.FilledLemmas.{IsFilled}
use Rattle.real_form.proofs.narrow.fill_row.Given as goal

abbrev pub invariant-loop-j : goal.invariant-loop-j
invariant-loop-j l =
    (l.into.rows ≡ l.fn.into.rows) × (l.into.cols ≡ l.fn.into.cols)
    × IsFilled (entry k24_laws exact_short l.fn.into) (entry k24_laws exact_short l.into) l.i (entry k24_laws exact24 l.matrix l.i) l.j
