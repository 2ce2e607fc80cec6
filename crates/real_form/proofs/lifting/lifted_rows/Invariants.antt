use Rattle.cyclo24.specs.K24.{exact24}
use Rattle.cyclo24.specs.ExactK24.{k24_laws}
use Rattle.lin_alg.specs.Rows.{exact_rows}
use Rattle.real_form.specs.Parts.{lifted}
use Rattle.real_form.specs.Bases.{row_at}
use Rattle.real_form.specs.Complexes.{z24_parts}
use Rattle.real_form.specs.Vectors.{lines_of}
use Rattle.real_form.proofs.LineLemmas.{AreLifted}
use Rattle.real_form.proofs.lifting.lifted_rows.Given as goal

abbrev pub invariant-loop-line : goal.invariant-loop-line
invariant-loop-line l = AreLifted l.n (λ m. lifted z24_parts l.n (row_at k24_laws (exact_rows k24_laws exact24 (lines_of l.lines)) m)) l.vectors.items l.line-index
