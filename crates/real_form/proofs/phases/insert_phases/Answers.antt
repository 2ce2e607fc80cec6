use Rattle.std.proofs.Common.{◌∷◌, ℕ, subst}
use Rattle.cyclo24.specs.K24.{exact24}
use Rattle.cyclo24.specs.ExactK24.{Exact24, k24_laws}
use Rattle.lin_alg.specs.Spans.{row_vectors, IsInSpan, AreSame}
use Rattle.lin_alg.specs.Rows.{exact_rows}
use Rattle.lin_alg.specs.Echelon.{IsSpanned}
use Rattle.real_form.proofs.phases.insert_phases.Goals as goal

pub returns-in-Ok-insert-clause-span : goal.returns-in-Ok-insert-clause-span
returns-in-Ok-insert-clause-span c =
    subst (λ (v : ℕ → Exact24). AreSame (IsSpanned k24_laws exact24 c.insert.new.form) (IsInSpan k24_laws (v ∷ row_vectors (exact_rows k24_laws exact24 c.args.form.now.rows)))) c.in-Ok.ensures c.in-Ok-insert.ensures.span
