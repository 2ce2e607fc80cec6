use Rattle.std.proofs.Common.{ℕ, ◌∷◌, subst}
use Rattle.lin_alg.specs.Spans.{row_vectors, IsInSpan, AreSame}
use Rattle.lin_alg.specs.Rows.{exact_rows}
use Rattle.lin_alg.specs.Insertion.{IsWideInsert}
use Rattle.couple.proofs.EntryLemmas.{same-error}
use Rattle.couple.proofs.rank.insert_matrix_row.Goals as goal

pub returns-in-Ok-clause-span : goal.returns-in-Ok-clause-span
returns-in-Ok-clause-span g c =
    let f = g.F.Field.field in
    let v = g.F.Field.value in
    subst (λ (x : ℕ → _). AreSame (IsInSpan f.laws (row_vectors (exact_rows f.laws v c.insert.new.self.rows))) (IsInSpan f.laws (x ∷ row_vectors (exact_rows f.laws v c.args.form.now.rows)))) c.fill_row.ensures c.in-Ok.ensures.span

pub returns-in-Err-clause-wide : goal.returns-in-Err-clause-wide
returns-in-Err-clause-wide g c e =
    let f = g.F.Field.field in
    let v = g.F.Field.value in
    subst (λ (x : ℕ → _). IsWideInsert f (exact_rows f.laws v c.args.form.now.rows) x) c.fill_row.ensures (c.in-Err.ensures.wide (same-error _ _ e)).1
