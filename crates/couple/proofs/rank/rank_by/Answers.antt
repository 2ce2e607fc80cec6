use Rattle.std.proofs.Common.{◌≡◌, ◌≤◌, ℕ, suc, sym, ◌∙◌, add-one, subst, arith}
use Rattle.lin_alg.specs.Spans.{row_vectors, IsInSpan, AreSame}
use Rattle.lin_alg.specs.Rows.{exact_rows}
use Rattle.lin_alg.specs.Matrix.{entry}
use Rattle.lin_alg.specs.FormLaws.{form-length}
use Rattle.lin_alg.specs.Reduced.{IsForm}
use Rattle.lin_alg.specs.Solving.{plain_rows}
use Rattle.couple.proofs.EntryLemmas.{same-more, exact-length}
use Rattle.couple.proofs.rank.rank_by.Goals as goal

pub loop-i-preserved : goal.loop-i-preserved
loop-i-preserved g c =
    let f = g.F.Field.field in
    let v = g.F.Field.value in
    let m = c.args.rows.now in
    let i = c.loop-i.i in
    let row : ℕ → _ = entry f.laws v m i in
    let more = same-more f.laws (row_vectors (exact_rows f.laws v c.loop-i.form.rows)) (plain_rows (entry f.laws v m) i) row c.loop-i.invariant.3 in
    let span : AreSame (IsInSpan f.laws (row_vectors (exact_rows f.laws v c.insert_matrix_row.new.form.rows))) (IsInSpan f.laws (plain_rows (entry f.laws v m) (suc i))) =
    λ u. (λ h. (more u).0 ((c.in-Ok.ensures.span u).0 h), λ h. (c.in-Ok.ensures.span u).1 ((more u).1 h)) in (
      c.in-Ok.ensures.width ∙ c.loop-i.invariant.0,
      c.in-Ok.ensures.whole,
      c.in-Ok.ensures.form,
      subst (λ (k : ℕ). AreSame (IsInSpan f.laws (row_vectors (exact_rows f.laws v c.insert_matrix_row.new.form.rows))) (IsInSpan f.laws (plain_rows (entry f.laws v m) k))) (sym (add-one i)) span,
      c.loop-i.invariant.4,
    )

pub returns-clause-rank : goal.returns-clause-rank
returns-clause-rank g c =
    let f = g.F.Field.field in
    let v = g.F.Field.value in
    let m = c.args.rows.now in
    let rs = exact_rows f.laws v c.loop-i.form.rows in
    let e : c.loop-i.i ≡ m.rows = omega (arith, c.loop-i-test.false, c.loop-i.auto.i-end, c.rows-n.ensures.value) in
    let form : IsForm f.laws m.cols rs = subst (λ (w : ℕ). IsForm f.laws w rs) c.loop-i.invariant.0 (c.loop-i.invariant.2.form c.loop-i.invariant.1) in
    (rs, form, subst (λ (k : ℕ). AreSame (IsInSpan f.laws (row_vectors rs)) (IsInSpan f.laws (plain_rows (entry f.laws v m) k))) e c.loop-i.invariant.3, exact-length f v c.loop-i.form.rows ∙ sym c.len.ensures)

pub returns-clause-few : goal.returns-clause-few
returns-clause-few g c =
    let f = g.F.Field.field in
    let v = g.F.Field.value in
    let rs = exact_rows f.laws v c.loop-i.form.rows in
    let form : IsForm f.laws c.args.rows.now.cols rs = subst (λ (w : ℕ). IsForm f.laws w rs) c.loop-i.invariant.0 (c.loop-i.invariant.2.form c.loop-i.invariant.1) in
    subst (λ (k : ℕ). k ≤ c.args.rows.now.cols) (exact-length f v c.loop-i.form.rows ∙ sym c.len.ensures) (form-length f.laws c.args.rows.now.cols rs form)
