use Rattle.std.proofs.Common.{◌≡◌, ◌<◌, ℕ, suc, sym, ◌∙◌, refl, add-one, subst, inl, arith}
use Rattle.lin_alg.specs.Spans.{row_vectors, IsInSpan, AreSame}
use Rattle.lin_alg.specs.Rows.{exact_rows}
use Rattle.lin_alg.specs.Echelon.{IsSpanned}
use Rattle.lin_alg.specs.Matrix.{entry}
use Rattle.lin_alg.specs.Equations.{unit_vector}
use Rattle.lin_alg.specs.Solving.{joined, joined_rows}
use Rattle.lin_alg.proofs.SolvingLemmas.{same-more, same-error}
use Rattle.lin_alg.proofs.solving.joined_form.Goals as goal

pub loop-i-preserved : goal.loop-i-preserved
loop-i-preserved g c =
    let f = g.F.Field.field in
    let v = g.F.Field.value in
    let m = c.args.rows.now in
    let i = c.loop-i.i in
    let row : ℕ → _ = joined m.rows (unit_vector f.laws i) (entry f.laws v m i) in
    let more = same-more f.laws (row_vectors (exact_rows f.laws v c.loop-i.form.rows)) (joined_rows f.laws m.rows (entry f.laws v m) i) row row refl c.loop-i.invariant.3 in
    let span : AreSame (IsInSpan f.laws (row_vectors (exact_rows f.laws v c.insert_joined.new.form.rows))) (IsInSpan f.laws (joined_rows f.laws m.rows (entry f.laws v m) (suc i))) =
    λ u. (λ h. (more u).0 ((c.in-Ok.ensures.span u).0 h), λ h. (c.in-Ok.ensures.span u).1 ((more u).1 h)) in (
      c.in-Ok.ensures.width ∙ c.loop-i.invariant.0,
      c.in-Ok.ensures.whole,
      c.in-Ok.ensures.form,
      subst (λ (k : ℕ). AreSame (IsInSpan f.laws (row_vectors (exact_rows f.laws v c.insert_joined.new.form.rows))) (IsInSpan f.laws (joined_rows f.laws m.rows (entry f.laws v m) k))) (sym (add-one i)) span,
      c.loop-i.invariant.4,
    )

pub returns-in-Err-clause-wide : goal.returns-in-Err-clause-wide
returns-in-Err-clause-wide g c t e =
    let f = g.F.Field.field in
    let v = g.F.Field.value in
    let l : c.loop-i.i < c.args.rows.now.rows = subst (λ (k : ℕ). c.loop-i.i < k) c.rows-n.ensures.value c.loop-i-test.true in
    inl (c.loop-i.i, l, exact_rows f.laws v c.loop-i.form.rows, (c.loop-i.invariant.2.form c.loop-i.invariant.1).reduced, c.loop-i.invariant.3, c.in-Err.ensures.wide (same-error _ _ e))

pub returns-clause-span : goal.returns-clause-span
returns-clause-span g c =
    let f = g.F.Field.field in
    let v = g.F.Field.value in
    let m = c.args.rows.now in
    let e : c.loop-i.i ≡ c.rows-n.result = omega (arith, c.loop-i-test.false, c.loop-i.auto.i-end) in
    subst (λ (k : ℕ). AreSame (IsSpanned f.laws v c.loop-i.form) (IsInSpan f.laws (joined_rows f.laws m.rows (entry f.laws v m) k))) (e ∙ c.rows-n.ensures.value) c.loop-i.invariant.3
