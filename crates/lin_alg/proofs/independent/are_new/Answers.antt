use Rattle.std.proofs.Common.{◌≡◌, ◌<◌, ◌≤◌, ℕ, suc, sym, ◌∙◌, refl, true, false, add-one, subst, arith}
use Rattle.lin_alg.specs.declared.echelon.Grew.TheVariants.{Yes, No}
use Rattle.lin_alg.specs.Spans.{row_vectors, IsInSpan, AreSame}
use Rattle.lin_alg.specs.Rows.{exact_rows}
use Rattle.lin_alg.specs.Matrix.{entry}
use Rattle.lin_alg.specs.Solving.{AreIndependent, plain_rows}
use Rattle.lin_alg.specs.IndependenceLaws.{independent-more, member-dependent, independent-first}
use Rattle.lin_alg.proofs.SolvingLemmas.{same-more}
use Rattle.lin_alg.proofs.independent.are_new.Goals as goal

pub returns-in-Ok-No-clause-answer : goal.returns-in-Ok-No-clause-answer
returns-in-Ok-No-clause-answer g c = (
  λ t. let t' : false ≡ true = t in absurd cc,
  λ ind.
      let f = g.F.Field.field in
      let v = g.F.Field.value in
      let m = c.args.rows.now in
      let i = c.loop-i.i in
      let l : i < m.rows = subst (λ (k : ℕ). i < k) c.rows-n.ensures.value c.loop-i-test.true in
      let le : suc i ≤ m.rows = omega (arith, l) in
      let yes : c.in-Ok-No.field-0 ≡ Yes =
      c.in-Ok-No.ensures.grew.1 (λ h. member-dependent f.laws (entry f.laws v m) i ((c.loop-i.invariant.3 (entry f.laws v m i)).0 h) (independent-first f.laws (entry f.laws v m) (suc i) m.rows le ind)) in
      let no : No ≡ Yes = sym c.in-Ok-No.field-0-is ∙ yes in
      absurd cc,
)

pub loop-i-preserved : goal.loop-i-preserved
loop-i-preserved g c =
    let f = g.F.Field.field in
    let v = g.F.Field.value in
    let m = c.args.rows.now in
    let i = c.loop-i.i in
    let row : ℕ → _ = entry f.laws v m i in
    let more = same-more f.laws (row_vectors (exact_rows f.laws v c.loop-i.form.rows)) (plain_rows (entry f.laws v m) i) row row refl c.loop-i.invariant.3 in
    let span : AreSame (IsInSpan f.laws (row_vectors (exact_rows f.laws v c.insert_matrix_row.new.form.rows))) (IsInSpan f.laws (plain_rows (entry f.laws v m) (suc i))) =
    λ u. (λ h. (more u).0 ((c.in-Ok-Yes.ensures.span u).0 h), λ h. (c.in-Ok-Yes.ensures.span u).1 ((more u).1 h)) in
    let out : IsInSpan f.laws (plain_rows (entry f.laws v m) i) (entry f.laws v m i) → ⊥ =
    λ h. c.in-Ok-Yes.ensures.grew.0 c.in-Ok-Yes.field-0-is ((c.loop-i.invariant.3 (entry f.laws v m i)).1 h) in
    let ind : AreIndependent f.laws (suc i) (entry f.laws v m) = independent-more f.laws (entry f.laws v m) i c.loop-i.invariant.5 out in (
      c.in-Ok-Yes.ensures.width ∙ c.loop-i.invariant.0,
      c.in-Ok-Yes.ensures.whole,
      c.in-Ok-Yes.ensures.form,
      subst (λ (k : ℕ). AreSame (IsInSpan f.laws (row_vectors (exact_rows f.laws v c.insert_matrix_row.new.form.rows))) (IsInSpan f.laws (plain_rows (entry f.laws v m) k))) (sym (add-one i)) span,
      c.loop-i.invariant.4,
      subst (λ (k : ℕ). AreIndependent f.laws k (entry f.laws v m)) (sym (add-one i)) ind,
    )

pub returns-clause-answer : goal.returns-clause-answer
returns-clause-answer g c =
    let f = g.F.Field.field in
    let v = g.F.Field.value in
    let m = c.args.rows.now in
    let e : c.loop-i.i ≡ c.rows-n.result = omega (arith, c.loop-i-test.false, c.loop-i.auto.i-end) in
    (λ _. subst (λ (k : ℕ). AreIndependent f.laws k (entry f.laws v m)) (e ∙ c.rows-n.ensures.value) c.loop-i.invariant.5, λ _. refl)
