use Rattle.std.proofs.Common.{rules, below_more, ◌≡◌, ℕ, ◌<◌, ◌≤◌, ◌⊎◌, inr, true, false, refl, sym, ◌∙◌, subst}
use Rattle.lin_alg.specs.Action.{IsFixed}
use Rattle.lin_alg.specs.Equations.{Vanishes}
use Rattle.lin_alg.specs.Fixed.{FixesAll, mover}
use Rattle.lin_alg.specs.Insertion.{IsWideReduce}
use Rattle.lin_alg.specs.Rows.{exact_rows}
use Rattle.lin_alg.specs.Spans.{row_vectors, IsInSpan}
use Rattle.fix_lattice.specs.FormLaws.{whole-form}
use Rattle.fix_lattice.specs.Wide.{IsWideInserts, IsWideMover}
use Rattle.class_list.proofs.FixLemmas.{spanned-fixes, other-moves, spanned-wide}
use Rattle.class_list.proofs.fixing.fixes_all.Goals as goal

pub returns-in_err-contains-clause-wide : goal.returns-in_err-contains-clause-wide
returns-in_err-contains-clause-wide g c =
    let f = g.F.Field.field in
    let v = g.F.Field.value in
    let act = g.G.Acts.action c.args.acts.now in
    let q = c.args.q in
    let rs = exact_rows f.laws v c.args.equations.now.rows in
    let l : c.loop-i.i < act.dim = subst (λ (n : ℕ). c.loop-i.i < n) c.dim-i-end.ensures c.loop-i-test.true in
    let h : IsWideReduce f rs (mover f.laws act q c.loop-i.i) = subst (λ (x : ℕ → _). IsWideReduce f rs x) c.in_ok-mover_row.ensures.exact c.in_err-contains.ensures.wide in
    let w : g.G.Acts.wide c.args.acts.now ⊎ (IsWideMover f act q ⊎ IsWideInserts f act.dim rs act.dim (mover f.laws act q)) =
    inr (inr (spanned-wide f act q rs (whole-form f.laws v act.dim c.args.equations.now c.requires.form) c.loop-i.i l c.loop-i.invariant h)) in
    search rules

pub returns-then-not-branch-clause-answer : goal.returns-then-not-branch-clause-answer
returns-then-not-branch-clause-answer g c =
    let f = g.F.Field.field in
    let v = g.F.Field.value in
    let act = g.G.Acts.action c.args.acts.now in
    let q = c.args.q in
    let rs = exact_rows f.laws v c.args.equations.now.rows in
    let l : c.loop-i.i < act.dim = subst (λ (n : ℕ). c.loop-i.i < n) c.dim-i-end.ensures c.loop-i-test.true in
    let out : IsInSpan f.laws (row_vectors rs) (mover f.laws act q c.loop-i.i) → ⊥ =
    λ s.
    let e : c.in_ok-contains.field-0 ≡ true = c.in_ok-contains.ensures.member.1 (subst (λ (x : ℕ → _). IsInSpan f.laws (row_vectors rs) x) (sym c.in_ok-mover_row.ensures.exact) s) in
    let t : false ≡ true = sym c.if-not-branch.true ∙ e in cc in (
      λ e. let t : false ≡ true = e in absurd cc,
      λ a. absurd (other-moves f act q rs (whole-form f.laws v act.dim c.args.equations.now c.requires.form) c.loop-i.i l out
          (subst (λ (n : ℕ). FixesAll (IsFixed f.laws act) (Vanishes f.laws n (row_vectors rs)) q) c.requires.form.width a)),
    )

pub returns-clause-answer : goal.returns-clause-answer
returns-clause-answer g c =
    let f = g.F.Field.field in
    let v = g.F.Field.value in
    let act = g.G.Acts.action c.args.acts.now in
    let q = c.args.q in
    let rs = exact_rows f.laws v c.args.equations.now.rows in
    let l : act.dim ≤ c.loop-i.i = subst (λ (n : ℕ). n ≤ c.loop-i.i) c.dim-i-end.ensures c.loop-i-test.false in (
      λ _. subst (λ (n : ℕ). FixesAll (IsFixed f.laws act) (Vanishes f.laws n (row_vectors rs)) q) (sym c.requires.form.width)
          (spanned-fixes f act q rs (whole-form f.laws v act.dim c.args.equations.now c.requires.form) c.loop-i.i l c.loop-i.invariant),
      λ _. refl,
    )

pub loop-i-preserved : goal.loop-i-preserved
loop-i-preserved g c =
    let f = g.F.Field.field in
    let v = g.F.Field.value in
    let act = g.G.Acts.action c.args.acts.now in
    let rs = exact_rows f.laws v c.args.equations.now.rows in
    below_more (λ k. IsInSpan f.laws (row_vectors rs) (mover f.laws act c.args.q k)) c.loop-i.i c.loop-i.invariant
    (subst (λ (x : ℕ → _). IsInSpan f.laws (row_vectors rs) x) c.in_ok-mover_row.ensures.exact (c.in_ok-contains.ensures.member.0 c.if-not-branch.false))
