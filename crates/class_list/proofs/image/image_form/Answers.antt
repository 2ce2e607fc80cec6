use Rattle.std.proofs.Common.{◌≡◌, ◌↔◌, ℕ, ◌<◌, ◌≤◌, ◌+◌, length, inl, inr, sym, ◌∙◌, ap, subst, arith}
use Rattle.lin_alg.specs.Equations.{dot, Vanishes}
use Rattle.lin_alg.specs.FormLaws.{form-length}
use Rattle.lin_alg.specs.Images.{row_image}
use Rattle.lin_alg.specs.Insertion.{IsWideInsert}
use Rattle.lin_alg.specs.Rows.{vector, exact_rows}
use Rattle.lin_alg.specs.Spans.{row_vectors}
use Rattle.fix_lattice.specs.FormLaws.{whole-form}
use Rattle.fix_lattice.specs.Wide.{row_of}
use Rattle.class_list.specs.Wide.{IsWideImage}
use Rattle.class_list.proofs.InsertLemmas.{same-error, exact_rows-length, row-at, row-width, imaged-step, imaged-all, imaged-wide}
use Rattle.class_list.proofs.image.image_form.Goals as goal

pub insert_image-requires-clause-e : goal.insert_image-requires-clause-e
insert_image-requires-clause-e g c =
    let l : c.loop-i.i < length c.args.form.now.rows = subst (λ (n : ℕ). c.loop-i.i < n) c.len-i-end.ensures c.loop-i-test.true in
    ap length c.row.ensures ∙ row-width c.args.form.now.width c.args.form.now.rows c.loop-i.i c.requires.form.form.shape l ∙ c.requires.form.width

pub returns-in-Err-clause-wide : goal.returns-in-Err-clause-wide
returns-in-Err-clause-wide g c e =
    let f = g.F.Field.field in
    let v = g.F.Field.value in
    let act = g.G.Acts.action c.args.acts.now in
    let q = c.args.q in
    let us = exact_rows f.laws v c.args.form.now.rows in
    let i = c.loop-i.i in
    let l : i < length c.args.form.now.rows = subst (λ (n : ℕ). i < n) c.len-i-end.ensures c.loop-i-test.true in
    let n : length us ≡ length c.args.form.now.rows = exact_rows-length f v c.args.form.now.rows in
    let m : i < length us = omega (arith, l, n) in
    let row : vector f.laws v c.row.result.now ≡ row_of f.laws us i = ap (vector f.laws v) c.row.ensures ∙ sym (row-at f v c.args.form.now.rows i l) in
    elim (c.in-Err.ensures.wide (same-error _ _ e)) [
      | inl h ↦ inl h
      | inr (inl h) ↦ inr (inl (i, m, subst (λ (x : ℕ → _). IsWideImage f act q x) row h))
      | inr (inr h) ↦ inr (inr (imaged-wide f act q us (exact_rows f.laws v c.loop-i.out.rows) i m (whole-form f.laws v act.dim c.loop-i.out c.loop-i.invariant.0) c.loop-i.invariant.1
          (subst (λ (x : ℕ → _). IsWideInsert f (exact_rows f.laws v c.loop-i.out.rows) (row_image f.laws act q x)) row h)))
    ]

pub returns-in-Err-clause-cost : goal.returns-in-Err-clause-cost
returns-in-Err-clause-cost g c =
    let f = g.F.Field.field in
    let v = g.F.Field.value in
    let act = g.G.Acts.action c.args.acts.now in
    let few : length (exact_rows f.laws v c.args.form.now.rows) ≤ act.dim = form-length f.laws act.dim (exact_rows f.laws v c.args.form.now.rows) (whole-form f.laws v act.dim c.args.form.now c.requires.form) in
    let n : length (exact_rows f.laws v c.args.form.now.rows) ≡ length c.args.form.now.rows = exact_rows-length f v c.args.form.now.rows in
    let l : c.loop-i.i < length c.args.form.now.rows = subst (λ (k : ℕ). c.loop-i.i < k) c.len-i-end.ensures c.loop-i-test.true in
    let a : c.insert_image.new.steps ≤ c.loop-i.steps + 1 = c.in-Err.ensures.cost in
    let b : c.loop-i.steps ≤ c.args.steps.now + c.loop-i.i = c.loop-i.invariant.2 in
    omega (arith, few, n, l, a, b)

pub loop-i-preserved : goal.loop-i-preserved
loop-i-preserved g c =
    let f = g.F.Field.field in
    let v = g.F.Field.value in
    let act = g.G.Acts.action c.args.acts.now in
    let q = c.args.q in
    let us = exact_rows f.laws v c.args.form.now.rows in
    let i = c.loop-i.i in
    let l : i < length c.args.form.now.rows = subst (λ (n : ℕ). i < n) c.len-i-end.ensures c.loop-i-test.true in
    let row : vector f.laws v c.row.result.now ≡ row_of f.laws us i = ap (vector f.laws v) c.row.ensures ∙ sym (row-at f v c.args.form.now.rows i l) in
    let old = exact_rows f.laws v c.loop-i.out.rows in
    let new = exact_rows f.laws v c.insert_image.new.out.rows in
    let cut = subst (λ (x : ℕ → _). (u : ℕ → _) → Vanishes f.laws act.dim (row_vectors new) u ↔ ((dot f.laws act.dim (row_image f.laws act q x) u ≡ f.laws.nought) × Vanishes f.laws act.dim (row_vectors old) u)) row c.in-Ok.ensures.cut in
    let a : c.insert_image.new.steps ≤ c.loop-i.steps + 1 = c.in-Ok.ensures.cost in
    let b : c.loop-i.steps ≤ c.args.steps.now + c.loop-i.i = c.loop-i.invariant.2 in
    (c.in-Ok.ensures.out, imaged-step f act q us old new i cut c.loop-i.invariant.1, omega (arith, a, b))

pub returns-clause-image : goal.returns-clause-image
returns-clause-image g c =
    let f = g.F.Field.field in
    let v = g.F.Field.value in
    let act = g.G.Acts.action c.args.acts.now in
    let us = exact_rows f.laws v c.args.form.now.rows in
    let n : length us ≡ length c.args.form.now.rows = exact_rows-length f v c.args.form.now.rows in
    let e : c.len-i-end.result ≡ length c.args.form.now.rows = c.len-i-end.ensures in
    let i : c.loop-i.i ≡ length us = omega (arith, n, e) in
    imaged-all f act c.args.q us (exact_rows f.laws v c.loop-i.out.rows) c.loop-i.i i c.loop-i.invariant.1

pub returns-clause-cost : goal.returns-clause-cost
returns-clause-cost g c =
    let f = g.F.Field.field in
    let v = g.F.Field.value in
    let act = g.G.Acts.action c.args.acts.now in
    let few : length (exact_rows f.laws v c.args.form.now.rows) ≤ act.dim = form-length f.laws act.dim (exact_rows f.laws v c.args.form.now.rows) (whole-form f.laws v act.dim c.args.form.now c.requires.form) in
    let n : length (exact_rows f.laws v c.args.form.now.rows) ≡ length c.args.form.now.rows = exact_rows-length f v c.args.form.now.rows in
    let e : c.len-i-end.result ≡ length c.args.form.now.rows = c.len-i-end.ensures in
    let b : c.loop-i.steps ≤ c.args.steps.now + c.loop-i.i = c.loop-i.invariant.2 in
    omega (arith, few, n, e, b)
