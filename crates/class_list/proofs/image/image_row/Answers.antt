use Rattle.std.proofs.Common.{rules, ◌≡◌, ◌<◌, ℕ, length, ◌∙◌, subst, ◌⊎◌, inl, inr, arith}
use Rattle.lin_alg.specs.Rows.{vector}
use Rattle.class_list.specs.Wide.{IsWideImage}
use Rattle.class_list.proofs.RowLemmas.{HasTerms, vector-at, terms-step, terms-all, terms-wide}
use Rattle.class_list.proofs.image.image_row.Goals as goal

pub loop-i-preserved : goal.loop-i-preserved
loop-i-preserved g c =
    let f = g.F.Field.field in
    let v = g.F.Field.value in
    let act = g.G.Acts.action c.args.acts.now in
    let i = c.loop-i.i in
    let at = vector-at f v c.args.e.now i c.index-e-i.result c.loop-i-test.true c.index-e-i.is in
    terms-step f v act c.args.q (vector f.laws v c.args.e.now) i c.inverse-back.result (v c.index-e-i.result) c.loop-i.into c.add_row.new.into c.inverse-back.ensures at c.loop-i.invariant c.in_ok-add_row.ensures.exact

pub returns-clause-exact : goal.returns-clause-exact
returns-clause-exact g c =
    let f = g.F.Field.field in
    let v = g.F.Field.value in
    let act = g.G.Acts.action c.args.acts.now in
    let e = vector f.laws v c.args.e.now in
    let w : length c.loop-i.into ≡ act.dim = c.loop-i.auto.into ∙ c.requires.into in
    let row : length c.args.e.now ≡ act.dim = c.requires.row in
    let n : c.loop-i.i ≡ act.dim = omega arith in
    terms-all f v act c.args.q e c.loop-i.into w (subst (λ (k : ℕ). HasTerms f v act c.args.q e c.loop-i.into k) n c.loop-i.invariant)

pub returns-in_err-add_row-clause-wide : goal.returns-in_err-add_row-clause-wide
returns-in_err-add_row-clause-wide g c =
    let f = g.F.Field.field in
    let v = g.F.Field.value in
    let act = g.G.Acts.action c.args.acts.now in
    let e = vector f.laws v c.args.e.now in
    let i = c.loop-i.i in
    let at = vector-at f v c.args.e.now i c.index-e-i.result c.loop-i-test.true c.index-e-i.is in
    let l : i < act.dim = subst (λ (z : ℕ). i < z) c.requires.row c.loop-i-test.true in
    let w : g.G.Acts.wide c.args.acts.now ⊎ IsWideImage f act c.args.q e =
    elim c.in_err-add_row.ensures.wide [
      | inl h ↦ inl h
      | inr h ↦ inr (terms-wide f v act c.args.q e i c.inverse-back.result (v c.index-e-i.result) c.loop-i.into c.inverse-back.ensures at l c.loop-i.invariant h.0 h.1 h.2)
    ] in
    search rules
