use Rattle.std.proofs.Common.{◌≡◌, ℕ, ◌<◌, ◌≤◌, ◌+◌, ◌*◌, inl, inr, List, length, sym, ◌∙◌, subst, arith}
use Rattle.fix_lattice.specs.FormLaws.{exact-length}
use Rattle.fix_lattice.specs.Lattice.{form_at}
use Rattle.fix_lattice.specs.Subspaces.{exact_forms}
use Rattle.class_list.specs.declared.arrows.Arrow.{Arrow}
use Rattle.fix_lattice.specs.Classes.{IsImageForm}
use Rattle.class_list.specs.Images.{AreArrows}
use Rattle.class_list.specs.Wide.{IsWideImageOf}
use Rattle.class_list.proofs.ArrowLemmas.{arrows-push, arrows-round}
use Rattle.class_list.proofs.InsertLemmas.{same-error}
use Rattle.class_list.proofs.arrows.add_arrows.Goals as goal

pub returns-in-Err-clause-wide : goal.returns-in-Err-clause-wide
returns-in-Err-clause-wide g c e =
    let f = g.F.Field.field in
    let v = g.F.Field.value in
    let act = g.G.Acts.action c.args.given.now.acts.now in
    let forms = exact_forms f.laws v c.args.given.now.spaces.now.forms in
    let i = c.loop-i.i in
    let l : i < length c.args.given.now.spaces.now.forms = subst (λ (n : ℕ). i < n) c.len-i-end.ensures c.loop-i-test.true in
    let m : i < length forms = subst (λ (n : ℕ). i < n) (sym (exact-length f.laws v c.args.given.now.spaces.now.forms)) l in
    let h = c.requires.holds.only i m in
    elim (c.in-Err.ensures.wide (same-error _ _ e)) [
      | inl w ↦ inl w
      | inr w ↦ inr (c.args.j, c.requires.generator, h.0, form_at forms i, h.1, h.2, subst (λ (q : ℕ). IsWideImageOf f act q (form_at forms i)) c.generator-q.ensures w)
    ]

pub loop-i-preserved : goal.loop-i-preserved
loop-i-preserved g c =
    let f = g.F.Field.field in
    let v = g.F.Field.value in
    let act = g.G.Acts.action c.args.given.now.acts.now in
    let forms = exact_forms f.laws v c.args.given.now.spaces.now.forms in
    let n : length forms ≡ length c.args.given.now.spaces.now.forms = exact-length f.laws v c.args.given.now.spaces.now.forms in
    let i = c.loop-i.i in
    let l : i < length forms = subst (λ (k : ℕ). i < k) (c.len-i-end.ensures ∙ sym n) c.loop-i-test.true in
    let m : c.in-Ok.to < length forms = subst (λ (k : ℕ). c.in-Ok.to < k) (sym n) c.in-Ok.ensures.below in
    let e = subst (λ (q : ℕ). IsImageForm f.laws act q (form_at forms i) (form_at forms c.in-Ok.to)) c.generator-q.ensures c.in-Ok.ensures.image in
    let a : c.image_place.new.steps ≤ c.loop-i.steps + act.dim = c.in-Ok.ensures.cost in
    let b : c.loop-i.steps ≤ c.args.steps.now + act.dim * i = c.loop-i.invariant.1 in
    let d : act.dim * (i + 1) ≡ act.dim * i + act.dim = grind arith in (
      subst (λ (xs : List Arrow). AreArrows f.laws act forms c.args.j (i + 1) xs) (sym c.in-Ok-push.ensures.items)
          (arrows-push f act forms (g.met.G.Acts.lawful c.args.given.now.acts.now) c.args.j i c.in-Ok.to c.loop-i.arrows.items c.requires.generator l m e c.loop-i.invariant.0),
      omega (arith, a, b, d),
    )

pub returns-clause-arrows : goal.returns-clause-arrows
returns-clause-arrows g c =
    let f = g.F.Field.field in
    let v = g.F.Field.value in
    let act = g.G.Acts.action c.args.given.now.acts.now in
    let forms = exact_forms f.laws v c.args.given.now.spaces.now.forms in
    let l : length forms ≤ c.loop-i.i = subst (λ (k : ℕ). k ≤ c.loop-i.i) (c.len-i-end.ensures ∙ sym (exact-length f.laws v c.args.given.now.spaces.now.forms)) c.loop-i-test.false in
    arrows-round f act forms c.args.j c.loop-i.i c.loop-i.arrows.items l c.loop-i.invariant.0
