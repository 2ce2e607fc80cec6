use Rattle.std.proofs.Common.{◌≡◌, ◌↔◌, ◌<◌, ℕ, [], inl, inr, sym, subst, arith, add-one}
use Rattle.cyclo24.specs.ExactField.{Value}
use Rattle.lin_alg.specs.Equations.{dot}
use Rattle.fix_lattice.specs.Lattice.{IsInSpace}
use Rattle.lin_alg.specs.Fixed.{mover}
use Rattle.lin_alg.specs.Reduced.{IsForm}
use Rattle.lin_alg.specs.Rows.{exact_rows}
use Rattle.fix_lattice.specs.LatticeLaws.{single-form}
use Rattle.fix_lattice.specs.Wide.{IsFormAfter}
use Rattle.fix_lattice.proofs.FormLemmas.{same-error}
use Rattle.fix_lattice.proofs.InsertLemmas.{after-more}
use Rattle.fix_lattice.proofs.movers.fix_form.Goals as goal

pub returns-in-Err-clause-wide : goal.returns-in-Err-clause-wide
returns-in-Err-clause-wide g c e =
    let f = g.F.Field.field in
    let v = g.F.Field.value in
    let act = g.G.Acts.action c.args.acts.now in
    let t = c.loop-i.invariant in
    let l : c.loop-i.i < act.dim = subst (λ (z : ℕ). c.loop-i.i < z) t.dim c.loop-i-test.true in
    elim (c.in-Err.ensures.wide (same-error _ _ e)) [
      | inl w ↦ inl w
      | inr (inl d) ↦ inr (inl (c.loop-i.i, l, d))
      | inr (inr h) ↦ inr (inr (c.loop-i.i, l, exact_rows f.laws v c.loop-i.form.rows, t.after, h))
    ]

pub loop-i-preserved : goal.loop-i-preserved
loop-i-preserved g c =
    let f = g.F.Field.field in
    let v = g.F.Field.value in
    let act = g.G.Acts.action c.args.acts.now in
    let t = c.loop-i.invariant in
    let cost = t.cost in
    let more = c.in-Ok.ensures.cost in
    let whole = c.in-Ok.ensures.form in
    let form = subst (λ (n : ℕ). IsForm f.laws n (exact_rows f.laws v c.insert_mover.new.form.rows)) whole.width (whole.form.form whole.whole) in
    let cut = λ (u : ℕ → Value f). subst (λ (n : ℕ). IsInSpace f.laws n (exact_rows f.laws v c.insert_mover.new.form.rows) u ↔ ((dot f.laws act.dim (mover f.laws act c.args.q c.loop-i.i) u ≡ f.laws.nought) × IsInSpace f.laws act.dim (exact_rows f.laws v c.loop-i.form.rows) u)) whole.width
    (subst (λ (n : ℕ). IsInSpace f.laws c.insert_mover.new.form.width (exact_rows f.laws v c.insert_mover.new.form.rows) u ↔ ((dot f.laws act.dim (mover f.laws act c.args.q c.loop-i.i) u ≡ f.laws.nought) × IsInSpace f.laws n (exact_rows f.laws v c.loop-i.form.rows) u)) t.whole.width
    (c.in-Ok.ensures.cut u)) in
    record {
      whole = whole;
      after = subst (λ (k : ℕ). IsFormAfter f.laws act.dim [] (mover f.laws act c.args.q) k (exact_rows f.laws v c.insert_mover.new.form.rows)) (sym (add-one c.loop-i.i))
          (after-more f.laws act.dim [] (mover f.laws act c.args.q) c.loop-i.i (exact_rows f.laws v c.loop-i.form.rows) (exact_rows f.laws v c.insert_mover.new.form.rows) t.after form cut);
      cost = omega arith;
      dim = t.dim;
    }

pub returns-clause-fixes : goal.returns-clause-fixes
returns-clause-fixes g c =
    let f = g.F.Field.field in
    let v = g.F.Field.value in
    let act = g.G.Acts.action c.args.acts.now in
    let t = c.loop-i.invariant in
    let d = t.dim in
    let e : c.loop-i.i ≡ act.dim = omega (arith, c.loop-i-test.false, c.loop-i.auto.i-end) in
    let after = subst (λ (k : ℕ). IsFormAfter f.laws act.dim [] (mover f.laws act c.args.q) k (exact_rows f.laws v c.loop-i.form.rows)) e t.after in
    single-form f act c.args.q (exact_rows f.laws v c.loop-i.form.rows) after.form (λ u. (λ h. ((after.vanishes u).0 h).0, λ h. (after.vanishes u).1 (h, tt)))
