use Rattle.std.proofs.Common.{◌≡◌, ◌+◌, ℕ, ◌∙◌, ap, subst, arith, length}
use Rattle.std.specs.Prelude.{Err}
use Rattle.lin_alg.specs.Matrix.{entry}
use Rattle.lin_alg.specs.declared.errors.LinError.TheVariants.{Wide}
use Rattle.mode_project.specs.DirectionParts.{combined, IsWideCombined}
use Rattle.mode_project.specs.Parts.{rows_in, row_in, HoldsSpan}
use Rattle.mode_project.proofs.RangeLemmas.{held-start}
use Rattle.mode_project.proofs.combined.combined_form.Goals as goal

pub loop-n-init : goal.loop-n-init
loop-n-init g c =
    let f = g.F.Field.field in
    let value = g.F.Field.value in
    let a = combined f.laws (length c.args.rows.now) (entry f.laws value c.args.x.now) (row_in f.laws value (rows_in c.args.rows.now)) in
    record {
      held = held-start f value c.args.size a c.new-form.result c.new-form.ensures.width c.new-form.ensures.whole c.new-form.ensures.rows c.new-form.ensures.form;
      room = omega (arith, c.in_ok-row.ensures.len, c.in_ok-row.row.ok.0);
    }

pub loop-n-preserved : goal.loop-n-preserved
loop-n-preserved g c =
    let f = g.F.Field.field in
    let value = g.F.Field.value in
    let a = combined f.laws (length c.args.rows.now) (entry f.laws value c.args.x.now) (row_in f.laws value (rows_in c.args.rows.now)) in
    let len : length c.deref_mut.result.now ≡ c.args.size = c.deref_mut.ensures.len ∙ c.loop-n.invariant.room in
    record {
      held = subst (λ (d : ℕ). HoldsSpan f.laws value d a (c.loop-n.n + 1) c.insert_combined.new.form) len c.in-Ok.ensures.held;
      room = c.loop-n.invariant.room;
    }

pub returns-in-Err-clause-wide : goal.returns-in-Err-clause-wide
returns-in-Err-clause-wide g c w =
    let f = g.F.Field.field in
    let value = g.F.Field.value in
    let len : length c.deref_mut.result.now ≡ c.args.size = c.deref_mut.ensures.len ∙ c.loop-n.invariant.room in
    subst (λ (d : ℕ). IsWideCombined f d c.args.x.now.rows (length c.args.rows.now) (entry f.laws value c.args.x.now) (row_in f.laws value (rows_in c.args.rows.now))) len
    (c.in-Err.ensures.wide (ap Err (let k : c.in-Err.error ≡ Wide = cc in k)))

pub returns-clause-held : goal.returns-clause-held
returns-clause-held g c =
    let f = g.F.Field.field in
    let value = g.F.Field.value in
    let a = combined f.laws (length c.args.rows.now) (entry f.laws value c.args.x.now) (row_in f.laws value (rows_in c.args.rows.now)) in
    let ends : c.loop-n.n ≡ c.rows-n-end.result = omega (arith, c.loop-n-test.false, c.loop-n.auto.n-end) in
    subst (λ (n : ℕ). HoldsSpan f.laws value c.args.size a n c.loop-n.form) (ends ∙ c.rows-n-end.ensures.value) c.loop-n.invariant.held
