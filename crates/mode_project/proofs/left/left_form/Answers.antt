use Rattle.std.proofs.Common.{◌≡◌, ◌*◌, ℕ, subst, arith, length}
use Rattle.mode_project.specs.AtomSpace.{size_of}
use Rattle.mode_project.specs.Parts.{rows_in, row_in, HoldsSpan}
use Rattle.mode_project.specs.Wide.{left_row}
use Rattle.mode_project.proofs.RangeLemmas.{held-start}
use Rattle.mode_project.proofs.left.left_form.Goals as goal

pub loop-n-init : goal.loop-n-init
loop-n-init g c =
    let f = g.F.Field.field in
    let value = g.F.Field.value in
    let s = g.S.OfSpace.space in
    let a = left_row f.laws s c.args.stab.now (row_in f.laws value (rows_in c.args.rows.now)) in
    let zero : 0 ≡ 0 * size_of s = omega arith in
    record {
      held = subst (λ (k : ℕ). HoldsSpan f.laws value (length c.args.rows.now) a k c.new-form.result) zero (held-start f value (length c.args.rows.now) a c.new-form.result c.new-form.ensures.width c.new-form.ensures.whole c.new-form.ensures.rows c.new-form.ensures.form);
      room = omega (arith, c.in_ok-row.ensures.len, c.in_ok-row.row.ok.0);
    }

pub returns-clause-held : goal.returns-clause-held
returns-clause-held g c =
    let f = g.F.Field.field.laws in
    let value = g.F.Field.value in
    let s = g.S.OfSpace.space in
    let ends : c.loop-n.n ≡ length c.args.stab.now = omega (arith, c.loop-n-test.false, c.loop-n.auto.n-end) in
    subst (λ (n : ℕ). HoldsSpan f value (length c.args.rows.now) (left_row f s c.args.stab.now (row_in f value (rows_in c.args.rows.now))) (n * size_of s) c.loop-n.form) ends c.loop-n.invariant.held
