use Rattle.std.proofs.Common.{◌≡◌, ◌<◌, ◌≤◌, [], false, nat_eq, sym, ◌∙◌, arith, below_more, length}
use Rattle.std.specs.Prelude.{slice_index_or}
use Rattle.lin_alg.specs.EquationLaws.{eq-other}
use Rattle.mode_project.proofs.SiteLemmas.{pivot-none, pivot-some}
use Rattle.mode_project.proofs.sites.has_pivot.Goals as goal

pub loop-i-init : goal.loop-i-init
loop-i-init g c k l = absurd (omega (arith, l))

pub returns-then-p-pivot : goal.returns-then-p-pivot
returns-then-p-pivot g c =
    let l : c.loop-i.i < length c.args.form.now.rows = omega (arith, c.loop-i-test.true, c.len-i-end.ensures) in
    sym (pivot-some c.args.p c.args.form.now.rows (0, []) c.loop-i.i l (c.if-p-pivot.true ∙ c.pivot.ensures))

pub loop-i-preserved : goal.loop-i-preserved
loop-i-preserved g c =
    below_more (λ k. nat_eq c.args.p (slice_index_or c.args.form.now.rows k (0, [])).0 ≡ false) c.loop-i.i c.loop-i.invariant
    (eq-other c.args.p (slice_index_or c.args.form.now.rows c.loop-i.i (0, [])).0 (λ e. c.if-p-pivot.false (e ∙ sym c.pivot.ensures)))

pub returns : goal.returns
returns g c =
    let ends : length c.args.form.now.rows ≤ c.loop-i.i = omega (arith, c.loop-i-test.false, c.len-i-end.ensures) in
    sym (pivot-none c.args.p c.args.form.now.rows (0, []) (λ k l. c.loop-i.invariant k (omega (arith, l, ends))))
