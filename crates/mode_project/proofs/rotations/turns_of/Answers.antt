use Rattle.std.proofs.Common.{◌≡◌, ◌∙◌, ap, subst, arith, ℕ, length}
use Rattle.std.specs.Prelude.{slice_index_or}
use Rattle.space_ops.specs.Op.{matrix_of, identity_op}
use Rattle.mode_project.proofs.RotationLemmas.{AreTurned, turned-next, turned-table}
use Rattle.mode_project.proofs.rotations.turns_of.Goals as goal

pub loop-r-preserved : goal.loop-r-preserved
loop-r-preserved g c =
    let k = g.K.AtomQuantity.quantity c.args.kind.now in
    turned-next k c.args.quotient.now.parent.ops c.loop-r.matrices.items c.push.new.self.items c.loop-r.r c.matrix.result c.in-Ok.ensures.items
    (c.matrix.ensures ∙ ap (λ o. k.matrix (matrix_of o.rot)) (c.op.ensures.value ∙ ap (λ p. slice_index_or p.ops c.loop-r.r identity_op) c.group-in-loop-r.ensures)) c.loop-r.invariant

pub returns : goal.returns
returns g c o =
    let q = c.args.quotient.now in
    let k = g.K.AtomQuantity.quantity c.args.kind.now in
    let last : length c.group.result.now.ops ≡ length q.parent.ops = ap (λ p. length p.ops) c.group.ensures in
    let ends : c.loop-r.r ≡ length q.parent.ops = omega (arith, c.loop-r-test.false, c.loop-r.auto.r-end, c.len-r-end.ensures.value, last) in
    turned-table q c.order-order.ensures.quotient c.order-order.ensures.group.identity_below o k (g.met.K.AtomQuantity.lawful c.args.kind.now)
    (record { each = c.each.result; translations = length c.translations-translations.result.now; matrices = c.loop-r.matrices }) c.each.ensures (ap length c.translations-translations.ensures)
    (subst (λ (n : ℕ). AreTurned k q.parent.ops c.loop-r.matrices.items n) ends c.loop-r.invariant)
