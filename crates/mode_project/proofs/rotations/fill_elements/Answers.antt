use Rattle.std.proofs.Common.{◌≡◌, ◌<◌, ℕ, subst, arith, length}
use Rattle.super_group.specs.Quotient.{order_of}
use Rattle.mode_project.specs.Turns.{IsReached}
use Rattle.mode_project.proofs.RotationLemmas.{reached-next}
use Rattle.mode_project.proofs.rotations.fill_elements.Goals as goal

pub loop-q-preserved : goal.loop-q-preserved
loop-q-preserved c =
    let n = order_of c.args.quotient.now in
    let l : c.loop-q.q < n = omega (arith, c.loop-q-test.true, c.order-q-end.ensures.value) in
    let li : c.image-i.result < length c.loop-q.elements = omega (arith, c.image-i.ensures.below, c.loop-q.auto.elements, c.requires.count) in
    reached-next n c.args.orbit.now c.loop-q.elements c.loop-q.q c.image-i.result l c.image-i.ensures.value li c.loop-q.invariant

pub returns : goal.returns
returns c i l =
    let t = c.law_of_images.ensures.transitive c.args.quotient.now c.requires.orbit.atom c.args.orbit.now c.order-q-end.ensures.quotient c.requires.orbit.of i l in
    let e : c.args.orbit.now.order ≡ order_of c.args.quotient.now = c.requires.orbit.of.order in
    let m : t.0 < c.loop-q.q = omega (arith, t.1, e, c.order-q-end.ensures.value, c.loop-q-test.false) in
    subst (λ (k : ℕ). IsReached (order_of c.args.quotient.now) c.args.orbit.now c.loop-q.elements k) t.2 (c.loop-q.invariant t.0 m)
