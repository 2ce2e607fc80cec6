use Rattle.std.proofs.Common.{◌≡◌, ◌<◌, ℕ, subst, arith, length}
use Rattle.std.proofs.lemmas.List.{get_or_read}
use Rattle.mode_project.specs.AtomSpace.{space_of}
use Rattle.mode_project.specs.Turns.{AreWays}
use Rattle.mode_project.proofs.RotationLemmas.{reached-way, ways-next}
use Rattle.mode_project.proofs.rotations.ways_to.Goals as goal

pub loop-i-preserved : goal.loop-i-preserved
loop-i-preserved c k =
    let g = c.args.quotient.now in
    let o = c.args.orbit.now in
    let q = c.index-q.result.now in
    let li : c.loop-i.i < length c.in-Ok.elements.items = omega (arith, c.loop-i-test.true, c.len-i-end.ensures, c.in-Ok.elements.ok.0) in
    let lp : c.loop-i.i < length o.places = omega (arith, li, c.in-Ok.ensures.count) in
    let own = get_or_read c.in-Ok.elements.items c.loop-i.i q li c.index-q.ensures 0 in
    ways-next (space_of g o k) c.loop-i.ways.items c.push.new.self.items c.loop-i.i (q, c.inverse.result) c.in-Ok-push.ensures.items
    (reached-way g o k c.in-Ok.elements.items c.loop-i.i q c.inverse.result own c.inverse.ensures.inverse (c.in-Ok.ensures.each c.loop-i.i lp)) (c.loop-i.invariant k)

pub returns : goal.returns
returns c k =
    let g = c.args.quotient.now in
    let o = c.args.orbit.now in
    let e : c.loop-i.i ≡ length o.places = omega (arith, c.loop-i-test.false, c.loop-i.auto.i-end, c.len-i-end.ensures, c.in-Ok.elements.ok.0, c.in-Ok.ensures.count) in
    subst (λ (n : ℕ). AreWays (space_of g o k) c.loop-i.ways.items n) e (c.loop-i.invariant k)
