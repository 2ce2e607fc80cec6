use Rattle.std.proofs.Common.{◌≡◌, ◌<◌, ℕ, subst, arith}
use Rattle.lin_alg.specs.Matrix.{entry}
use Rattle.couple.specs.Listed.{lifted}
use Rattle.couple.specs.Wide.{IsWideAverage}
use Rattle.couple.proofs.PartLemmas.{part-end}
use Rattle.couple.proofs.TermLemmas.{dot-wide, on-err}
use Rattle.couple.proofs.averages.add_average.Goals as goal

pub returns-in_err-add_element-clause-wide : goal.returns-in_err-add_element-clause-wide
returns-in_err-add_element-clause-wide g c =
    let f = g.F.Field.field in
    let v = g.F.Field.value in
    let p = lifted f.laws (g.P.Pairs.pair c.args.pairs.now) in
    let q = c.loop-q.q in
    let i = c.args.i in
    let j = c.args.j in
    let w = c.in_err-add_element.ensures.wide in
    let lq : q < p.group.order = subst (λ (k : ℕ). q < k) c.order-q-end.ensures c.loop-q-test.true in
    on-err c.from_residual.result (IsWideAverage f p i j)
    (w.0, w.1, w.2, w.3, dot-wide f p.group.order q (λ s. p.left s w.0 i) (λ s. p.right (p.group.inverse s) j w.2) (entry f.laws v c.loop-q.sums w.0 w.2) lq (c.loop-q.invariant.3 w.0 w.2 w.1 w.3) w.4)

pub returns-clause-exact : goal.returns-clause-exact
returns-clause-exact g c =
    let f = g.F.Field.field in
    let v = g.F.Field.value in
    let p = lifted f.laws (g.P.Pairs.pair c.args.pairs.now) in
    let e : c.loop-q.q ≡ p.group.order = omega (arith, c.loop-q-test.false, c.loop-q.auto.q-end, c.order-q-end.ensures) in
    part-end f.laws p c.args.i c.args.j c.loop-q.q (entry f.laws v c.loop-q.sums) e c.requires.row c.requires.column c.loop-q.invariant.3
