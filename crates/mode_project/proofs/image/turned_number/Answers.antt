use Rattle.std.proofs.Common.{◌≡◌, ◌<◌, ◌+◌, ℕ, ◌∙◌, subst, arith}
use Rattle.cyclo24.specs.Numerals.{of_whole}
use Rattle.lin_alg.specs.Rows.{vector}
use Rattle.lin_alg.specs.Matrix.{IsWideDot}
use Rattle.mode_project.proofs.TermLemmas.{total-next, total-end, dot-wide, on-err}
use Rattle.mode_project.proofs.image.turned_number.Goals as goal

pub loop-b-init : goal.loop-b-init
loop-b-init g c = c.zero-sum.ensures

pub add_turned_entry-requires-clause-place : goal.add_turned_entry-requires-clause-place
add_turned_entry-requires-clause-place g c = omega (arith, c.requires.room, c.loop-b-test.true, c.requires.table.each)

pub loop-b-preserved : goal.loop-b-preserved
loop-b-preserved g c =
    let s = g.S.OfSpace.space in
    let f = g.F.Field.field in
    let value = g.F.Field.value in
    total-next f c.loop-b.b (λ b. of_whole f.laws (s.turn c.args.q c.args.a b)) (λ b. vector f.laws value c.args.row.now (c.args.first + b)) (value c.loop-b.sum) (value c.in_ok-sum.sum) c.loop-b.invariant c.in_ok-sum.ensures.exact

pub returns-in_err-sum-clause-wide : goal.returns-in_err-sum-clause-wide
returns-in_err-sum-clause-wide g c =
    let s = g.S.OfSpace.space in
    let f = g.F.Field.field in
    let value = g.F.Field.value in
    let x = (λ (b : ℕ). of_whole f.laws (s.turn c.args.q c.args.a b)) in
    let y = (λ (b : ℕ). vector f.laws value c.args.row.now (c.args.first + b)) in
    let l : c.loop-b.b < s.each = subst (λ (n : ℕ). c.loop-b.b < n) c.requires.table.each c.loop-b-test.true in
    on-err c.from_residual.result (IsWideDot f s.each x y) (dot-wide f s.each c.loop-b.b x y (value c.loop-b.sum) l c.loop-b.invariant c.in_err-sum.ensures.wide)

pub returns-clause-exact : goal.returns-clause-exact
returns-clause-exact g c =
    let s = g.S.OfSpace.space in
    let f = g.F.Field.field in
    let value = g.F.Field.value in
    let e : c.loop-b.b ≡ c.args.turns.now.each = omega (arith, c.loop-b-test.false, c.loop-b.auto.b-end) in
    total-end f c.loop-b.b s.each (λ b. of_whole f.laws (s.turn c.args.q c.args.a b)) (λ b. vector f.laws value c.args.row.now (c.args.first + b)) (value c.loop-b.sum) c.loop-b.invariant (e ∙ c.requires.table.each)
