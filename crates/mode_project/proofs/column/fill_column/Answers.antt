use Rattle.std.proofs.Common.{◌≡◌, ◌<◌, ℕ, sym, ◌∙◌, subst, arith, length}
use Rattle.lin_alg.specs.Rows.{vector}
use Rattle.mode_project.specs.Wide.{IsWideColumn}
use Rattle.mode_project.proofs.ColumnLemmas.{sum-next, sum-wide, sum-end}
use Rattle.mode_project.proofs.TermLemmas.{on-err}
use Rattle.mode_project.proofs.VectorLemmas.{vector-at}
use Rattle.mode_project.proofs.column.fill_column.Goals as goal

pub loop-q-init : goal.loop-q-init
loop-q-init g c r = c.requires.zero r

pub add_turned-requires-clause-element : goal.add_turned-requires-clause-element
add_turned-requires-clause-element g c = subst (λ (n : ℕ). c.loop-q.q < n) c.requires.weights c.loop-q-test.true

pub add_turned-requires-clause-room : goal.add_turned-requires-clause-room
add_turned-requires-clause-room g c = c.loop-q.auto.column ∙ c.requires.room

pub returns-in_err-add_turned-clause-wide : goal.returns-in_err-add_turned-clause-wide
returns-in_err-add_turned-clause-wide g c =
    let s = g.S.OfSpace.space in
    let f = g.F.Field.field in
    let value = g.F.Field.value in
    let w = vector f.laws value c.args.weights.now in
    let lq : c.loop-q.q < s.group.order = subst (λ (n : ℕ). c.loop-q.q < n) c.requires.weights c.loop-q-test.true in
    on-err c.from_residual.result (IsWideColumn f s w)
    (sum-wide f s w c.args.b c.loop-q.q (vector f.laws value c.loop-q.column) (value c.index-weights-q.result) c.requires.column lq
    (sym (vector-at f value c.args.weights.now c.loop-q.q c.index-weights-q.result c.loop-q-test.true c.index-weights-q.is)) c.loop-q.invariant c.in_err-add_turned.ensures.wide)

pub loop-q-preserved : goal.loop-q-preserved
loop-q-preserved g c =
    let s = g.S.OfSpace.space in
    let f = g.F.Field.field in
    let value = g.F.Field.value in
    let w = vector f.laws value c.args.weights.now in
    sum-next f s w c.args.b c.loop-q.q (vector f.laws value c.loop-q.column) (vector f.laws value c.add_turned.new.column) (value c.index-weights-q.result)
    (sym (vector-at f value c.args.weights.now c.loop-q.q c.index-weights-q.result c.loop-q-test.true c.index-weights-q.is)) c.loop-q.invariant c.in_ok-add_turned.ensures.exact

pub returns-clause-exact : goal.returns-clause-exact
returns-clause-exact g c =
    let s = g.S.OfSpace.space in
    let f = g.F.Field.field in
    let value = g.F.Field.value in
    let w = vector f.laws value c.args.weights.now in
    let ends : c.loop-q.q ≡ length c.args.weights.now = omega (arith, c.loop-q-test.false, c.loop-q.auto.q-end) in
    sum-end f s w value c.args.b c.loop-q.q c.loop-q.column (c.loop-q.auto.column ∙ c.requires.room) (ends ∙ c.requires.weights) c.loop-q.invariant
