use Rattle.std.proofs.Common.{◌≡◌, ◌<◌, ℕ, sym, ◌∙◌, ap, subst, arith, length}
use Rattle.cyclo24.specs.Numerals.{of_whole}
use Rattle.lin_alg.specs.Rows.{vector}
use Rattle.lin_alg.specs.Matrix.{IsWideDot}
use Rattle.mode_project.specs.AtomSpace.{size_of}
use Rattle.mode_project.specs.Parts.{rows_in, row_in}
use Rattle.mode_project.proofs.ImageLemmas.{sums-next, sums-end, sums-wide}
use Rattle.mode_project.proofs.TermLemmas.{on-err}
use Rattle.mode_project.proofs.VectorsLemmas.{item-is}
use Rattle.mode_project.proofs.image.fill_turned.Goals as goal

pub loop-b-init : goal.loop-b-init
loop-b-init g c = c.clear.ensures

pub bounds-rows-b : goal.bounds-rows-b
bounds-rows-b g c = omega (arith, c.requires.count, c.loop-b-test.true, c.requires.table.each)

pub add_turned_row-requires-clause-room : goal.add_turned_row-requires-clause-room
add_turned_row-requires-clause-room g c =
    let l : c.loop-b.b < g.S.OfSpace.space.each = subst (λ (n : ℕ). c.loop-b.b < n) c.requires.table.each c.loop-b-test.true in
    let lv : c.loop-b.b < length c.args.rows.now = subst (λ (n : ℕ). c.loop-b.b < n) (sym c.requires.count) l in
    let e = item-is c.args.rows.now c.loop-b.b c.index-rows-b.result lv c.index-rows-b.is in
    c.loop-b.auto.into ∙ c.clear.auto.row ∙ c.requires.room ∙ sym (c.requires.long c.loop-b.b l) ∙ ap length (e ∙ sym c.deref.ensures.value)

pub loop-b-preserved : goal.loop-b-preserved
loop-b-preserved g c =
    let s = g.S.OfSpace.space in
    let f = g.F.Field.field.laws in
    let v = g.F.Field.value in
    let l : c.loop-b.b < s.each = subst (λ (n : ℕ). c.loop-b.b < n) c.requires.table.each c.loop-b-test.true in
    let lv : c.loop-b.b < length c.args.rows.now = subst (λ (n : ℕ). c.loop-b.b < n) (sym c.requires.count) l in
    let e = item-is c.args.rows.now c.loop-b.b c.index-rows-b.result lv c.index-rows-b.is in
    sums-next f s c.args.p c.args.a (row_in f v (rows_in c.args.rows.now)) c.loop-b.b (vector f v c.loop-b.into) (vector f v c.add_turned_row.new.into) (vector f v c.deref.result.now)
    c.loop-b.invariant (ap (vector f v) (c.deref.ensures.value ∙ sym e)) c.in_ok-add_turned_row.ensures.exact

pub returns-in_err-add_turned_row-clause-wide : goal.returns-in_err-add_turned_row-clause-wide
returns-in_err-add_turned_row-clause-wide g c =
    let s = g.S.OfSpace.space in
    let f = g.F.Field.field in
    let v = g.F.Field.value in
    let rows = row_in f.laws v (rows_in c.args.rows.now) in
    let l : c.loop-b.b < s.each = subst (λ (n : ℕ). c.loop-b.b < n) c.requires.table.each c.loop-b-test.true in
    let lv : c.loop-b.b < length c.args.rows.now = subst (λ (n : ℕ). c.loop-b.b < n) (sym c.requires.count) l in
    let e = item-is c.args.rows.now c.loop-b.b c.index-rows-b.result lv c.index-rows-b.is in
    let same = e ∙ sym c.deref.ensures.value in
    let bad = c.in_err-add_turned_row.ensures.wide in
    let inside : bad.0 < size_of s = subst (λ (n : ℕ). bad.0 < n) (sym (ap length same) ∙ c.requires.long c.loop-b.b l) bad.1 in
    on-err c.from_residual.result ((r : ℕ) × (r < size_of s) × IsWideDot f s.each (λ b. of_whole f.laws (s.turn c.args.p b c.args.a)) (λ b. rows b r))
    (bad.0, inside, sums-wide f s c.args.p c.args.a rows c.loop-b.b bad.0 (vector f.laws v c.loop-b.into) (vector f.laws v c.deref.result.now) l c.loop-b.invariant (ap (vector f.laws v) (sym same)) bad.2)

pub returns-clause-exact : goal.returns-clause-exact
returns-clause-exact g c =
    let s = g.S.OfSpace.space in
    let f = g.F.Field.field in
    let v = g.F.Field.value in
    let ends : c.loop-b.b ≡ c.args.turns.now.each = omega (arith, c.loop-b-test.false, c.loop-b.auto.b-end) in
    sums-end f s c.args.p c.args.a (row_in f.laws v (rows_in c.args.rows.now)) v c.loop-b.into c.loop-b.b (c.loop-b.auto.into ∙ c.clear.auto.row ∙ c.requires.room) (ends ∙ c.requires.table.each) c.loop-b.invariant
