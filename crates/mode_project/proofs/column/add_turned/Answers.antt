use Rattle.std.proofs.Common.{rules, ◌≡◌, ◌<◌, ◌+◌, ◌*◌, ℕ, sym, ◌∙◌, subst, arith, length}
use Rattle.cyclo24.specs.Numerals.{of_whole}
use Rattle.lin_alg.specs.Rows.{vector}
use Rattle.lin_alg.specs.Matrix.{IsWideTerm}
use Rattle.mode_project.specs.AtomSpace.{size_of, matrix_of}
use Rattle.mode_project.specs.Parts.{IsPut}
use Rattle.mode_project.proofs.ColumnLemmas.{place-inside, turned-added, added-next, added-wide}
use Rattle.mode_project.proofs.PutLemmas.{put-start}
use Rattle.mode_project.proofs.TermLemmas.{add-left_nought, on-err}
use Rattle.mode_project.proofs.column.add_turned.Goals as goal

pub returns-then-is_zero-clause-exact : goal.returns-then-is_zero-clause-exact
returns-then-is_zero-clause-exact g c r =
    let f = g.F.Field.field.laws in
    add-left_nought f (vector f g.F.Field.value c.args.column.now r) (g.F.Field.value c.args.w) (matrix_of f g.S.OfSpace.space c.args.q r c.args.b) (sym c.is_zero.ensures ∙ c.if-is_zero.true)

pub offset_bounds-column-first : goal.offset_bounds-column-first
offset_bounds-column-first g c =
    let s = g.S.OfSpace.space in
    let m : c.image.result < s.atoms = subst (λ (n : ℕ). c.image.result < n) c.requires.orbit.atoms c.image.ensures.below in
    let len : length c.loop-a.column ≡ s.atoms * s.each = c.loop-a.auto.column ∙ c.requires.room in
    let k : c.image.result * c.args.turns.now.each + c.loop-a.a < length c.loop-a.column =
    place-inside s.atoms s.each c.image.result c.loop-a.a c.args.turns.now.each (length c.loop-a.column) m c.requires.table.each c.loop-a-test.true len in
    search rules

pub offset_bounds-column-first-in-loop-a : goal.offset_bounds-column-first-in-loop-a
offset_bounds-column-first-in-loop-a g c =
    let s = g.S.OfSpace.space in
    let m : c.image.result < s.atoms = subst (λ (n : ℕ). c.image.result < n) c.requires.orbit.atoms c.image.ensures.below in
    let len : length c.loop-a.column ≡ s.atoms * s.each = c.loop-a.auto.column ∙ c.requires.room in
    let k : c.image.result * c.args.turns.now.each + c.loop-a.a < length c.loop-a.column =
    place-inside s.atoms s.each c.image.result c.loop-a.a c.args.turns.now.each (length c.loop-a.column) m c.requires.table.each c.loop-a-test.true len in
    search rules

pub returns-in_err-column-clause-wide : goal.returns-in_err-column-clause-wide
returns-in_err-column-clause-wide g c =
    let s = g.S.OfSpace.space in
    let f = g.F.Field.field in
    let value = g.F.Field.value in
    let m : c.image.result < s.atoms = subst (λ (n : ℕ). c.image.result < n) c.requires.orbit.atoms c.image.ensures.below in
    let len : length c.loop-a.column ≡ s.atoms * s.each = c.loop-a.auto.column ∙ c.requires.room in
    let k : c.image.result * c.args.turns.now.each + c.loop-a.a < length c.loop-a.column =
    place-inside s.atoms s.each c.image.result c.loop-a.a c.args.turns.now.each (length c.loop-a.column) m c.requires.table.each c.loop-a-test.true len in
    let image : c.image.result ≡ s.image c.args.q 0 = c.image.ensures.value ∙ c.requires.orbit.images c.args.q 0 c.requires.element c.requires.laws.some in
    let fe : c.image.result * c.args.turns.now.each ≡ s.image c.args.q 0 * s.each = (λ t. image t * c.requires.table.each t) in
    let la : c.loop-a.a < s.each = subst (λ (n : ℕ). c.loop-a.a < n) c.requires.table.each c.loop-a-test.true in
    on-err c.from_residual.result ((r : ℕ) × (r < size_of s) × IsWideTerm f (vector f.laws value c.args.column.now r) (matrix_of f.laws s c.args.q r c.args.b) (value c.args.w))
    (added-wide f s value c.loop-a.column (vector f.laws value c.args.column.now) c.args.q c.loop-a.a c.args.b (c.image.result * c.args.turns.now.each) c.index-column-first.result (value c.args.w) fe la c.requires.column k c.index-column-first.is c.loop-a.invariant len c.in_err-column.ensures.wide)

pub loop-a-init : goal.loop-a-init
loop-a-init g c =
    let s = g.S.OfSpace.space in
    let f = g.F.Field.field in
    let value = g.F.Field.value in
    put-start f value (λ a. f.laws.plus (vector f.laws value c.args.column.now (s.image c.args.q 0 * s.each + a)) (f.laws.times (of_whole f.laws (s.turn c.args.q a c.args.b)) (value c.args.w))) c.args.column.now (s.image c.args.q 0 * s.each)

pub loop-a-preserved : goal.loop-a-preserved
loop-a-preserved g c =
    let s = g.S.OfSpace.space in
    let f = g.F.Field.field in
    let value = g.F.Field.value in
    let m : c.image.result < s.atoms = subst (λ (n : ℕ). c.image.result < n) c.requires.orbit.atoms c.image.ensures.below in
    let len : length c.loop-a.column ≡ s.atoms * s.each = c.loop-a.auto.column ∙ c.requires.room in
    let k : c.image.result * c.args.turns.now.each + c.loop-a.a < length c.loop-a.column =
    place-inside s.atoms s.each c.image.result c.loop-a.a c.args.turns.now.each (length c.loop-a.column) m c.requires.table.each c.loop-a-test.true len in
    let image : c.image.result ≡ s.image c.args.q 0 = c.image.ensures.value ∙ c.requires.orbit.images c.args.q 0 c.requires.element c.requires.laws.some in
    let fe : c.image.result * c.args.turns.now.each ≡ s.image c.args.q 0 * s.each = (λ t. image t * c.requires.table.each t) in
    let la : c.loop-a.a < s.each = subst (λ (n : ℕ). c.loop-a.a < n) c.requires.table.each c.loop-a-test.true in
    added-next f s value c.loop-a.column (vector f.laws value c.args.column.now) c.args.q c.loop-a.a c.args.b (c.image.result * c.args.turns.now.each) c.index-column-first.result (value c.args.w) fe la c.requires.column k c.index-column-first.is c.loop-a.invariant c.in_ok-column.field-0 c.in_ok-column.ensures.exact

pub returns-clause-exact : goal.returns-clause-exact
returns-clause-exact g c =
    let s = g.S.OfSpace.space in
    let f = g.F.Field.field in
    let value = g.F.Field.value in
    let old = vector f.laws value c.args.column.now in
    let at = s.image c.args.q 0 * s.each in
    let ends : c.loop-a.a ≡ s.each = (let e : c.loop-a.a ≡ c.args.turns.now.each = omega (arith, c.loop-a-test.false, c.loop-a.auto.a-end) in e) ∙ c.requires.table.each in
    turned-added f s old (vector f.laws value c.loop-a.column) c.args.q c.args.b (value c.args.w) c.requires.column
    (subst (λ (n : ℕ). IsPut old at n (λ a. f.laws.plus (old (at + a)) (f.laws.times (of_whole f.laws (s.turn c.args.q a c.args.b)) (value c.args.w))) (vector f.laws value c.loop-a.column)) ends c.loop-a.invariant)
