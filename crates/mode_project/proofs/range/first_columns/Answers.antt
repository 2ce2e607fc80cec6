use Rattle.std.proofs.Common.{◌≡◌, ℕ, ◌∙◌, subst, arith}
use Rattle.lin_alg.specs.Rows.{vector}
use Rattle.mode_project.specs.AtomSpace.{size_of}
use Rattle.mode_project.specs.Parts.{rows_in, AreVectors}
use Rattle.mode_project.specs.Projection.{projection, column_of}
use Rattle.mode_project.proofs.VectorsLemmas.{vectors-start, vectors-next}
use Rattle.mode_project.proofs.range.first_columns.Goals as goal

pub loop-b-init : goal.loop-b-init
loop-b-init g c =
    let f = g.F.Field.field.laws in
    let s = g.S.OfSpace.space in
    vectors-start f g.F.Field.value (size_of s) (column_of f (size_of s) (projection f s (vector f g.F.Field.value c.args.weights.now))) c.new-columns.result.items c.new-columns.ensures.items

pub loop-b-preserved : goal.loop-b-preserved
loop-b-preserved g c =
    let f = g.F.Field.field.laws in
    let s = g.S.OfSpace.space in
    vectors-next f g.F.Field.value (size_of s) (column_of f (size_of s) (projection f s (vector f g.F.Field.value c.args.weights.now))) c.loop-b.columns.items c.push.new.self.items c.in-Ok.column c.loop-b.b c.in-Ok-push.ensures.items c.in-Ok.ensures.len c.in-Ok.ensures.exact c.loop-b.invariant

pub returns-clause-columns : goal.returns-clause-columns
returns-clause-columns g c =
    let f = g.F.Field.field.laws in
    let s = g.S.OfSpace.space in
    let ends : c.loop-b.b ≡ c.args.turns.now.each = omega (arith, c.loop-b-test.false, c.loop-b.auto.b-end) in
    subst (λ (n : ℕ). AreVectors f g.F.Field.value (size_of s) (column_of f (size_of s) (projection f s (vector f g.F.Field.value c.args.weights.now))) (rows_in c.loop-b.columns.items) n) (ends ∙ c.requires.table.each) c.loop-b.invariant
