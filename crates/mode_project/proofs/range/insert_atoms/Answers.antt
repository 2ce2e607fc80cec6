use Rattle.std.proofs.Common.{◌≡◌, ◌<◌, ◌*◌, ℕ, ◌∙◌, ap, subst, arith, length}
use Rattle.std.specs.Prelude.{Err}
use Rattle.lin_alg.specs.declared.errors.LinError.TheVariants.{Wide}
use Rattle.mode_project.specs.AtomSpace.{size_of}
use Rattle.mode_project.specs.Parts.{rows_in, row_in, spread, HoldsSpan}
use Rattle.mode_project.proofs.range.insert_atoms.Goals as goal

pub loop-i-init : goal.loop-i-init
loop-i-init g c =
    let s = g.S.OfSpace.space in
    let f = g.F.Field.field.laws in
    let value = g.F.Field.value in
    let zero : 0 ≡ 0 * s.each = omega arith in
    subst (λ (n : ℕ). HoldsSpan f value (size_of s) (spread f s c.args.ways.now (row_in f value (rows_in c.args.columns.now))) n c.args.form.now) zero c.requires.held

pub insert_atom-requires-clause-scratch : goal.insert_atom-requires-clause-scratch
insert_atom-requires-clause-scratch g c = c.loop-i.auto.scratch ∙ c.requires.scratch

pub insert_atom-requires-clause-atom : goal.insert_atom-requires-clause-atom
insert_atom-requires-clause-atom g c = subst (λ (n : ℕ). c.loop-i.i < n) c.requires.ways.count c.loop-i-test.true

pub returns-in-Err-clause-wide : goal.returns-in-Err-clause-wide
returns-in-Err-clause-wide g c w = c.in-Err.ensures.wide (ap Err (let k : c.in-Err.error ≡ Wide = cc in k))

pub loop-i-preserved : goal.loop-i-preserved
loop-i-preserved g c = c.in-Ok.ensures.held

pub returns-clause-held : goal.returns-clause-held
returns-clause-held g c =
    let s = g.S.OfSpace.space in
    let f = g.F.Field.field.laws in
    let value = g.F.Field.value in
    let ends : c.loop-i.i ≡ length c.args.ways.now = omega (arith, c.loop-i-test.false, c.loop-i.auto.i-end) in
    subst (λ (n : ℕ). HoldsSpan f value (size_of s) (spread f s c.args.ways.now (row_in f value (rows_in c.args.columns.now))) (n * s.each) c.loop-i.form) (ends ∙ c.requires.ways.count) c.loop-i.invariant
