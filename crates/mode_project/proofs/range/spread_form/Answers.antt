use Rattle.std.proofs.Common.{◌≡◌, ◌*◌, ◌∙◌, ap, length}
use Rattle.std.specs.Prelude.{Err}
use Rattle.lin_alg.specs.declared.errors.LinError.TheVariants.{Wide}
use Rattle.mode_project.specs.AtomSpace.{size_of}
use Rattle.mode_project.specs.Parts.{rows_in, row_in, spread}
use Rattle.mode_project.proofs.RangeLemmas.{held-start}
use Rattle.mode_project.proofs.range.spread_form.Goals as goal

pub insert_atoms-requires-clause-held : goal.insert_atoms-requires-clause-held
insert_atoms-requires-clause-held g c =
    let s = g.S.OfSpace.space in
    let f = g.F.Field.field in
    let value = g.F.Field.value in
    let a = spread f.laws s c.args.ways.now (row_in f.laws value (rows_in c.args.columns.now)) in
    let width = c.new-form.ensures.width ∙ (λ z. (c.atoms-2.ensures.value ∙ c.requires.orbit.atoms) z * c.requires.table.each z) in
    held-start f value (size_of s) a c.new-form.result width c.new-form.ensures.whole c.new-form.ensures.rows c.new-form.ensures.form

pub insert_atoms-requires-clause-scratch : goal.insert_atoms-requires-clause-scratch
insert_atoms-requires-clause-scratch g c =
    ap length c.deref_mut.ensures.value ∙ c.in_ok-scratch.ensures.len ∙ (λ z. (c.atoms.ensures.value ∙ c.requires.orbit.atoms) z * c.requires.table.each z)

pub returns-clause-wide : goal.returns-clause-wide
returns-clause-wide g c w = c.in-Err.ensures.wide (ap Err (let k : c.in-Err.error ≡ Wide = cc in k))
