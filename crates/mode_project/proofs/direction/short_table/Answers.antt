use Rattle.std.proofs.Common.{◌≤◌, ℕ, length, sym, ◌∙◌, ap, subst, arith}
use Rattle.cyclo24.specs.ExactK24.{Exact24, k24_laws}
use Rattle.cyclo24.specs.K24.{exact24}
use Rattle.lin_alg.specs.Matrices.{IsClassFunction}
use Rattle.lin_alg.specs.Rows.{vector, exact_rows}
use Rattle.super_group.specs.Quotient.{quotient_group}
use Rattle.mode_project.specs.AtomSpace.{displacements}
use Rattle.mode_project.specs.DirectionModes.{AreModesOf}
use Rattle.mode_project.proofs.DirectionLemmas.{few-rows}
use Rattle.mode_project.proofs.JointLemmas.{exact-length}
use Rattle.mode_project.proofs.ShortLemmas.{class-short, direction-long}
use Rattle.mode_project.proofs.direction.short_table.Goals as goal

pub displaced_form-requires-clause-class : goal.displaced_form-requires-clause-class
displaced_form-requires-clause-class g c =
    let group = quotient_group c.args.quotient.now in
    let same = ap (vector k24_laws g.S.Short.exact) c.deref.ensures.value ∙ c.in-Some.ensures.exact in
    class-short g.S.Field.field g.S.Field.value g.S.Short.exact g.met.S.Short.is_short group c.deref.result.now (subst (IsClassFunction group) (sym same) c.requires.class)

pub lengthened_table-requires : goal.lengthened_table-requires
lengthened_table-requires g c =
    let few : length c.args.orbit.now.places ≤ 384 = omega (arith, c.atoms-atoms.ensures.value, c.atoms-atoms.ensures.few) in
    record { small = few-rows g.S.Field.field g.S.Field.value (length c.args.orbit.now.places) c.in-Ok.form.rows c.in-Ok.form.width few c.in-Ok.ensures.width c.in-Ok.ensures.modes.form }

pub returns-in-Ok-lengthened_table-clause-modes : goal.returns-in-Ok-lengthened_table-clause-modes
returns-in-Ok-lengthened_table-clause-modes g c =
    let exact = g.S.Short.exact in
    let rows = c.in-Ok.form.rows in
    let s = displacements c.args.quotient.now c.args.orbit.now in
    let same = ap (vector k24_laws exact) c.deref.ensures.value ∙ c.in-Some.ensures.exact in
    let held = direction-long g.S.Field.field g.S.Field.value exact g.met.S.Short.is_short s c.deref.result.now c.args.stab.now rows c.in-Ok.ensures.modes in
    let modes : AreModesOf k24_laws s (vector k24_laws exact24 c.args.weights.now) c.args.stab.now (exact_rows k24_laws exact rows) =
    subst (λ (v : ℕ → Exact24). AreModesOf k24_laws s v c.args.stab.now (exact_rows k24_laws exact rows)) same held in
    (exact_rows k24_laws exact rows, modes, exact-length k24_laws exact rows ∙ sym c.in-Ok-lengthened_table.ensures.rows, c.in-Ok-lengthened_table.ensures.entries)
