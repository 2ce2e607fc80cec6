use Rattle.std.proofs.Common.{◌≡◌, ◌<◌, ◌≤◌, ◌*◌, ℕ, [], List, length, map, sym, ◌∙◌, ap, subst, arith}
use Rattle.std.specs.Prelude.{slice_index, slice_index_or}
use Rattle.cyclo24.specs.declared.k24.K24.{K24}
use Rattle.cyclo24.specs.ExactK24.{k24_laws}
use Rattle.cyclo24.specs.K24.{exact24}
use Rattle.lin_alg.specs.Rows.{vector, exact_rows}
use Rattle.super_group.specs.Quotient.{quotient_group}
use Rattle.mode_project.specs.AtomSpace.{space_of}
use Rattle.mode_project.specs.Joined.{lines_in, joined_rows_in, AreLong}
use Rattle.mode_project.specs.Modes.{AreModes}
use Rattle.mode_project.specs.Parts.{rows_in}
use Rattle.mode_project.proofs.DirectionLemmas.{few-numbers}
use Rattle.mode_project.proofs.FinalLemmas.{free-inside}
use Rattle.mode_project.proofs.ShortLemmas.{class-short, found-long}
use Rattle.mode_project.proofs.short.modes_by_short.Goals as goal

pub quantity_modes-requires-clause-class : goal.quantity_modes-requires-clause-class
quantity_modes-requires-clause-class g c j l =
    class-short g.S.Field.field g.S.Field.value g.S.Short.exact g.met.S.Short.is_short (quotient_group c.args.quotient.now) (slice_index_or (rows_in c.args.lists.now) j []) (c.requires.class j l)

pub of_rows-requires-clause-small : goal.of_rows-requires-clause-small
of_rows-requires-clause-small g c =
    let k = g.K.AtomQuantity.quantity c.args.kind.now in
    let n = length c.args.orbit.now.places in
    let few : n ≤ 384 = omega (arith, c.atoms-atoms.ensures.value, c.atoms-atoms.ensures.few) in
    let all : n * k.each ≤ 1152 = few-numbers n k.each few (g.met.K.AtomQuantity.lawful c.args.kind.now).few in
    let width : c.in-Ok.joint.form.width ≡ n * k.each = c.in-Ok.ensures.width in
    omega (arith, all, width, c.width.ensures)

pub of_rows-requires-clause-inside : goal.of_rows-requires-clause-inside
of_rows-requires-clause-inside g c k l =
    subst (λ (n : ℕ). slice_index c.in-Ok-free_columns.sites.items k < n) (sym c.width.ensures)
    (free-inside c.in-Ok.joint.form.width c.in-Ok.joint.form.rows c.in-Ok-free_columns.sites.items c.in-Ok-free_columns.ensures k l)

pub returns-in-Ok-free_columns-clause-modes : goal.returns-in-Ok-free_columns-clause-modes
returns-in-Ok-free_columns-clause-modes g c =
    let exact = g.S.Short.exact in
    let s = space_of c.args.quotient.now c.args.orbit.now (g.K.AtomQuantity.quantity c.args.kind.now) in
    let lists = rows_in c.args.lists.now in
    let ws = map (vector k24_laws exact) lists in
    let joint = c.in-Ok.joint in
    let rows = c.in-Ok-lengthened_rows.rows.items in
    let sites = c.in-Ok-free_columns.sites.items in
    let found = found-long g.S.Field.field g.S.Field.value exact g.met.S.Short.is_short s lists joint.form joint.rows.items sites c.in-Ok.ensures.joined c.in-Ok.ensures.width c.in-Ok.ensures.modes c.in-Ok-free_columns.ensures in
    let given = ap (joined_rows_in k24_laws exact) c.deref.ensures.value in
    let all : AreModes k24_laws s ws (joined_rows_in k24_laws exact24 rows) sites = subst (λ ms. AreModes k24_laws s ws ms sites) (sym (c.in-Ok-lengthened_rows.ensures.rows ∙ given)) found in
    subst (λ (xs : List (ℕ × List K24)). AreModes k24_laws s ws (exact_rows k24_laws exact24 xs) c.of_rows.result.sites) (sym c.of_rows.ensures.rows)
    (subst (λ (ys : List ℕ). AreModes k24_laws s ws (joined_rows_in k24_laws exact24 rows) ys) (sym c.of_rows.ensures.sites) all)

pub of_rows-requires-clause-long : goal.of_rows-requires-clause-long
of_rows-requires-clause-long g c =
    let w = c.in-Ok.joint.form.width in
    let held : AreLong w (lines_in c.deref.result.now) = subst (λ xs. AreLong w (lines_in xs)) (sym c.deref.ensures.value) c.in-Ok.ensures.joined.long in
    subst (λ (n : ℕ). AreLong n (lines_in c.in-Ok-lengthened_rows.rows.items)) (sym c.width.ensures) (c.in-Ok-lengthened_rows.ensures.long w held)
