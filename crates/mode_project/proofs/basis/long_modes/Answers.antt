use Rattle.std.proofs.Common.{◌≡◌, ◌<◌, ◌≤◌, ◌*◌, ℕ, List, length, sym, ap, subst, arith}
use Rattle.std.specs.Prelude.{Err, slice_index}
use Rattle.lin_alg.specs.declared.errors.LinError.TheVariants.{Wide}
use Rattle.cyclo24.specs.declared.k24.K24.{K24}
use Rattle.cyclo24.specs.ExactK24.{k24, k24_laws}
use Rattle.cyclo24.specs.K24.{exact24}
use Rattle.lin_alg.specs.Rows.{exact_rows}
use Rattle.mode_project.specs.AtomSpace.{space_of}
use Rattle.mode_project.specs.Joined.{joined_rows_in}
use Rattle.mode_project.specs.Modes.{AreIrrepModes, AreModes}
use Rattle.mode_project.specs.Weights.{exact_weights}
use Rattle.mode_project.specs.Wide.{IsWideModes}
use Rattle.mode_project.proofs.DirectionLemmas.{few-numbers}
use Rattle.mode_project.proofs.FinalLemmas.{weight-at, final-modes, free-inside, same-error}
use Rattle.mode_project.proofs.basis.long_modes.Goals as goal

pub quantity_modes-requires-clause-weights : goal.quantity_modes-requires-clause-weights
quantity_modes-requires-clause-weights g c j l = (weight-at c.args.quotient.now c.lists.result.now c.args.weights.now c.lists.ensures c.requires.weights j l).count

pub quantity_modes-requires-clause-class : goal.quantity_modes-requires-clause-class
quantity_modes-requires-clause-class g c j l = (weight-at c.args.quotient.now c.lists.result.now c.args.weights.now c.lists.ensures c.requires.weights j l).class

pub returns-in-Err-clause-wide : goal.returns-in-Err-clause-wide
returns-in-Err-clause-wide g c e =
    let s = space_of c.args.quotient.now c.args.orbit.now (g.K.AtomQuantity.quantity c.args.kind.now) in
    subst (λ (xs : List (List K24)). IsWideModes k24 s (exact_weights xs)) c.lists.ensures (c.in-Err.ensures.wide (ap Err (same-error c.in-Err.error Wide e)))

pub of_rows-requires-clause-small : goal.of_rows-requires-clause-small
of_rows-requires-clause-small g c =
    let k = g.K.AtomQuantity.quantity c.args.kind.now in
    let n = length c.args.orbit.now.places in
    let few : n ≤ 384 = omega (arith, c.atoms-atoms.ensures.value, c.atoms-atoms.ensures.few) in
    let all : n * k.each ≤ 1152 = few-numbers n k.each few (g.met.K.AtomQuantity.lawful c.args.kind.now).few in
    let width : c.in-Ok.joint.form.width ≡ n * k.each = c.in-Ok.ensures.width in
    omega (arith, all, width, c.width.ensures)

pub of_rows-requires-clause-inside : goal.of_rows-requires-clause-inside
of_rows-requires-clause-inside g c k l =
    subst (λ (n : ℕ). slice_index c.in-Ok-free_columns.sites.items k < n) (sym c.width.ensures)
    (free-inside c.in-Ok.joint.form.width c.in-Ok.joint.form.rows c.in-Ok-free_columns.sites.items c.in-Ok-free_columns.ensures k l)

pub returns-in-Ok-free_columns-clause-modes : goal.returns-in-Ok-free_columns-clause-modes
returns-in-Ok-free_columns-clause-modes g c =
    let s = space_of c.args.quotient.now c.args.orbit.now (g.K.AtomQuantity.quantity c.args.kind.now) in
    let ws = exact_weights c.args.weights.now in
    let rows = c.in-Ok.joint.rows.items in
    let sites = c.in-Ok-free_columns.sites.items in
    let irreps : AreIrrepModes k24_laws s ws (joined_rows_in k24_laws exact24 rows) =
    subst (λ (xs : List (List K24)). AreIrrepModes k24_laws s (exact_weights xs) (joined_rows_in k24_laws exact24 rows)) c.lists.ensures c.in-Ok.ensures.modes in
    let all : AreModes k24_laws s ws (joined_rows_in k24_laws exact24 rows) sites =
    final-modes k24 exact24 s ws c.in-Ok.joint.form rows sites c.in-Ok.ensures.joined c.in-Ok.ensures.width irreps c.in-Ok-free_columns.ensures in
    subst (λ (xs : List (ℕ × List K24)). AreModes k24_laws s ws (exact_rows k24_laws exact24 xs) c.of_rows.result.sites) (sym c.of_rows.ensures.rows)
    (subst (λ (ys : List ℕ). AreModes k24_laws s ws (joined_rows_in k24_laws exact24 rows) ys) (sym c.of_rows.ensures.sites) all)
