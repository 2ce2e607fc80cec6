use Rattle.std.proofs.Common.{◌≤◌, length, sym, ◌∙◌, arith}
use Rattle.cyclo24.specs.ExactK24.{k24, k24_laws}
use Rattle.cyclo24.specs.K24.{exact24}
use Rattle.lin_alg.specs.Rows.{exact_rows}
use Rattle.mode_project.proofs.DirectionLemmas.{few-rows}
use Rattle.mode_project.proofs.JointLemmas.{exact-length}
use Rattle.mode_project.proofs.direction.long_table.Goals as goal

pub table_of-requires : goal.table_of-requires
table_of-requires c =
    let few : length c.args.orbit.now.places ≤ 384 = omega (arith, c.atoms-atoms.ensures.value, c.atoms-atoms.ensures.few) in
    record { small = few-rows k24 exact24 (length c.args.orbit.now.places) c.in-Ok.form.rows c.in-Ok.form.width few c.in-Ok.ensures.width c.in-Ok.ensures.modes.form }

pub returns-in-Ok-table_of-clause-modes : goal.returns-in-Ok-table_of-clause-modes
returns-in-Ok-table_of-clause-modes c =
    let rows = c.in-Ok.form.rows in
    (exact_rows k24_laws exact24 rows, c.in-Ok.ensures.modes, exact-length k24_laws exact24 rows ∙ sym c.in-Ok-table_of.ensures.rows, c.in-Ok-table_of.ensures.entries)
