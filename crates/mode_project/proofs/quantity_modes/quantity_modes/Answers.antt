use Rattle.std.proofs.Common.{[], refl, sym, ◌∙◌, ap, subst, length, map}
use Rattle.std.specs.Prelude.{slice_index_or}
use Rattle.lin_alg.specs.Matrices.{IsClassFunction}
use Rattle.lin_alg.specs.Rows.{vector}
use Rattle.mode_project.specs.AtomSpace.{AtomSpace, IsAtomSpace, size_of, space_of}
use Rattle.mode_project.specs.Joined.{joined_rows_in}
use Rattle.mode_project.specs.Modes.{AreIrrepModes}
use Rattle.mode_project.specs.Parts.{rows_in}
use Rattle.mode_project.specs.Turns.{IsTurnTable, IsOrbitIn, AreWays}
use Rattle.mode_project.specs.Wide.{IsWideModes}
use Rattle.mode_project.proofs.quantity_modes.quantity_modes.Goals as goal

pub irrep_modes-requires-clause-laws : goal.irrep_modes-requires-clause-laws
irrep_modes-requires-clause-laws g c =
    subst IsAtomSpace (sym c.requires.space) (c.law_of_spaces.ensures c.args.quotient.now c.args.orbit.now (g.K.AtomQuantity.quantity c.args.kind.now) c.order-order.ensures.quotient c.requires.orbit (g.met.K.AtomQuantity.lawful c.args.kind.now))

pub irrep_modes-requires-clause-orbit : goal.irrep_modes-requires-clause-orbit
irrep_modes-requires-clause-orbit g c =
    subst (λ (s : AtomSpace). IsOrbitIn s c.args.orbit.now) (sym c.requires.space) (record { atoms = refl; order = c.requires.orbit.of.order; images = λ q i lq li. refl })

pub irrep_modes-requires-clause-table : goal.irrep_modes-requires-clause-table
irrep_modes-requires-clause-table g c =
    subst (λ (s : AtomSpace). IsTurnTable s c.in-Ok.turns) (sym c.requires.space) (c.in-Ok.ensures c.args.orbit.now)

pub irrep_modes-requires-clause-ways : goal.irrep_modes-requires-clause-ways
irrep_modes-requires-clause-ways g c =
    let e = c.deref.ensures.value in
    subst (λ (s : AtomSpace). AreWays s c.deref.result.now s.atoms) (sym c.requires.space) (subst (λ xs. AreWays (space_of c.args.quotient.now c.args.orbit.now (g.K.AtomQuantity.quantity c.args.kind.now)) xs (length c.args.orbit.now.places)) (sym e) (c.in-Ok-ways_to.ensures (g.K.AtomQuantity.quantity c.args.kind.now)))

pub irrep_modes-requires-clause-weights : goal.irrep_modes-requires-clause-weights
irrep_modes-requires-clause-weights g c j l = c.requires.weights j l ∙ ap (λ (s : AtomSpace). s.group.order) (sym c.requires.space)

pub irrep_modes-requires-clause-class : goal.irrep_modes-requires-clause-class
irrep_modes-requires-clause-class g c j l =
    subst (λ (s : AtomSpace). IsClassFunction s.group (vector g.F.Field.field.laws g.F.Field.value (slice_index_or (rows_in c.args.lists.now) j []))) (sym c.requires.space) (c.requires.class j l)

pub returns-in-Ok-irrep_modes-clause-width : goal.returns-in-Ok-irrep_modes-clause-width
returns-in-Ok-irrep_modes-clause-width g c = c.in-Ok-irrep_modes.ensures.width ∙ ap size_of c.requires.space

pub returns-in-Ok-irrep_modes-clause-modes : goal.returns-in-Ok-irrep_modes-clause-modes
returns-in-Ok-irrep_modes-clause-modes g c =
    let f = g.F.Field.field.laws in
    let value = g.F.Field.value in
    subst (λ (s : AtomSpace). AreIrrepModes f s (map (vector f value) (rows_in c.args.lists.now)) (joined_rows_in f value c.in-Ok-irrep_modes.joint.rows.items)) c.requires.space c.in-Ok-irrep_modes.ensures.modes

pub returns-clause-wide : goal.returns-clause-wide
returns-clause-wide g c w =
    let f = g.F.Field.field in
    subst (λ (s : AtomSpace). IsWideModes f s (map (vector f.laws g.F.Field.value) (rows_in c.args.lists.now))) c.requires.space (c.in-Err-irrep_modes.ensures.wide w)
