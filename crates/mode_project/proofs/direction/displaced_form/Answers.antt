use Rattle.std.proofs.Common.{refl, sym, subst, length}
use Rattle.lin_alg.specs.Rows.{vector}
use Rattle.mode_project.specs.AtomSpace.{AtomSpace, IsAtomSpace, displacements, polar_vector}
use Rattle.mode_project.specs.Turns.{IsTurnTable, IsOrbitIn, AreWays}
use Rattle.mode_project.specs.Wide.{IsWideModesOf}
use Rattle.mode_project.proofs.direction.displaced_form.Goals as goal

pub direction_form-requires-clause-laws : goal.direction_form-requires-clause-laws
direction_form-requires-clause-laws g c =
    subst IsAtomSpace (sym c.requires.space) (c.law_of_displacements.ensures c.args.quotient.now c.args.orbit.now c.order-order.ensures.quotient c.requires.orbit)

pub direction_form-requires-clause-orbit : goal.direction_form-requires-clause-orbit
direction_form-requires-clause-orbit g c =
    subst (λ (s : AtomSpace). IsOrbitIn s c.args.orbit.now) (sym c.requires.space) (record { atoms = refl; order = c.requires.orbit.of.order; images = λ q i lq li. refl })

pub direction_form-requires-clause-table : goal.direction_form-requires-clause-table
direction_form-requires-clause-table g c =
    subst (λ (s : AtomSpace). IsTurnTable s c.in-Ok.turns) (sym c.requires.space) (c.in-Ok.ensures c.args.orbit.now)

pub direction_form-requires-clause-ways : goal.direction_form-requires-clause-ways
direction_form-requires-clause-ways g c =
    let e = c.deref.ensures.value in
    subst (λ (s : AtomSpace). AreWays s c.deref.result.now s.atoms) (sym c.requires.space) (subst (λ xs. AreWays (displacements c.args.quotient.now c.args.orbit.now) xs (length c.args.orbit.now.places)) (sym e) (c.in-Ok-ways_to.ensures polar_vector))

pub returns-clause-wide : goal.returns-clause-wide
returns-clause-wide g c w =
    let f = g.F.Field.field in
    subst (λ (s : AtomSpace). IsWideModesOf f s (vector f.laws g.F.Field.value c.args.weights.now) c.args.stab.now) c.requires.space (c.in-Err-direction_form.ensures.wide w)
