use Rattle.std.proofs.Common.{◌<◌, ℕ, length, sym, ap, subst}
use Rattle.std.specs.Prelude.{Err}
use Rattle.cyclo24.specs.ExactK24.{k24, k24_laws}
use Rattle.cyclo24.specs.K24.{exact24}
use Rattle.mode_project.specs.ApartLaws.{ranges-meet, own-span}
use Rattle.mode_project.specs.AtomSpace.{displacements}
use Rattle.mode_project.specs.Modes.{vector_at}
use Rattle.mode_project.specs.ModesView.{irrep_modes_in}
use Rattle.mode_project.specs.ProjectionLaws.{projection-commutes}
use Rattle.mode_project.specs.Weights.{exact_weights}
use Rattle.mode_project.specs.declared.errors.ModeError.TheVariants.{Wide}
use Rattle.mode_project.proofs.FinalLemmas.{weight-class, same-cause}
use Rattle.mode_project.proofs.JointLemmas.{lists-length}
use Rattle.mode_project.proofs.basis.modes.Goals as goal

pub returns-in-Ok-clause-commutes : goal.returns-in-Ok-clause-commutes
returns-in-Ok-clause-commutes c j q lj lq v i li =
    let g = c.args.quotient.now in
    let o = c.args.orbit.now in
    projection-commutes k24_laws (displacements g o) (c.law_of_displacements.ensures g o c.order-order.ensures.quotient c.requires.orbit) (vector_at k24_laws (exact_weights c.args.weights.now) j)
    (weight-class g c.args.weights.now c.requires.weights j lj) q lq v i li

pub returns-in-Err-clause-commutes : goal.returns-in-Err-clause-commutes
returns-in-Err-clause-commutes c j q lj lq v i li =
    let g = c.args.quotient.now in
    let o = c.args.orbit.now in
    projection-commutes k24_laws (displacements g o) (c.law_of_displacements.ensures g o c.order-order.ensures.quotient c.requires.orbit) (vector_at k24_laws (exact_weights c.args.weights.now) j)
    (weight-class g c.args.weights.now c.requires.weights j lj) q lq v i li

pub returns-in-Ok-clause-meet : goal.returns-in-Ok-clause-meet
returns-in-Ok-clause-meet c j l lj ll a =
    let g = c.args.quotient.now in
    let o = c.args.orbit.now in
    let ws = exact_weights c.args.weights.now in
    ranges-meet k24_laws c.law_of_squares.ensures (displacements g o) (c.law_of_displacements.ensures g o c.order-order.ensures.quotient c.requires.orbit) (vector_at k24_laws ws j) (vector_at k24_laws ws l) a

pub returns-in-Err-clause-meet : goal.returns-in-Err-clause-meet
returns-in-Err-clause-meet c j l lj ll a =
    let g = c.args.quotient.now in
    let o = c.args.orbit.now in
    let ws = exact_weights c.args.weights.now in
    ranges-meet k24_laws c.law_of_squares.ensures (displacements g o) (c.law_of_displacements.ensures g o c.order-order.ensures.quotient c.requires.orbit) (vector_at k24_laws ws j) (vector_at k24_laws ws l) a

pub returns-in-Ok-clause-own : goal.returns-in-Ok-clause-own
returns-in-Ok-clause-own c a j l =
    let g = c.args.quotient.now in
    let o = c.args.orbit.now in
    let ws = exact_weights c.args.weights.now in
    let m = c.in-Ok.found in
    let n : j < length ws = subst (λ (k : ℕ). j < k) (sym (lists-length k24 exact24 c.args.weights.now)) l in
    own-span k24_laws c.law_of_squares.ensures (displacements g o) (c.law_of_displacements.ensures g o c.order-order.ensures.quotient c.requires.orbit) ws (irrep_modes_in m) c.in-Ok.ensures.modes.irreps a j n

pub returns-in-Err-clause-wide : goal.returns-in-Err-clause-wide
returns-in-Err-clause-wide c f e =
    let k = c.cause.ensures f (same-cause c.cause.result (Wide f) e) in
    (k.0, c.in-Err.ensures.wide (ap Err k.1))
