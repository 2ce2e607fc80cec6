use Rattle.std.proofs.Common.{ℕ, subst, ap}
use Rattle.std.specs.Prelude.{Err}
use Rattle.std.proofs.lemmas.List.Elements.{Contains-get_or}
use Rattle.cyclo24.specs.ExactK24.{Exact24, k24, k24_laws}
use Rattle.cyclo24.specs.K24.{exact24}
use Rattle.mode_project.specs.AtomSpace.{displacements}
use Rattle.mode_project.specs.DirectionParts.{IsModeTable}
use Rattle.mode_project.specs.Wide.{IsWideModesOf}
use Rattle.mode_project.proofs.FinalLemmas.{weight-of, weight-vector, same-family}
use Rattle.mode_project.proofs.direction.modes_of.Goals as goal

pub displaced_table-requires-clause-weights : goal.displaced_table-requires-clause-weights
displaced_table-requires-clause-weights c =
    (weight-of c.args.quotient.now c.lists-lists.result.now c.args.weights.now c.lists-lists.ensures c.args.which c.requires.irrep c.index-lists-which.result c.index-lists-which.is c.deref.result.now c.deref.ensures.value c.requires.weights).count

pub displaced_table-requires-clause-class : goal.displaced_table-requires-clause-class
displaced_table-requires-clause-class c =
    (weight-of c.args.quotient.now c.lists-lists.result.now c.args.weights.now c.lists-lists.ensures c.args.which c.requires.irrep c.index-lists-which.result c.index-lists-which.is c.deref.result.now c.deref.ensures.value c.requires.weights).class

pub displaced_table-requires-clause-below : goal.displaced_table-requires-clause-below
displaced_table-requires-clause-below c k l = c.requires.stabiliser.below _ (Contains-get_or c.args.stab.now k 0 l)

pub returns-in-Ok-clause-modes : goal.returns-in-Ok-clause-modes
returns-in-Ok-clause-modes c =
    let s = displacements c.args.quotient.now c.args.orbit.now in
    let w = weight-vector c.args.quotient.now c.lists-lists.result.now c.args.weights.now c.lists-lists.ensures c.args.which c.requires.irrep c.index-lists-which.result c.index-lists-which.is c.deref.result.now c.deref.ensures.value in
    subst (λ (v : ℕ → Exact24). IsModeTable k24_laws exact24 s v c.args.stab.now c.in-Ok.table) w c.in-Ok.ensures.modes

pub returns-in-Err-Wide-clause-wide : goal.returns-in-Err-Wide-clause-wide
returns-in-Err-Wide-clause-wide c f e =
    let s = displacements c.args.quotient.now c.args.orbit.now in
    let w = weight-vector c.args.quotient.now c.lists-lists.result.now c.args.weights.now c.lists-lists.ensures c.args.which c.requires.irrep c.index-lists-which.result c.index-lists-which.is c.deref.result.now c.deref.ensures.value in
    (same-family 5 f e, subst (λ (v : ℕ → Exact24). IsWideModesOf k24 s v c.args.stab.now) w (c.in-Err-Wide.ensures.wide (ap Err c.in-Err-Wide.field-0-is)))
