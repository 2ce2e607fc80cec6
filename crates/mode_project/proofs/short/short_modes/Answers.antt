use Rattle.std.proofs.Common.{ℕ, ◌∙◌, List, ap, length, map, subst}
use Rattle.std.specs.Prelude.{IfSome}
use Rattle.cyclo24.specs.ExactK24.{Exact24, k24_laws}
use Rattle.lin_alg.specs.Rows.{vector}
use Rattle.mode_project.specs.AtomSpace.{space_of}
use Rattle.mode_project.specs.Modes.{AreModes}
use Rattle.mode_project.specs.ModesView.{irrep_modes_in}
use Rattle.mode_project.specs.Parts.{rows_in}
use Rattle.mode_project.proofs.ShortLemmas.{short-count, short-class, short-weights}
use Rattle.mode_project.proofs.short.short_modes.Goals as goal

pub modes_by_short-requires-clause-weights : goal.modes_by_short-requires-clause-weights
modes_by_short-requires-clause-weights g c =
    let exact = g.S.Short.exact in
    let long = ap (λ xs. map length (rows_in xs)) c.deref.ensures.value ∙ c.in-Some.ensures.long in
    let same = ap (λ xs. map (vector k24_laws exact) (rows_in xs)) c.deref.ensures.value ∙ c.in-Some.ensures.exact in
    short-count exact c.args.quotient.now c.deref.result.now c.lists.result.now c.args.weights.now c.lists.ensures c.requires.weights long same

pub modes_by_short-requires-clause-class : goal.modes_by_short-requires-clause-class
modes_by_short-requires-clause-class g c =
    let exact = g.S.Short.exact in
    let long = ap (λ xs. map length (rows_in xs)) c.deref.ensures.value ∙ c.in-Some.ensures.long in
    let same = ap (λ xs. map (vector k24_laws exact) (rows_in xs)) c.deref.ensures.value ∙ c.in-Some.ensures.exact in
    short-class exact c.args.quotient.now c.deref.result.now c.lists.result.now c.args.weights.now c.lists.ensures c.requires.weights long same

pub returns-in-Some-clause-modes : goal.returns-in-Some-clause-modes
returns-in-Some-clause-modes g c =
    let exact = g.S.Short.exact in
    let s = space_of c.args.quotient.now c.args.orbit.now (g.K.AtomQuantity.quantity c.args.kind.now) in
    let long = ap (λ xs. map length (rows_in xs)) c.deref.ensures.value ∙ c.in-Some.ensures.long in
    let same = ap (λ xs. map (vector k24_laws exact) (rows_in xs)) c.deref.ensures.value ∙ c.in-Some.ensures.exact in
    let ws = short-weights exact c.args.quotient.now c.deref.result.now c.lists.result.now c.args.weights.now c.lists.ensures c.requires.weights long same in
    subst (λ (vs : List (ℕ → Exact24)). IfSome c.modes_by_short.result (λ m. AreModes k24_laws s vs (irrep_modes_in m) m.sites)) ws c.modes_by_short.ensures.modes
