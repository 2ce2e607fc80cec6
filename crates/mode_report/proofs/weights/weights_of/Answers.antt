use Rattle.std.proofs.Common.{◌≡◌, ◌∙◌, List, map, sym, ap, subst}
use Rattle.std.specs.List.{All}
use Rattle.std.proofs.lemmas.Result.{IfOk-weaker}
use Rattle.cyclo24.specs.declared.k24.K24.{K24}
use Rattle.super_group.specs.Quotient.{SupercellGroup}
use Rattle.induce.specs.InducedView.{InducedView, IsInducedOf}
use Rattle.mode_project.specs.Weights.{AreWeights, exact_weights, weights_in}
use Rattle.report_steps.specs.Held.{IsInducedHeld}
use Rattle.mode_report.specs.IrrepWeights.{AreWeightsOf}
use Rattle.mode_report.proofs.EachLemmas.{each-second}
use Rattle.mode_report.specs.ModesHeldLaws.{weights-are}
use Rattle.mode_report.proofs.weights.weights_of.Goals as goal

pub returns-clause-lists : goal.returns-clause-lists
returns-clause-lists c =
    let q = c.args.file.now.divided.quotient in
    let vs = c.args.file.now.irreps.items in
    let all : All (IsInducedOf q) vs = each-second (IsInducedHeld q) (IsInducedOf q) c.args.file.now.divided.file.irreps vs (λ i v h. h.of) c.requires in
    let P : List InducedView → Type 0 = λ us. All (IsInducedOf q) us in
    IfOk-weaker c.new.result (λ (w : List (List K24)). (g : SupercellGroup) → All (IsInducedOf g) c.deref.result.now → AreWeights g w) (AreWeights q)
    (λ w f. f q (subst P (sym c.deref.ensures.value) all)) c.new.ensures.of

pub returns-clause-of : goal.returns-clause-of
returns-clause-of c =
    let q = c.args.file.now.divided.quotient in
    let irreps = c.args.file.now.divided.file.irreps in
    let vs = c.args.file.now.irreps.items in
    let Q : List (List K24) → Type 0 = λ w. AreWeightsOf q irreps (exact_weights w) in
    IfOk-weaker c.new.result (λ (w : List (List K24)). w ≡ map weights_in c.deref.result.now) Q
    (λ w e. subst Q (sym (e ∙ ap (map weights_in) c.deref.ensures.value)) (weights-are q irreps vs c.requires)) c.new.ensures.lists
