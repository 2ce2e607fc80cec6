use Rattle.std.proofs.Common.{◌≡◌, ℕ, ◌<◌, List, length, ap, ◌∙◌, subst}
use Rattle.std.specs.Prelude.{slice_index_or}
use Rattle.cyclo24.specs.declared.k24.K24.{K24}
use Rattle.cyclo24.specs.ExactK24.{k24_laws}
use Rattle.cyclo24.specs.K24.{exact24}
use Rattle.lin_alg.specs.Rows.{vector}
use Rattle.induce.specs.InducedView.{InducedView}
use Rattle.induce.proofs.WeightLemmas.{weight_at}
use Rattle.induce.proofs.induced.Induced.weight.Goals as goal

pub returns : goal.returns
returns c g i =
    let e : c.self.inside.weights.items ≡ c.args.self.now.weights = ap (λ (v : InducedView). v.weights) c.self.view_is in
    let l : c.args.q < length c.args.self.now.weights = c.requires in
    let x : exact24 c.index.result.now ≡ vector k24_laws exact24 c.args.self.now.weights c.args.q =
    weight_at c.args.self.now.weights c.args.q c.index.result.now c.index.result.now l (subst (λ (xs : List K24). c.index.result.now ≡ slice_index_or xs c.args.q c.index.result.now) e c.index.ensures) in
    x ∙ i.weights c.args.q (subst (λ (n : ℕ). c.args.q < n) i.count l)
