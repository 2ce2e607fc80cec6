use Rattle.std.proofs.Common.{◌≡◌, ℕ, ◌<◌, List, length, ap, ◌∙◌, subst}
use Rattle.std.specs.Prelude.{slice_index_or}
use Rattle.cyclo24.specs.declared.z24.Z24.{Z24}
use Rattle.cyclo24.specs.ExactZ24.{z24_laws}
use Rattle.cyclo24.specs.Z24.{exact_z24}
use Rattle.lin_alg.specs.Rows.{vector}
use Rattle.induce.specs.InducedView.{InducedView}
use Rattle.induce.proofs.CharacterLemmas.{vector_at}
use Rattle.induce.proofs.induced.Induced.character.Goals as goal

pub returns : goal.returns
returns c g i =
    let e : c.self.inside.characters.items ≡ c.args.self.now.characters = ap (λ (v : InducedView). v.characters) c.self.view_is in
    let l : c.args.q < length c.args.self.now.characters = c.requires in
    let x : exact_z24 c.index.result.now ≡ vector z24_laws exact_z24 c.args.self.now.characters c.args.q =
    vector_at c.args.self.now.characters c.args.q c.index.result.now c.index.result.now l (subst (λ (xs : List Z24). c.index.result.now ≡ slice_index_or xs c.args.q c.index.result.now) e c.index.ensures) in
    x ∙ i.characters.each c.args.q (subst (λ (n : ℕ). c.args.q < n) i.characters.count l)
