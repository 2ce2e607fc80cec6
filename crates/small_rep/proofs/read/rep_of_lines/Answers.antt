use Rattle.std.proofs.Common.{◌≡◌, ◌∙◌, ap, sym, subst, ◌≤◌, List, ℕ, length}
use Rattle.small_rep.specs.Pairs.{ArePairs}
use Rattle.small_rep.proofs.RepLemmas.{rep_held}
use Rattle.small_rep.proofs.read.rep_of_lines.Goals as goal

pub pairs_of-requires-clause-few : goal.pairs_of-requires-clause-few
pairs_of-requires-clause-few c = subst (λ (xs : List ℕ). length xs ≤ 48) (sym (c.deref-2.ensures.value ∙ c.in-Ok.ensures.items)) c.little.ensures.few

pub invariant_of-result : goal.invariant_of-result
invariant_of-result c =
    let e : c.in-Ok.little.items ≡ c.args.star.now.little = c.in-Ok.ensures.items ∙ c.little.ensures.value in
    let few : length c.in-Ok.little.items ≤ 48 = subst (λ (xs : List ℕ). length xs ≤ 48) (sym c.in-Ok.ensures.items) c.little.ensures.few in
    rep_held c.args.group.now c.requires.group c.args.star.now.row c.args.star.now c.requires.star c.args.size c.in-Ok.little.items c.in_ok-ops.ops.items c.in_ok-pairs.pairs.items c.args.lines.rotations.items
    c.args.lines.matrices.items c.requires.some c.requires.few few e (c.in_ok-ops.ensures.count ∙ ap length c.deref.ensures.value)
    (subst (λ (xs : List ℕ). ArePairs c.args.group.now c.args.star.now xs c.in_ok-pairs.pairs.items) c.deref-2.ensures.value c.in_ok-pairs.ensures) c.requires.whole c.requires.matrices
