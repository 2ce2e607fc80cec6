use Rattle.std.proofs.Common.{◌∙◌, subst, sym, List, ℤ, arith}
use Rattle.std.proofs.lemmas.Bool.{iff_false}
use Rattle.super_group.specs.TranslationsBefore.{HasLayer}
use Rattle.super_group.proofs.BeforeLemmas.{layer-none, layer-end}
use Rattle.super_group.proofs.translations.push_layer.Goals as goal

pub returns-then-not-has_layer : goal.returns-then-not-has_layer
returns-then-not-has_layer c =
    layer-none c.args.lattice c.args.d c.args.x c.args.list.now.items
    (λ h. iff_false c.has_layer.ensures c.if-not-has_layer.true
    (subst (λ (cs : List (List ℤ)). HasLayer cs c.args.x) (sym (c.as_slice.ensures.value ∙ c.centrings.ensures)) h))
    c.requires.before

pub returns : goal.returns
returns c = layer-end c.args.lattice c.args.d c.args.x c.loop-y.y c.loop-y.list.items (omega arith) c.loop-y.invariant
