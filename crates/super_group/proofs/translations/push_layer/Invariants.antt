use Rattle.super_group.specs.TranslationsBefore.{AreTranslationsBefore}
use Rattle.super_group.proofs.translations.push_layer.Given as goal

abbrev pub invariant-loop-y : goal.invariant-loop-y
invariant-loop-y l = AreTranslationsBefore l.lattice l.d l.x l.y 0 l.list.items
