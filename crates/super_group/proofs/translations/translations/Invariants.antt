use Rattle.super_group.specs.TranslationsBefore.{AreTranslationsBefore}
use Rattle.super_group.proofs.translations.translations.Given as goal

abbrev pub invariant-loop-x : goal.invariant-loop-x
invariant-loop-x l = AreTranslationsBefore l.lattice l.d l.x 0 0 l.list.items
