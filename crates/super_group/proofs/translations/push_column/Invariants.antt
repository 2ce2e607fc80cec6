use Rattle.super_group.specs.TranslationsBefore.{AreTranslationsBefore}
use Rattle.super_group.proofs.translations.push_column.Given as goal

abbrev pub invariant-loop-z : goal.invariant-loop-z
invariant-loop-z l = AreTranslationsBefore l.lattice l.d l.x l.y l.z l.list.items
