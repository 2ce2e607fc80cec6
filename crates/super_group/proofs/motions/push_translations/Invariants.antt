use Rattle.std.proofs.Common.{◌≡◌, ◌++◌, map, take}
use Rattle.super_group.specs.QuotientParts.{translation_op}
use Rattle.super_group.proofs.motions.push_translations.Given as goal

abbrev pub invariant-loop-vector : goal.invariant-loop-vector
invariant-loop-vector l = l.motions.items ≡ l.fn.motions.items ++ map translation_op (take l.vector-index l.vectors)
