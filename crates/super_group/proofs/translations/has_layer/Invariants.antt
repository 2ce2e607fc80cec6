use Rattle.std.proofs.Common.{ℕ, ◌<◌}
use Rattle.super_group.specs.TranslationsBefore.{IsAt, coordinate}
use Rattle.super_group.proofs.translations.has_layer.Given as goal

abbrev pub invariant-loop-c : goal.invariant-loop-c
invariant-loop-c l = (k : ℕ) → k < l.c-index → IsAt (coordinate l.centrings k 0) l.x → ⊥
