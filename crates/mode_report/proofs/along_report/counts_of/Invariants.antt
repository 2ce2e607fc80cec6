use Rattle.std.proofs.Common.{◌≡◌, List, length, map, take}
use Rattle.std.specs.List.{All}
use Rattle.iso_text.specs.declared.sections.IrrepText.{IrrepText}
use Rattle.mode_report.specs.DirectionHeld.{named_matrices}
use Rattle.mode_report.proofs.along_report.counts_of.Given as goal

abbrev pub invariant-loop-i : goal.invariant-loop-i
invariant-loop-i l = record {
  end : l.i-end ≡ length l.all;
  counts : (irreps : List IrrepText) → All (λ ms. length irreps ≡ length ms.items) l.all → l.counts.items ≡ map (λ ms. length (named_matrices irreps ms.items)) (take l.i l.all);
}
