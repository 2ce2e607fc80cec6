use Rattle.std.proofs.Common.{◌≡◌, List, length, take}
use Rattle.iso_text.specs.declared.sections.IrrepText.{IrrepText}
use Rattle.mode_report.specs.DirectionHeld.{named_matrices}
use Rattle.mode_report.proofs.along_pieces.count_of.Given as goal

abbrev pub invariant-loop-j : goal.invariant-loop-j
invariant-loop-j l = record {
  end : l.j-end ≡ length l.matrices;
  count : (irreps : List IrrepText) → length irreps ≡ length l.matrices → l.count ≡ length (named_matrices (take l.j irreps) (take l.j l.matrices));
}
