use Rattle.std.proofs.Common.{◌≡◌, ℕ, List, length, drop, Some, slice_get}
use Rattle.cyclo24.specs.ExactK24.{Exact24}
use Rattle.mode_report.specs.DirectionHeld.{named_matrices}
use Rattle.mode_report.proofs.along_pieces.along_mode.Given as goal

abbrev pub invariant-loop-j : goal.invariant-loop-j
invariant-loop-j l = record {
  end : l.j-end ≡ length l.matrices;
  rest : (x : List ℕ × (ℕ → Exact24)) → slice_get (named_matrices l.irreps l.matrices) l.m ≡ Some x → slice_get (named_matrices (drop l.j l.irreps) (drop l.j l.matrices)) l.left ≡ Some x;
}
