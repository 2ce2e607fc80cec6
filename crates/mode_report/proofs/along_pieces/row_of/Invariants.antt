use Rattle.std.proofs.Common.{◌≡◌, map}
use Rattle.std.specs.List.{range_with_len}
use Rattle.cyclo24.specs.ExactK24.{k24_laws}
use Rattle.cyclo24.specs.K24.{exact24}
use Rattle.lin_alg.specs.Matrix.{entry}
use Rattle.mode_report.proofs.along_pieces.row_of.Given as goal

abbrev pub invariant-loop-j : goal.invariant-loop-j
invariant-loop-j l = record {
  end : l.j-end ≡ l.matrix.cols;
  entries : map exact24 l.row.items ≡ map (entry k24_laws exact24 l.matrix l.i) (range_with_len 0 l.j);
}
