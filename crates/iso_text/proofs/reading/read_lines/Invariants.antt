use Rattle.std.proofs.Common.{◌+◌, ◌≤◌, length}
use Rattle.iso_text.specs.Lines.{lines_of}
use Rattle.iso_text.proofs.Starts.{Stands}
use Rattle.iso_text.proofs.reading.read_lines.Given as goal

abbrev pub invariant-loop-rest : goal.invariant-loop-rest
invariant-loop-rest l = record {
  stands : Stands (lines_of l.bytes) l.number l.draft (lines_of l.rest);
  few : l.number + length l.rest ≤ length l.bytes;
}

abbrev pub decreases-loop-rest : goal.decreases-loop-rest
decreases-loop-rest l = length l.rest
