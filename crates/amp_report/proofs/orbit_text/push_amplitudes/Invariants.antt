use Rattle.std.proofs.Common.{◌≡◌, ◌++◌, take, length, flat_map}
use Rattle.std.specs.List.{enumerate_from}
use Rattle.amp_report.specs.AmpsReport.{amplitude_line}
use Rattle.amp_report.specs.Held.{told_of}
use Rattle.amp_report.proofs.orbit_text.push_amplitudes.Given as goal

abbrev pub invariant-loop-m : goal.invariant-loop-m
invariant-loop-m l = record {
  end : l.m-end ≡ length l.row;
  text : l.text ≡ l.fn.text ++ flat_map amplitude_line (enumerate_from 1 (take l.m (told_of l.irreps l.orbit l.found l.row).amplitudes));
}
