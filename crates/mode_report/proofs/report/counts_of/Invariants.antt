use Rattle.std.proofs.Common.{◌≡◌, length, map, take}
use Rattle.mode_project.specs.ModesView.{count_in}
use Rattle.mode_report.proofs.report.counts_of.Given as goal

abbrev pub invariant-loop-i : goal.invariant-loop-i
invariant-loop-i l = record { end : l.i-end ≡ length l.all; counts : l.counts.items ≡ map count_in (take l.i l.all) }
