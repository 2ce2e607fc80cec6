use Rattle.std.proofs.Common.{◌≡◌, length, take}
use Rattle.mode_report.specs.Parts.{parts_of}
use Rattle.mode_report.proofs.parts.parts_of.Given as goal

abbrev pub invariant-loop-i : goal.invariant-loop-i
invariant-loop-i l = record { end : l.i-end ≡ length l.counts; parts : l.parts.items ≡ parts_of (take l.i l.counts) }
