use Rattle.std.proofs.Common.{◌≡◌, ◌-◌, ◌++◌}
use Rattle.std.specs.List.{range_with_len}
use Rattle.apart_report.specs.ApartFound.{pairs_of}
use Rattle.apart_report.specs.Held.{number_pairs}
use Rattle.apart_report.proofs.pairs.pairs_below.Given as goal

abbrev pub invariant-loop-i : goal.invariant-loop-i
invariant-loop-i l = number_pairs l.count ≡ l.pairs.items ++ pairs_of (range_with_len l.i (l.count - l.i))
