use Rattle.std.proofs.Common.{◌≡◌, ◌+◌, ◌-◌, ◌++◌, map}
use Rattle.std.specs.List.{range_with_len}
use Rattle.apart_report.proofs.pairs.push_pairs.Given as goal

abbrev pub invariant-loop-j : goal.invariant-loop-j
invariant-loop-j l = l.pairs.items ≡ l.fn.pairs.items ++ map (λ j. (l.i, j)) (range_with_len (l.i + 1) (l.j - (l.i + 1)))
