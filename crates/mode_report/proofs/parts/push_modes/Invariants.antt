use Rattle.std.proofs.Common.{◌≡◌, ◌++◌, map}
use Rattle.std.specs.List.{range_with_len}
use Rattle.mode_report.specs.declared.parts.Part.TheVariants.{Mode}
use Rattle.mode_report.proofs.parts.push_modes.Given as goal

abbrev pub invariant-loop-m : goal.invariant-loop-m
invariant-loop-m l = l.parts.items ≡ l.fn.parts.items ++ map (λ m. Mode l.i m) (range_with_len 0 l.m)
