use Rattle.std.proofs.Common.{◌≡◌, map, take}
use Rattle.report_steps.specs.Generators.{operation_of}
use Rattle.report_steps.proofs.generators.operations_of.Given as goal

abbrev pub invariant-loop-line : goal.invariant-loop-line
invariant-loop-line l = l.operations.items ≡ map operation_of (take l.line-index l.lines)
