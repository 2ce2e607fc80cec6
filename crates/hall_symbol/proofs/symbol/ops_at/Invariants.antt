use Rattle.std.proofs.Common.{◌≡◌, ◌+◌, ◌≤◌, ◌++◌, length, map, take}
use Rattle.hall_symbol.specs.Operations.{op_at_origin, inversion_of}
use Rattle.hall_symbol.proofs.symbol.ops_at.Given as goal

abbrev pub invariant-generators : goal.invariant-generators
invariant-generators l = (l.ops.items ≡ map (op_at_origin l.origin) (inversion_of l.inverted ++ take l.generator-index l.generators))
    × (length l.ops.items ≤ 1 + l.generator-index)
