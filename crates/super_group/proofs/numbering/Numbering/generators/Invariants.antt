use Rattle.std.proofs.Common.{◌≡◌, map, take}
use Rattle.space_ops.specs.Op.{seitz_of}
use Rattle.super_group.specs.Quotient.{number_of}
use Rattle.super_group.proofs.numbering.Numbering.generators.Given as goal

abbrev pub invariant-loop-motion : goal.invariant-loop-motion
invariant-loop-motion l = l.numbers.items ≡ map (λ op. number_of l.self (seitz_of op)) (take l.motion-index l.motion-items)
