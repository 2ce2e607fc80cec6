use Rattle.std.proofs.Common.{◌≡◌, ℕ, List, map, take}
use Rattle.lin_alg.proofs.memory.copy_lines.Given as goal

abbrev pub invariant-loop-line : goal.invariant-loop-line
invariant-loop-line g l = map {B = ℕ × List _} (λ r. (r.0, r.1.items)) l.copies.items ≡ take l.line-index (map (λ r. (r.0, r.1.items)) l.lines)
