use Rattle.std.proofs.Common.{◌≡◌, map, take}
use Rattle.extra_modes.proofs.amount_lines.amount_lines.Given as goal

abbrev pub invariant-loop-n : goal.invariant-loop-n
invariant-loop-n g l = l.lines.items ≡ map g.T.AmountText.line_of (take l.n l.texts)
