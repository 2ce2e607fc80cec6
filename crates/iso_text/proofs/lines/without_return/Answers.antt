use Rattle.std.proofs.Common.{arith, ◌-◌, length, rules}
use Rattle.iso_text.proofs.LineLemmas.{ends_in_return, ends_otherwise}
use Rattle.iso_text.proofs.lines.without_return.Goals as goal

pub returns-then-last-eq13 : goal.returns-then-last-eq13
returns-then-last-eq13 c = ends_in_return c.args.line.now (length c.args.line.now - 1) (omega arith) (search rules)

pub returns-else-last-eq13 : goal.returns-else-last-eq13
returns-else-last-eq13 c = ends_otherwise c.args.line.now (length c.args.line.now - 1) (omega arith) (search rules)
