use Rattle.std.proofs.Common.{arith}
use Rattle.list_report.proofs.ChoiceLemmas.{place-first}
use Rattle.list_report.proofs.choice.place_of.Goals as goal

pub returns-then-irreps-gt0 : goal.returns-then-irreps-gt0
returns-then-irreps-gt0 c = place-first c.args.wanted.now c.args.irreps.now c.in-None.is (omega arith)
