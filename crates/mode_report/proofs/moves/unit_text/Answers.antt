use Rattle.mode_report.proofs.EntryLemmas.{text-one, text-zero}
use Rattle.mode_report.proofs.moves.unit_text.Goals as goal

pub returns-then-place-axis : goal.returns-then-place-axis
returns-then-place-axis c = text-one c.args.axis c.args.place c.if-place-axis.true

pub returns-else-place-axis : goal.returns-else-place-axis
returns-else-place-axis c = text-zero c.args.axis c.args.place c.if-place-axis.false
