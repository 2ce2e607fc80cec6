use Rattle.std.proofs.Common.{◌∙◌}
use Rattle.mode_report.proofs.ReportLemmas.{name-inside, name-past}
use Rattle.mode_report.proofs.mode_pieces.name_of.Goals as goal

pub returns-then-j-irreps : goal.returns-then-j-irreps
returns-then-j-irreps c = c.as_slice.ensures.value ∙ name-inside c.args.irreps.now c.args.j c.index-irreps-j.result c.if-j-irreps.true

pub returns-else-j-irreps : goal.returns-else-j-irreps
returns-else-j-irreps c = name-past c.args.irreps.now c.args.j c.if-j-irreps.false
