use Rattle.iso_text.proofs.LineLemmas.{lines_of-first}
use Rattle.iso_text.proofs.lines.first_line.Goals as goal

pub returns-clause-line : goal.returns-clause-line
returns-clause-line c = let first = lines_of-first c.args.bytes.now c.requires in cc
