use Rattle.iso_text.specs.Lines.{lines_of}
use Rattle.iso_text.proofs.FilesUnique.{read_only}
use Rattle.iso_text.proofs.RangeLemmas.{read-in_range}
use Rattle.iso_text.proofs.document.Document.read.Goals as goal

pub returns-clause-ranges : goal.returns-clause-ranges
returns-clause-ranges c = read-in_range (lines_of c.args.bytes.now) c.read_lines.result c.read_lines.ensures.file

pub returns-clause-only : goal.returns-clause-only
returns-clause-only c = read_only (lines_of c.args.bytes.now) c.read_lines.result c.read_lines.ensures.file c.read_lines.ensures.cause
