-- The lines of operations in a report.
--
-- listed_line op: the line of an operation
use Rattle.std.specs.Prelude.{ℕ, List, [], ◌++◌, codes}
use Rattle.space_ops.specs.declared.op.Op.{Op}
use Rattle.space_ops.specs.OpText.{text_of}
use Rattle.iso_text.specs.Lines.{line}

-- the line of an operation
abbrev pub listed_line : Op → List ℕ
listed_line op = line (codes "op " ++ text_of op) []
