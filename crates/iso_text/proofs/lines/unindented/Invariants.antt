use Rattle.std.proofs.Common.{◌≡◌, ◌≤◌, length}
use Rattle.iso_text.specs.Lines.{unindented}
use Rattle.iso_text.proofs.lines.unindented.Given as goal

abbrev pub invariant-loop-rest : goal.invariant-loop-rest
invariant-loop-rest l = (unindented l.text ≡ unindented l.rest) × (length l.rest ≤ length l.text)

abbrev pub decreases-loop-rest : goal.decreases-loop-rest
decreases-loop-rest l = length l.rest
