use Rattle.std.proofs.Common.{◌≡◌, length}
use Rattle.iso_text.specs.Lines.{without_trail}
use Rattle.iso_text.proofs.lines.without_trail.Given as goal

abbrev pub invariant-loop-rest : goal.invariant-loop-rest
invariant-loop-rest l = without_trail l.text ≡ without_trail l.rest

abbrev pub decreases-loop-rest : goal.decreases-loop-rest
decreases-loop-rest l = length l.rest
