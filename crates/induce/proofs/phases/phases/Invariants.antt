use Rattle.induce.specs.Tables.{ArePhases}
use Rattle.induce.proofs.phases.phases.Given as goal

abbrev pub invariant-loop-d : goal.invariant-loop-d
invariant-loop-d l = ArePhases l.quotient l.star l.phases.items l.d
