use Rattle.induce.specs.Tables.{AreMoves}
use Rattle.induce.proofs.moves.moves.Given as goal

abbrev pub invariant-loop-d : goal.invariant-loop-d
invariant-loop-d l = AreMoves l.quotient l.star l.moves.items l.d
