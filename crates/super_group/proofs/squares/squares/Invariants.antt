use Rattle.super_group.specs.Squares.{AreSquares}
use Rattle.super_group.proofs.squares.squares.Given as goal

abbrev pub invariant-loop-q : goal.invariant-loop-q
invariant-loop-q l = AreSquares l.numbering l.squares.items l.q
