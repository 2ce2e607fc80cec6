use Rattle.induce.specs.Tables.{AreCharacters}
use Rattle.induce.proofs.characters.characters.Given as goal

abbrev pub invariant-loop-q : goal.invariant-loop-q
invariant-loop-q l = AreCharacters l.quotient l.tables l.all.items l.q
