use Rattle.space_ops.specs.LetterLaws.{letter-back, lattice-letter}
use Rattle.space_ops.proofs.lattice.law_of_letters.Goals as goal

pub returns-clause-back : goal.returns-clause-back
returns-clause-back c = letter-back

pub returns-clause-only : goal.returns-clause-only
returns-clause-only c = lattice-letter
