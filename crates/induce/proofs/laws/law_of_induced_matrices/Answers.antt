use Rattle.induce.specs.InducedLaws.{induced-multiplies, induced-identity, character-class, weight-class}
use Rattle.induce.proofs.laws.law_of_induced_matrices.Goals as goal

pub returns-clause-product : goal.returns-clause-product
returns-clause-product c q s n m h = induced-multiplies q h.on.quotient s.row s h.on.star h.on.phases h.on.cells n m h.small

pub returns-clause-identity : goal.returns-clause-identity
returns-clause-identity c q s n m h = induced-identity q h.on.quotient s.row s h.on.star h.on.phases h.on.cells n m h.small

pub returns-clause-character : goal.returns-clause-character
returns-clause-character c q s n m h = character-class q h.on.quotient s.row s h.on.star h.on.phases h.on.cells n m h.small

pub returns-clause-weight : goal.returns-clause-weight
returns-clause-weight c q s n m h = weight-class q h.on.quotient s.row s h.on.star h.on.phases h.on.cells n m h.small
