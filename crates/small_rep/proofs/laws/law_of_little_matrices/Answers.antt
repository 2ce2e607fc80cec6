use Rattle.small_rep.specs.LittleMatrixLaws.{little_matrices-multiply, little_matrix-identity, little_matrix-same, listed-contains, contains-listed}
use Rattle.small_rep.proofs.laws.law_of_little_matrices.Goals as goal

pub returns-clause-product : goal.returns-clause-product
returns-clause-product c p h k s star phases n m rep g g' = little_matrices-multiply p h k s star phases n m rep g g'

pub returns-clause-identity : goal.returns-clause-identity
returns-clause-identity c p h k s star n m rep = little_matrix-identity p h k s star n m rep

pub returns-clause-same : goal.returns-clause-same
returns-clause-same c p s m g g' = little_matrix-same p s m g g'

pub returns-clause-listed : goal.returns-clause-listed
returns-clause-listed c = listed-contains

pub returns-clause-contained : goal.returns-clause-contained
returns-clause-contained c = contains-listed
