use Rattle.distort_match.proofs.UniqueLemmas.{match-unique, matched-once}
use Rattle.distort_match.proofs.laws.law_of_matches.Goals as goal

pub returns-clause-one : goal.returns-clause-one
returns-clause-one c m n t o i v w q small h k = match-unique m small q.supercell.positive n t o i v w h k

pub returns-clause-once : goal.returns-clause-once
returns-clause-once c m n t k u o i a h g = matched-once m a n t k u o i h g
