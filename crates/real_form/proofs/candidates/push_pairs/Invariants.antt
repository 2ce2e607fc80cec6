use Rattle.itertools.specs.Pool.{combination_left}
use Rattle.real_form.proofs.CombinationLemmas.{ArePairsLeft}
use Rattle.real_form.proofs.candidates.push_pairs.Given as goal

abbrev pub invariant-loop-pair : goal.invariant-loop-pair
invariant-loop-pair l = ArePairsLeft l.n l.fn.all.items l.all.items l.pair-iterator.combinations.pool.items (combination_left l.pair-iterator.combinations)
