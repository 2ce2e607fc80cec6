use Rattle.small_rep.specs.Rep.{matrices_of}
use Rattle.induce.proofs.ProductLemmas.{IsFilled}
use Rattle.induce.proofs.products.phased_matrix.Given as goal

abbrev pub invariant-loop-e : goal.invariant-loop-e
invariant-loop-e l = IsFilled l.rep.rep.size (matrices_of l.rep.rep) l.power l.rotation l.matrix l.e
