use Rattle.small_rep.specs.Rep.{matrices_of}
use Rattle.induce.specs.Tables.{AreProducts}
use Rattle.induce.proofs.products.products.Given as goal

abbrev pub invariant-loop-d : goal.invariant-loop-d
invariant-loop-d l = AreProducts l.quotient l.star l.rep.rep.size (matrices_of l.rep.rep) l.matrices.items l.d
