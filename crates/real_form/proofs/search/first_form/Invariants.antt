use Rattle.std.proofs.Common.{map, take}
use Rattle.super_group.specs.Quotient.{order_of}
use Rattle.induce.specs.Tables.{dimension_in, matrix_in}
use Rattle.real_form.specs.Orbits.{NoneOf}
use Rattle.real_form.specs.RealBasis.{FitsNot}
use Rattle.real_form.specs.Candidates.{candidate_vector}
use Rattle.real_form.proofs.search.first_form.Given as goal

abbrev pub invariant-loop-k : goal.invariant-loop-k
invariant-loop-k l = NoneOf (FitsNot (dimension_in l.induced.tables) (order_of l.quotient) (matrix_in l.quotient l.induced.tables)) (map (candidate_vector (dimension_in l.induced.tables)) (take l.k l.candidates))
