use Rattle.std.proofs.Common.{◌≡◌}
use Rattle.cyclo24.specs.Z24.{exact_z24}
use Rattle.small_rep.specs.SmallRep.{norms_of}
use Rattle.small_rep.specs.Rep.{matrices_of}
use Rattle.small_rep.proofs.characters.sum_of_norms.Given as goal

abbrev pub invariant-loop-k : goal.invariant-loop-k
invariant-loop-k l = exact_z24 l.sum ≡ norms_of l.rep.little l.rep.size (matrices_of l.rep) l.k
