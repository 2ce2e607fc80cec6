use Rattle.std.proofs.Common.{refl, arith}
use Rattle.lattice_tests.proofs.flips.flips_of_two.Goals as goal

pub invariant_of-result : goal.invariant_of-result
invariant_of-result c = record { small = omega arith; orders = refl }
