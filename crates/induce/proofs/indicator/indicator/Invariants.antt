use Rattle.std.proofs.Common.{◌≡◌}
use Rattle.cyclo24.specs.Z24.{exact_z24}
use Rattle.induce.specs.Induced.{squares_of}
use Rattle.induce.specs.Tables.{size_in, matrices_in}
use Rattle.induce.proofs.indicator.indicator.Given as goal

abbrev pub invariant-loop-q : goal.invariant-loop-q
invariant-loop-q l = exact_z24 l.sum ≡ squares_of l.quotient l.tables.star (size_in l.tables) (matrices_in l.tables) l.q
