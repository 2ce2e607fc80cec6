use Rattle.std.proofs.Common.{◌≡◌, ◌+◌, ◌*◌}
use Rattle.cyclo24.specs.ExactZ24.{z24_laws}
use Rattle.cyclo24.specs.Sums.{total}
use Rattle.cyclo24.specs.Z24.{exact_z24}
use Rattle.induce.specs.Tables.{size_in, matrix_in}
use Rattle.induce.proofs.characters.with_block.Given as goal

abbrev pub invariant-loop-x : goal.invariant-loop-x
invariant-loop-x l = exact_z24 l.sum ≡ total z24_laws (l.i * size_in l.tables + l.x) (λ a. matrix_in l.quotient l.tables l.q a a)
