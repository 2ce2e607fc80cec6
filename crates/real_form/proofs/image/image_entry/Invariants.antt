use Rattle.std.proofs.Common.{◌≡◌}
use Rattle.cyclo24.specs.Z24.{exact_z24}
use Rattle.cyclo24.specs.ExactZ24.{z24_laws}
use Rattle.cyclo24.specs.Sums.{total}
use Rattle.lin_alg.specs.Rows.{vector}
use Rattle.induce.specs.Tables.{matrix_in}
use Rattle.real_form.proofs.image.image_entry.Given as goal

abbrev pub invariant-loop-j : goal.invariant-loop-j
invariant-loop-j l = exact_z24 l.sum ≡ total z24_laws l.j (λ k. z24_laws.times (matrix_in l.quotient l.induced.tables l.q l.i k) (vector z24_laws exact_z24 l.w k))
