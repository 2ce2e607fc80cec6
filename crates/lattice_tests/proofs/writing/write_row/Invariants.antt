use Rattle.std.proofs.Common.{◌≡◌, ◌<◌, ◌+◌, ℕ, get_or, pos}
use Rattle.cyclo24.specs.Numerals.{of_whole}
use Rattle.lin_alg.specs.Rows.{vector}
use Rattle.lattice_tests.proofs.writing.write_row.Given as goal

abbrev pub invariant-loop-j : goal.invariant-loop-j
invariant-loop-j g l = (k : ℕ) → k < l.j → vector g.F.Field.field.laws g.F.Field.value l.into k ≡ of_whole g.F.Field.field.laws (get_or l.entries (l.start + k) (pos 0))
