use Rattle.std.proofs.Common.{◌≡◌, ◌<◌, ℕ}
use Rattle.lin_alg.specs.Rows.{vector}
use Rattle.lattice_tests.specs.Flips.{flip_entry}
use Rattle.lattice_tests.proofs.flips.write_signs.Given as goal

abbrev pub invariant-loop-j : goal.invariant-loop-j
invariant-loop-j g l = (k : ℕ) → k < l.j → vector g.F.Field.field.laws g.F.Field.value l.into k ≡ flip_entry g.F.Field.field l.q l.i k
