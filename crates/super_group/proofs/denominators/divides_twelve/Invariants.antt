use Rattle.std.proofs.Common.{◌≡◌, ℕ, ◌<◌, ◌%◌, slice_index_or}
use Rattle.super_group.proofs.denominators.divides_twelve.Given as goal

abbrev pub invariant-loop-j : goal.invariant-loop-j
invariant-loop-j l = (j : ℕ) → j < l.j → (0 < slice_index_or l.den j 1) × (12 % slice_index_or l.den j 1 ≡ 0)
