use Rattle.std.proofs.Common.{◌≡◌, ℕ, ◌<◌, ◌%◌, slice_index_or}
use Rattle.super_group.specs.FirstAxes.{axis_at}
use Rattle.super_group.proofs.denominators.divide.Given as goal

abbrev pub invariant-loop-j : goal.invariant-loop-j
invariant-loop-j l = (j : ℕ) → j < l.j → axis_at l.firsts j ≡ l.first → l.m % slice_index_or l.den j 1 ≡ 0
