use Rattle.std.proofs.Common.{◌≡◌, ℕ, ◌<◌, ℤ, pos, ◌*ℤ◌}
use Rattle.kstar.proofs.fraction.lowest.Given as goal

abbrev pub invariant-loop-den : goal.invariant-loop-den
invariant-loop-den l = (m : ℕ) → 0 < m → m < l.den → (x : ℤ) → x *ℤ pos l.d ≡ l.n *ℤ pos m → ⊥
