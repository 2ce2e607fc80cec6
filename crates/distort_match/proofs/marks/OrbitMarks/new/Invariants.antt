use Rattle.std.proofs.Common.{◌≡◌, ℕ, length, None, get_or}
use Rattle.distort_match.proofs.marks.OrbitMarks.new.Given as goal

abbrev pub invariant-loop : goal.invariant-loop
invariant-loop l = (length l.marks.items ≡ l.counter) × ((i : ℕ) → get_or l.marks.items i None ≡ None)
