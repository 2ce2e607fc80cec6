use Rattle.std.proofs.Common.{◌≡◌, ◌≤◌, ℕ, map, vec_len}
use Rattle.lin_alg.specs.Rows.{HaveLength}
use Rattle.lin_alg.proofs.memory.add_spare.Given as goal

abbrev pub invariant-loop : goal.invariant-loop
invariant-loop g l =
    HaveLength l.width (map (λ r. r.items) l.spare.items) × (vec_len l.spare ≡ l.counter)
    × ((n : ℕ) → vec_len l.fn.spare ≤ n → l.rows ≤ n → vec_len l.spare ≤ n)
