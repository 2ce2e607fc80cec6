use Rattle.std.proofs.Common.{◌≡◌, ◌≤◌, ◌+◌, ℕ, map, vec_len, vec_capacity}
use Rattle.lin_alg.specs.Rows.{HaveLength, HaveWidth}
use Rattle.lin_alg.proofs.memory.free_lines.Given as goal

abbrev pub invariant-loop : goal.invariant-loop
invariant-loop g l =
    record {
      room : vec_len l.lines + vec_len l.spare ≤ vec_capacity l.lines;
      more : vec_len l.fn.spare ≤ vec_len l.spare;
      wide : (w : ℕ) → HaveWidth w (map (λ r. (r.0, r.1.items)) l.fn.lines.items) → HaveWidth w (map (λ r. (r.0, r.1.items)) l.lines.items);
      long : (w : ℕ) → HaveWidth w (map (λ r. (r.0, r.1.items)) l.fn.lines.items) → HaveLength w (map (λ r. r.items) l.fn.spare.items) → HaveLength w (map (λ r. r.items) l.spare.items);
    }
