use Rattle.std.proofs.Common.{◌≡◌, ◌≤◌, ◌+◌, ℕ, List, map, take, vec_len, vec_capacity}
use Rattle.lin_alg.specs.Rows.{HaveLength}
use Rattle.lin_alg.proofs.echelon.put_rows.Given as goal

abbrev pub invariant-loop-line : goal.invariant-loop-line
invariant-loop-line g l =
    record {
      room : vec_len l.lines + vec_len l.spare ≤ vec_capacity l.lines;
      less : vec_len l.spare + l.line-index ≡ vec_len l.fn.spare;
      long : HaveLength l.other.width (map (λ r. r.items) l.spare.items);
      rows : map {B = ℕ × List _} (λ r. (r.0, r.1.items)) l.lines.items ≡ take l.line-index l.other.rows;
    }
