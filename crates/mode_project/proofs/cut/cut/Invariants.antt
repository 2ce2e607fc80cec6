use Rattle.std.proofs.Common.{◌≡◌, ◌<◌, ℕ, vec_len}
use Rattle.std.specs.List.{slice_index}
use Rattle.lin_alg.specs.Rows.{vector}
use Rattle.mode_project.proofs.cut.cut.Given as goal

abbrev pub invariant-loop-k : goal.invariant-loop-k
invariant-loop-k g l =
    let f = g.F.Field.field.laws in
    let v = g.F.Field.value in
    record {
      len : vec_len l.entries ≡ l.k;
      done : (k : ℕ) → k < l.k → vector f v l.entries.items k ≡ vector f v l.row (slice_index l.columns k);
    }
