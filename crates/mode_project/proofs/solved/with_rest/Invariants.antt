use Rattle.std.proofs.Common.{◌≡◌, ◌<◌, ◌+◌, ℕ, length, vec_len}
use Rattle.std.specs.List.{slice_index}
use Rattle.lin_alg.specs.Rows.{vector}
use Rattle.lin_alg.specs.Solving.{combination}
use Rattle.lin_alg.specs.Spans.{row_vectors}
use Rattle.mode_project.specs.Joined.{joined_rows_in}
use Rattle.mode_project.specs.Modes.{vector_at}
use Rattle.mode_project.proofs.solved.with_rest.Given as goal

abbrev pub invariant-loop-k : goal.invariant-loop-k
invariant-loop-k g l =
    let f = g.F.Field.field.laws in
    let v = g.F.Field.value in
    record {
      len : vec_len l.all ≡ length l.rows + l.k;
      front : (m : ℕ) → m < length l.rows → vector f v l.all.items m ≡ vector f v l.x m;
      behind : (k : ℕ) → k < l.k → vector f v l.all.items (length l.rows + k)
          ≡ f.plus (vector f v l.target (slice_index l.sites k)) (f.neg (combination f (length l.rows) (vector f v l.x) (vector_at f (row_vectors (joined_rows_in f v l.rows))) (slice_index l.sites k)));
    }
