use Rattle.std.proofs.Common.{◌≡◌, ◌+◌, ℕ, arith, length}
use Rattle.std.specs.List.{slice_index}
use Rattle.lin_alg.specs.Rows.{vector}
use Rattle.lin_alg.specs.Solving.{combination}
use Rattle.lin_alg.specs.Spans.{row_vectors}
use Rattle.mode_project.specs.Joined.{joined_rows_in}
use Rattle.mode_project.specs.Modes.{vector_at}
use Rattle.mode_project.proofs.SolvedLemmas.{rest-next}
use Rattle.mode_project.proofs.solved.with_rest.Goals as goal

pub loop-k-preserved : goal.loop-k-preserved
loop-k-preserved g c =
    let f = g.F.Field.field in
    let value = g.F.Field.value in
    let r = length c.args.rows.now in
    let k = c.loop-k.k in
    let x = vector f.laws value c.args.x.now in
    let t = (λ (j : ℕ). f.laws.plus (vector f.laws value c.args.target.now (slice_index c.args.sites.now j)) (f.laws.neg (combination f.laws r x (vector_at f.laws (row_vectors (joined_rows_in f.laws value c.args.rows.now))) (slice_index c.args.sites.now j)))) in
    let len : length c.loop-k.all.items ≡ r + k = omega (arith, c.loop-k.invariant.len, c.loop-k.all.ok.0) in
    let both = rest-next f value c.loop-k.all.items c.push.new.self.items c.in-Ok-rest_at.rest r k x t c.in-Ok-push.ensures.items len c.in-Ok-rest_at.ensures.exact c.loop-k.invariant.front c.loop-k.invariant.behind in
    record {
      len = omega (arith, c.loop-k.invariant.len, c.in-Ok-push.ensures.len);
      front = both.0;
      behind = both.1;
    }
