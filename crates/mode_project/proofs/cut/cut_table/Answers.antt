use Rattle.std.proofs.Common.{◌≡◌, ◌<◌, ℕ, sym, ◌∙◌, ap, subst, arith, below_more}
use Rattle.std.specs.Prelude.{slice_index}
use Rattle.lin_alg.specs.Matrix.{entry}
use Rattle.lin_alg.specs.Rows.{vector}
use Rattle.mode_project.specs.Amplitudes.{cut_to, cut_row}
use Rattle.mode_project.specs.Joined.{joined_rows_in}
use Rattle.mode_project.proofs.SolvedLemmas.{line-long, line-vector}
use Rattle.mode_project.proofs.cut.cut_table.Goals as goal

pub cut-requires : goal.cut-requires
cut-requires g c k l =
    let long = line-long g.F.Field.field g.F.Field.value c.args.rows.now c.loop-i.i c.loop-i-test.true c.line.result.now c.line.ensures c.requires.inside.0 c.requires.inside.1 in
    subst (λ (n : ℕ). slice_index c.args.columns.now k < n) (sym long) (c.requires.inside.2 k l)

pub loop-i-preserved : goal.loop-i-preserved
loop-i-preserved g c =
    let f = g.F.Field.field in
    let value = g.F.Field.value in
    let i = c.loop-i.i in
    let new = c.put_row.new.table in
    let ms = joined_rows_in f.laws value c.args.rows.now in
    let row = line-vector f value c.args.rows.now i c.loop-i-test.true c.line.result.now c.line.ensures in
    let here : entry f.laws value new i ≡ vector f.laws value c.in-Ok.entries.items = c.put_row.ensures.here ∙ ap (λ xs. vector f.laws value xs) c.deref.ensures.value in
    record {
      rows = c.put_row.ensures.rows ∙ c.loop-i.invariant.rows;
      cols = c.put_row.ensures.cols ∙ c.loop-i.invariant.cols;
      done = below_more (λ k. entry f.laws value new k ≡ cut_row f.laws c.args.columns.now ms k) i
          (λ k m. let n : k ≡ i → ⊥ = λ e. absurd (omega (arith, e, m)) in c.put_row.ensures.others k n ∙ c.loop-i.invariant.done k m)
          (here ∙ c.in-Ok.ensures.entries ∙ ap (λ (v : ℕ → _). cut_to f.laws c.args.columns.now v) row);
    }
