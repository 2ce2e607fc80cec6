use Rattle.std.proofs.Common.{◌≡◌, ◌<◌, ◌≤◌, ℕ, sym, subst, arith, length}
use Rattle.lin_alg.specs.Matrix.{entry, IsWideDot}
use Rattle.lin_alg.specs.Rows.{vector}
use Rattle.mode_project.specs.DirectionParts.{combined}
use Rattle.mode_project.specs.Parts.{rows_in, row_in}
use Rattle.mode_project.proofs.LeftCode.{combined-past}
use Rattle.mode_project.proofs.TermLemmas.{on-err}
use Rattle.mode_project.proofs.WriteLemmas.{written-start, written-set, written-all}
use Rattle.mode_project.proofs.combined.fill_combined.Goals as goal

pub loop-i-init : goal.loop-i-init
loop-i-init g c =
    let f = g.F.Field.field in
    let value = g.F.Field.value in
    written-start f value (combined f.laws (length c.args.rows.now) (entry f.laws value c.args.x.now) (row_in f.laws value (rows_in c.args.rows.now)) c.args.n) c.args.row.now

pub combined-requires-clause-long : goal.combined-requires-clause-long
combined-requires-clause-long g c k l = subst (λ (n : ℕ). c.loop-i.i < n) (sym (c.requires.long k l)) c.loop-i-test.true

pub loop-i-preserved : goal.loop-i-preserved
loop-i-preserved g c =
    let f = g.F.Field.field in
    let value = g.F.Field.value in
    let len : length c.loop-i.row ≡ length c.args.row.now = c.loop-i.auto.row in
    let l : c.loop-i.i < length c.loop-i.row = subst (λ (n : ℕ). c.loop-i.i < n) (sym len) c.loop-i-test.true in
    written-set f value (combined f.laws (length c.args.rows.now) (entry f.laws value c.args.x.now) (row_in f.laws value (rows_in c.args.rows.now)) c.args.n) (vector f.laws value c.args.row.now) c.loop-i.row c.loop-i.i c.in_ok-row.field-0 l
    c.in_ok-row.ensures.exact c.loop-i.invariant

pub returns-in_err-row-clause-wide : goal.returns-in_err-row-clause-wide
returns-in_err-row-clause-wide g c =
    let f = g.F.Field.field in
    let value = g.F.Field.value in
    on-err c.from_residual.result ((i : ℕ) × (i < length c.args.row.now) × IsWideDot f (length c.args.rows.now) (entry f.laws value c.args.x.now c.args.n) (λ k. row_in f.laws value (rows_in c.args.rows.now) k i))
    (c.loop-i.i, c.loop-i-test.true, c.in_err-row.ensures.wide)

pub returns-clause-exact : goal.returns-clause-exact
returns-clause-exact g c =
    let f = g.F.Field.field in
    let value = g.F.Field.value in
    let len : length c.loop-i.row ≡ length c.args.row.now = c.loop-i.auto.row in
    let past : length c.loop-i.row ≤ c.loop-i.i = omega (arith, len, c.loop-i-test.false) in
    written-all f value (combined f.laws (length c.args.rows.now) (entry f.laws value c.args.x.now) (row_in f.laws value (rows_in c.args.rows.now)) c.args.n) (vector f.laws value c.args.row.now) c.loop-i.row c.loop-i.i past
    (λ i h. combined-past f value (length c.args.row.now) (entry f.laws value c.args.x.now) (rows_in c.args.rows.now) (length c.args.rows.now) c.requires.long c.args.n i (subst (λ (n : ℕ). n ≤ i) len h)) c.loop-i.invariant
