use Rattle.std.proofs.Common.{◌≡◌, ◌<◌, ◌≤◌, ◌+◌, ◌++◌, ◌∷◌, [], refl, sym, ◌∙◌, ap, subst, arith, length, take}
use Rattle.std.proofs.lemmas.List.{take_all}
use Rattle.std.specs.Prelude.{slice_index_or}
use Rattle.lin_alg.specs.Rows.{vector, exact_rows}
use Rattle.mode_project.specs.Joined.{joined_rows_in}
use Rattle.mode_project.specs.Modes.{marked, IsKept, AreKept}
use Rattle.mode_project.proofs.JointLemmas.{exact-length, kept-more, range-row-wide, range-row, width-at}
use Rattle.mode_project.proofs.joint.with_range.Goals as goal

pub loop-k-init : goal.loop-k-init
loop-k-init g c = record { joined = c.requires.joined; width = refl; kept = refl }

pub with_row-requires-clause-width : goal.with_row-requires-clause-width
with_row-requires-clause-width g c =
    let rows = c.args.range.now.rows in
    let l : c.loop-k.k < length rows = omega (arith, c.loop-k-test.true, c.len-k-end.ensures) in
    ap length c.row.ensures ∙ width-at c.args.range.now.width rows c.loop-k.k l c.is_whole-whole.ensures.form.shape ∙ c.requires.width ∙ sym c.loop-k.invariant.width

pub loop-k-preserved : goal.loop-k-preserved
loop-k-preserved g c =
    let f = g.F.Field.field.laws in
    let value = g.F.Field.value in
    let rows = c.args.range.now.rows in
    let k = c.loop-k.k in
    let l : k < length rows = omega (arith, c.loop-k-test.true, c.len-k-end.ensures) in
    let ms = joined_rows_in f value c.args.joint.rows.items in
    let mid = joined_rows_in f value c.loop-k.held.rows.items in
    let next = joined_rows_in f value c.in-Ok.more.rows.items in
    let cs = marked c.args.j (take k (exact_rows f value rows)) in
    let v = vector f value (slice_index_or rows k (0, [])).1 in
    let e : marked c.args.j (take (k + 1) (exact_rows f value rows)) ≡ cs ++ (c.args.j, v) ∷ [] = range-row g.F.Field.field value c.args.j k rows l in
    let kept : IsKept f mid (c.args.j, v) next = subst (λ xs. IsKept f mid (c.args.j, vector f value xs) next) c.row.ensures c.in-Ok.ensures.kept in
    record {
      joined = c.in-Ok.ensures.joined;
      width = c.in-Ok.ensures.width ∙ c.loop-k.invariant.width;
      kept = subst (λ xs. AreKept f ms xs next) (sym e) (kept-more f ms cs mid next (c.args.j, v) c.loop-k.invariant.kept kept);
    }

pub returns-in-Err-clause-wide : goal.returns-in-Err-clause-wide
returns-in-Err-clause-wide g c h =
    let f = g.F.Field.field in
    let value = g.F.Field.value in
    let rows = c.args.range.now.rows in
    let k = c.loop-k.k in
    let l : k < length rows = omega (arith, c.loop-k-test.true, c.len-k-end.ensures) in
    range-row-wide f value c.args.j k rows l (joined_rows_in f.laws value c.args.joint.rows.items) c.loop-k.held.form c.loop-k.held.rows.items c.loop-k.invariant.joined c.loop-k.invariant.kept _ c.row.ensures (c.in-Err.ensures.wide h)

pub returns-clause-kept : goal.returns-clause-kept
returns-clause-kept g c =
    let f = g.F.Field.field.laws in
    let value = g.F.Field.value in
    let rows = c.args.range.now.rows in
    let n = exact-length f value rows in
    let ends : length (exact_rows f value rows) ≤ c.loop-k.k = omega (arith, n, c.loop-k-test.false, c.len-k-end.ensures) in
    subst (λ xs. AreKept f (joined_rows_in f value c.args.joint.rows.items) (marked c.args.j xs) (joined_rows_in f value c.loop-k.held.rows.items)) (take_all c.loop-k.k (exact_rows f value rows) ends) c.loop-k.invariant.kept

pub returns-clause-width : goal.returns-clause-width
returns-clause-width g c = c.loop-k.invariant.width
