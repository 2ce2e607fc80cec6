use Rattle.lin_alg.specs.Reduced.{reduce}
use Rattle.lin_alg.specs.Rows.{vector, exact_rows}
use Rattle.lin_alg.specs.Insertion.{IsWideClear, IsWideInsert}
use Rattle.lin_alg.proofs.HeldLemmas.{wide_insert}
use Rattle.std.proofs.Common.{◌≡◌, ◌<◌, ℕ, length, map, List, refl, sym, ◌∙◌, ap, rules}
use Rattle.lin_alg.proofs.PutLemmas.{wide-put}
use Rattle.lin_alg.proofs.VectorLemmas.{scaled-behind}
use Rattle.lin_alg.proofs.elimination.insert_row.Goals as goal

pub clear_lines-requires-clause-ended : goal.clear_lines-requires-clause-ended
clear_lines-requires-clause-ended g c j l =
    let f = g.F.Field.field in
    let v = g.F.Field.value in
    ap (λ z. z j) c.in_ok-scale-in-Some.ensures.exact ∙ scaled-behind f c.in-Some.p (vector f.laws v c.reduce_row.new.row) j (c.in-Some.ensures.1.1 j l)

pub returns-in_ok-clear_lines-in-Some-clause-shape : goal.returns-in_ok-clear_lines-in-Some-clause-shape
returns-in_ok-clear_lines-in-Some-clause-shape g c =
    let n : length c.scale.new.row ≡ length c.args.row.now = c.scale.auto.row ∙ c.reduce_row.auto.row in
    let l : c.in-Some.p < length c.scale.new.row = rw c.scale.auto.row c.in-Some.ensures.0 in
    wide-put (length c.scale.new.row) (length c.args.row.now) _ c.args.lines.now c.clear_lines.new.lines c.place_of-at.result c.in-Some.p c.scale.new.row
    (c.clear_lines.auto.lines ∙ ap length c.deref_mut.ensures.value ∙ sym c.args.lines.now.ok.0) c.put_line.ensures.put c.in_ok-clear_lines-in-Some.ensures.shape l refl n

pub returns-in_err-clear_lines-in-Some-clause-wide : goal.returns-in_err-clear_lines-in-Some-clause-wide
returns-in_err-clear_lines-in-Some-clause-wide g c =
    let f = g.F.Field.field in
    let v = g.F.Field.value in
    let old : List (ℕ × List _) = map (λ r. (r.0, r.1.items)) c.args.lines.now.items in
    let e : vector f.laws v c.reduce_row.new.row ≡ reduce f.laws (exact_rows f.laws v old) (vector f.laws v c.args.row.now) = rw (c.deref.ensures.value) at c.in_ok-reduce_row.ensures.exact in
    let h : IsWideClear f c.in-Some.p (vector f.laws v c.scale.new.row) (exact_rows f.laws v old) = rw (c.deref_mut.ensures.value) at c.in_err-clear_lines-in-Some.ensures.wide in
    let w : IsWideInsert f (exact_rows f.laws v old) (vector f.laws v c.args.row.now) =
    wide_insert f (exact_rows f.laws v old) (vector f.laws v c.args.row.now) (vector f.laws v c.reduce_row.new.row) (vector f.laws v c.scale.new.row) c.in-Some.p e c.in_ok-scale-in-Some.ensures.exact c.in-Some.ensures.1 h in
    search rules
