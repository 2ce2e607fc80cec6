use Rattle.std.proofs.Common.{◌≡◌, ◌<◌, sym, ◌∙◌, arith, length}
use Rattle.lin_alg.specs.Rows.{vector}
use Rattle.class_list.proofs.RowLemmas.{vector-at, written-set}
use Rattle.class_list.proofs.image.add_multiple.Goals as goal

pub loop-j-preserved : goal.loop-j-preserved
loop-j-preserved g c =
    let f = g.F.Field.field in
    let v = g.F.Field.value in
    let row = c.loop-j.row in
    let j = c.loop-j.j in
    let start = vector f.laws v c.args.row.now in
    let b = vector f.laws v c.args.b.now in
    let t = c.loop-j.invariant in
    let j_row : j < length row = omega arith in
    let at_row = vector-at f v row j c.index-row-j.result j_row c.index-row-j.is in
    let kept = t.ahead j (omega arith) in
    let at_b = vector-at f v c.args.b.now j c.index-b-j.result c.loop-j-test.true c.index-b-j.is in
    let e : v c.in_ok-row.field-0 ≡ f.laws.plus (start j) (f.laws.times (v c.args.c) (b j)) =
    c.in_ok-row.ensures.exact ∙ (λ i. f.laws.plus ((sym at_row ∙ kept) i) (f.laws.times (v c.args.c) (sym at_b i))) in
    written-set f v (λ k. f.laws.plus (start k) (f.laws.times (v c.args.c) (b k))) start row j c.in_ok-row.field-0 j_row e t
