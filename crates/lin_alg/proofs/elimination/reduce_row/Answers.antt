use Rattle.std.proofs.Common.{◌≡◌, ℕ, ◌<◌, ◌≤◌, ◌+◌, ◌∙◌, ap, subst, rules, arith, length, take, length-take, false, true, map, get_or, List}
use Rattle.std.proofs.lemmas.List.{length-map}
use Rattle.lin_alg.specs.Spans.{less}
use Rattle.lin_alg.specs.Rows.{vector, exact_rows}
use Rattle.lin_alg.specs.Insertion.{IsWideLess, IsWideReduce}
use Rattle.lin_alg.proofs.VectorLemmas.{vector-front}
use Rattle.lin_alg.proofs.RowLemmas.{item-at, wide-at, ended-at, reducing-step, reducing-kept, reducing-wide, reducing-all}
use Rattle.lin_alg.proofs.elimination.reduce_row.Goals as goal
use Rattle.lin_alg.proofs.elimination.reduce_row.Goals.{then-not-is_zero+in_ok-take_multiple, else-not-is_zero, After-line-item}

pub entry-requires : goal.entry-requires
entry-requires g c =
    let x : ℕ × List _ = (c.line-item.result.0, c.line-item.result.1.items) in
    let l : c.loop-line.line-index < length (map (λ r. (r.0, r.1.items)) c.args.lines.now) = rw length-map c.loop-line-test.true in
    let k : (c.line-item.result.0 < length c.args.row.now) × (length c.line-item.result.1.items ≡ length c.args.row.now) =
    wide-at (length c.args.row.now) (map (λ r. (r.0, r.1.items)) c.args.lines.now) c.loop-line.line-index x c.requires.shape l
    (item-at (λ r. (r.0, r.1.items)) c.args.lines.now c.loop-line.line-index c.line-item.result c.loop-line-test.true c.line-item.is) in
    let k0 : c.line-item.result.0 < length c.args.row.now = k.0 in
    let r : length c.loop-line.row ≡ length c.args.row.now = c.loop-line.auto.row in
    rw r k0

pub slice_bounds-take_multiple-end : goal.slice_bounds-take_multiple-end
slice_bounds-take_multiple-end g c =
    let x : ℕ × List _ = (c.line-item.result.0, c.line-item.result.1.items) in
    let l : c.loop-line.line-index < length (map (λ r. (r.0, r.1.items)) c.args.lines.now) = rw length-map c.loop-line-test.true in
    let k : (c.line-item.result.0 < length c.args.row.now) × (length c.line-item.result.1.items ≡ length c.args.row.now) =
    wide-at (length c.args.row.now) (map (λ r. (r.0, r.1.items)) c.args.lines.now) c.loop-line.line-index x c.requires.shape l
    (item-at (λ r. (r.0, r.1.items)) c.args.lines.now c.loop-line.line-index c.line-item.result c.loop-line-test.true c.line-item.is) in
    let k0 : c.line-item.result.0 < length c.args.row.now = k.0 in
    let k1 : length c.line-item.result.1.items ≡ length c.args.row.now = k.1 in
    rw (c.deref.ensures.value, length-take) (omega arith)

pub take_multiple-requires : goal.take_multiple-requires
take_multiple-requires g c =
    let x : ℕ × List _ = (c.line-item.result.0, c.line-item.result.1.items) in
    let l : c.loop-line.line-index < length (map (λ r. (r.0, r.1.items)) c.args.lines.now) = rw length-map c.loop-line-test.true in
    let k : (c.line-item.result.0 < length c.args.row.now) × (length c.line-item.result.1.items ≡ length c.args.row.now) =
    wide-at (length c.args.row.now) (map (λ r. (r.0, r.1.items)) c.args.lines.now) c.loop-line.line-index x c.requires.shape l
    (item-at (λ r. (r.0, r.1.items)) c.args.lines.now c.loop-line.line-index c.line-item.result c.loop-line-test.true c.line-item.is) in
    let k1 : length c.line-item.result.1.items ≡ length c.args.row.now = k.1 in
    let same : length c.loop-line.row ≡ length c.args.row.now = c.loop-line.auto.row in
    rw (c.deref.ensures.value, length-take) (omega arith)

pub returns-in_err-take_multiple-clause-wide : goal.returns-in_err-take_multiple-clause-wide
returns-in_err-take_multiple-clause-wide g c =
    let f = g.F.Field.field in
    let v = g.F.Field.value in
    let all : List (ℕ × List _) = map (λ r. (r.0, r.1.items)) c.args.lines.now in
    let start = vector f.laws v c.args.row.now in
    let row = vector f.laws v c.loop-line.row in
    let x : ℕ × List _ = (c.line-item.result.0, c.line-item.result.1.items) in
    let l : c.loop-line.line-index < length all = rw length-map c.loop-line-test.true in
    let e : x ≡ get_or all c.loop-line.line-index x =
    item-at (λ r. (r.0, r.1.items)) c.args.lines.now c.loop-line.line-index c.line-item.result c.loop-line-test.true c.line-item.is in
    let front : vector f.laws v (take (x.0 + 1) x.1) ≡ vector f.laws v x.1 = vector-front f v x.0 x.1 (ended-at f v all c.loop-line.line-index x c.requires.ended l e) in
    let taken : IsWideLess f row (row x.0) (vector f.laws v (take (x.0 + 1) x.1)) =
    rw c.deref.ensures.value at c.in_err-take_multiple.ensures.wide in
    let h : IsWideLess f row (row x.0) (vector f.laws v x.1) = subst (λ (b : ℕ → _). IsWideLess f row (row x.0) b) front taken in
    let z : f.laws.is_nought (row x.0) ≡ false = cc (c.entry.ensures, c.is_zero.ensures, c.if-not-is_zero.true) in
    let w : IsWideReduce f (exact_rows f.laws v all) start = reducing-wide f v all start c.loop-line.line-index row x l e c.loop-line.invariant z h in
    search rules

pub loop-line-preserved : goal.loop-line-preserved
loop-line-preserved g c =
    let f = g.F.Field.field in
    let v = g.F.Field.value in
    let all : List (ℕ × List _) = map (λ r. (r.0, r.1.items)) c.args.lines.now in
    let start = vector f.laws v c.args.row.now in
    let row = vector f.laws v c.loop-line.row in
    let x : ℕ × List _ = (c.line-item.result.0, c.line-item.result.1.items) in
    let l : c.loop-line.line-index < length all = rw length-map c.loop-line-test.true in
    let e : x ≡ get_or all c.loop-line.line-index x =
    item-at (λ r. (r.0, r.1.items)) c.args.lines.now c.loop-line.line-index c.line-item.result c.loop-line-test.true c.line-item.is in
    let front : vector f.laws v (take (x.0 + 1) x.1) ≡ vector f.laws v x.1 = vector-front f v x.0 x.1 (ended-at f v all c.loop-line.line-index x c.requires.ended l e) in
    elim c.if-not-is_zero.branch [
      | then-not-is_zero+in_ok-take_multiple w ↦
          let taken : vector f.laws v w.take_multiple.new.row ≡ less f.laws row (row x.0) (vector f.laws v (take (x.0 + 1) x.1)) =
          rw w.deref.ensures.value at w.in_ok-take_multiple.ensures.exact in
          let h : vector f.laws v c.if-not-is_zero.row ≡ less f.laws row (row x.0) (vector f.laws v x.1) =
          ap (vector f.laws v) w.row-is ∙ taken ∙ ap (less f.laws row (row x.0)) front in
          rw h (reducing-step f v all start c.loop-line.line-index row x l e c.loop-line.invariant)
      | else-not-is_zero w ↦
          let z : f.laws.is_nought (row x.0) ≡ true = cc (c.entry.ensures, c.is_zero.ensures, w.if-not-is_zero.false) in
          rw w.row-is (reducing-kept f v all start c.loop-line.line-index row x l e z c.loop-line.invariant)
    ]

pub returns-clause-exact : goal.returns-clause-exact
returns-clause-exact g c =
    let f = g.F.Field.field in
    let v = g.F.Field.value in
    let l : length (map (λ r. (r.0, r.1.items)) c.args.lines.now) ≤ c.loop-line.line-index = rw length-map c.loop-line-test.false in
    reducing-all f v _ (vector f.laws v c.args.row.now) c.loop-line.line-index (vector f.laws v c.loop-line.row) l c.loop-line.invariant
