use Rattle.std.proofs.Common.{◌≡◌, ◌<◌, arith, ap, ◌∙◌, length, true}
use Rattle.lin_alg.specs.Spans.{less}
use Rattle.lin_alg.specs.Rows.{vector}
use Rattle.lin_alg.proofs.VectorLemmas.{vector-at, IsTaken, taken-written, taken-kept, taken-all}
use Rattle.lin_alg.proofs.elimination.take_multiple.Goals as goal
use Rattle.lin_alg.proofs.elimination.take_multiple.Goals.{then-not-is_zero+in_ok-product+in_ok-row, else-not-is_zero}

pub loop-j-preserved : goal.loop-j-preserved
loop-j-preserved g c =
    let f = g.F.Field.field in
    let v = g.F.Field.value in
    let row = c.loop-j.row in
    let j = c.loop-j.j in
    let start = vector f.laws v c.args.row.now in
    let b = vector f.laws v c.args.b.now in
    let k = v c.entry-c.result in
    let t : IsTaken f v start k b row j = c.loop-j.invariant in
    let j_row : j < length row = omega arith in
    elim c.if-not-is_zero.branch [
      | then-not-is_zero+in_ok-product+in_ok-row w ↦
          let at_row = vector-at f v row j w.index-row-j.result j_row w.index-row-j.is in
          let kept = t.ahead j (omega arith) in
          let at_b = vector-at f v c.args.b.now j w.index-b-j-then-not-is_zero.result c.loop-j-test.true w.index-b-j-then-not-is_zero.is in
          let e : v w.in_ok-row.field-0 ≡ less f.laws start k b j =
          cc (w.in_ok-row.ensures.exact, w.in_ok-product.ensures.exact, at_row, kept, at_b) in
          rw w.row-is (taken-written f v start k b row j w.in_ok-row.field-0 j_row e t)
      | else-not-is_zero w ↦
          let at_b = vector-at f v c.args.b.now j c.index-b-j.result c.loop-j-test.true c.index-b-j.is in
          let z : f.laws.is_nought (b j) ≡ true = cc (at_b, c.is_zero.ensures, w.if-not-is_zero.false) in
          rw w.row-is (taken-kept f v start k b row j z t)
    ]

pub returns-clause-exact : goal.returns-clause-exact
returns-clause-exact g c =
    let f = g.F.Field.field in
    let v = g.F.Field.value in
    let start = vector f.laws v c.args.row.now in
    taken-all f v start (v c.entry-c.result) c.args.b.now c.loop-j.row c.loop-j.j c.loop-j-test.false c.loop-j.invariant
    ∙ ap (λ k. less f.laws start k (vector f.laws v c.args.b.now)) c.entry-c.ensures
