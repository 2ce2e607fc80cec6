use Rattle.std.proofs.Common.{◌≡◌, ◌<◌, length, sym, ◌∙◌, ap, arith, true}
use Rattle.lin_alg.specs.Reduced.{scaled}
use Rattle.lin_alg.specs.Rows.{vector}
use Rattle.cyclo24.specs.FieldLaws.{times-nought}
use Rattle.lin_alg.proofs.VectorLemmas.{vector-at, scaled-behind}
use Rattle.lin_alg.proofs.WriteLemmas.{IsWritten, written-set, written-kept, written-front}
use Rattle.lin_alg.proofs.elimination.scale.Goals as goal
use Rattle.lin_alg.proofs.elimination.scale.Goals.{then-not-is_zero+in_ok-row, else-not-is_zero}

pub loop-j-preserved : goal.loop-j-preserved
loop-j-preserved g c =
    let f = g.F.Field.field in
    let v = g.F.Field.value in
    let start = vector f.laws v c.args.row.now in
    let target = scaled f.laws c.args.p start in
    let row = c.loop-j.row in
    let j = c.loop-j.j in
    let t : IsWritten f v target start row j = c.loop-j.invariant in
    let kept = t.ahead j (omega arith) in
    let l : j < length row = omega arith in
    elim c.if-not-is_zero.branch [
      | then-not-is_zero+in_ok-row w ↦
          let at_row = vector-at f v row j w.index-row-j-then-not-is_zero.result l w.index-row-j-then-not-is_zero.is in
          let e : v w.in_ok-row.field-0 ≡ target j = cc (w.in_ok-row.ensures.exact, c.in_ok-u.ensures.exact, c.entry.ensures, at_row, kept) in
          rw w.row-is (written-set f v target start row j w.in_ok-row.field-0 l e t)
      | else-not-is_zero w ↦
          let at_row = vector-at f v row j c.index-row-j.result l c.index-row-j.is in
          let z : f.laws.is_nought (start j) ≡ true = cc (at_row, kept, c.is_zero.ensures, w.if-not-is_zero.false) in
          let n = f.laws.is_nought-true (start j) z in
          let e : start j ≡ target j = n ∙ sym (ap (f.laws.times (f.laws.inverse (start c.args.p))) n ∙ times-nought f.laws (f.laws.inverse (start c.args.p))) in
          rw w.row-is (written-kept f v target start row j e t)
    ]

pub returns-clause-exact : goal.returns-clause-exact
returns-clause-exact g c =
    let f = g.F.Field.field in
    let v = g.F.Field.value in
    let start = vector f.laws v c.args.row.now in
    written-front f v (scaled f.laws c.args.p start) start c.loop-j.row c.loop-j.j
    (λ k h.
    let behind : c.args.p < k = omega arith in
    let z : start k ≡ f.laws.nought = c.requires.last.1 k behind in
    z ∙ sym (scaled-behind f c.args.p start k z))
    c.loop-j.invariant
