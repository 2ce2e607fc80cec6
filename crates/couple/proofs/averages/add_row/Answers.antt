use Rattle.std.proofs.Common.{◌≡◌, ◌<◌, ℕ, true, sym, ◌∙◌, arith, length}
use Rattle.lin_alg.specs.Rows.{vector}
use Rattle.lin_alg.specs.Matrix.{entry}
use Rattle.couple.proofs.PartLemmas.{row-next, row-same}
use Rattle.couple.proofs.VectorLemmas.{vector-at}
use Rattle.couple.proofs.averages.add_row.Goals as goal

pub returns-then-is_zero-clause-exact : goal.returns-then-is_zero-clause-exact
returns-then-is_zero-clause-exact g c =
    let f = g.F.Field.field in
    let v = g.F.Field.value in
    let z : f.laws.is_nought (v c.args.x) ≡ true = sym c.is_zero.ensures ∙ c.if-is_zero.true in
    row-same f.laws c.args.a (v c.args.x) (vector f.laws v c.args.row.now) c.args.sums.now.cols (entry f.laws v c.args.sums.now) z

pub loop-l-preserved : goal.loop-l-preserved
loop-l-preserved g c =
    let f = g.F.Field.field in
    let v = g.F.Field.value in
    let l = c.loop-l.l in
    let lt : l < length c.args.row.now = omega arith in
    let now : ℕ → ℕ → _ = entry f.laws v c.loop-l.sums in
    let y : ℕ → _ = vector f.laws v c.args.row.now in
    let es : v c.get.result ≡ now c.args.a l = c.get.ensures in
    let ey : v c.index-row-l.result ≡ y l = sym (vector-at f v c.args.row.now l c.index-row-l.result lt c.index-row-l.is) in (
      c.set.ensures.rows ∙ c.loop-l.invariant.0,
      c.set.ensures.cols ∙ c.loop-l.invariant.1,
      row-next f.laws c.args.a (v c.args.x) y l (entry f.laws v c.args.sums.now) now (entry f.laws v c.set.new.self) (v c.in_ok-sum.sum)
          (c.in_ok-sum.ensures.exact ∙ (λ z. f.laws.plus (es z) (f.laws.times (v c.args.x) (ey z)))) c.set.ensures.entries c.loop-l.invariant.2,
    )
