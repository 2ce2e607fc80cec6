use Rattle.std.proofs.Common.{◌≡◌, ◌<◌, ℕ, ◌∙◌, subst, arith}
use Rattle.lin_alg.specs.Rows.{vector}
use Rattle.lin_alg.specs.Matrix.{entry, IsWideTerm}
use Rattle.couple.specs.Listed.{lifted}
use Rattle.couple.proofs.PartLemmas.{element-next}
use Rattle.couple.proofs.TermLemmas.{term-moved, on-err}
use Rattle.couple.proofs.averages.add_element.Goals as goal

pub loop-a-preserved : goal.loop-a-preserved
loop-a-preserved g c =
    let f = g.F.Field.field in
    let v = g.F.Field.value in
    let p = lifted f.laws (g.P.Pairs.pair c.args.pairs.now) in
    let y : ℕ → _ = vector f.laws v c.fill_right.new.row in
    let e : c.inverse-back.result ≡ p.group.inverse c.args.q = c.inverse-back.ensures.value in
    let ey : (b : ℕ) → b < p.cols → y b ≡ p.right (p.group.inverse c.args.q) c.args.j b = λ b l. c.fill_right.ensures b l ∙ (λ t. p.right (e t) c.args.j b) in (
      c.add_row.ensures.rows ∙ c.loop-a.invariant.0,
      c.add_row.ensures.cols ∙ c.loop-a.invariant.1,
      element-next f.laws p c.args.q c.args.i c.args.j c.loop-a.a c.loop-a.sums.cols (entry f.laws v c.args.sums.now) (entry f.laws v c.loop-a.sums) (entry f.laws v c.add_row.new.sums)
          (v c.left.result) y c.left.ensures ey (c.loop-a.invariant.1 ∙ c.requires.cols) c.in_ok-add_row.ensures.exact c.loop-a.invariant.2,
    )

pub returns-in_err-add_row-clause-wide : goal.returns-in_err-add_row-clause-wide
returns-in_err-add_row-clause-wide g c =
    let f = g.F.Field.field in
    let v = g.F.Field.value in
    let p = lifted f.laws (g.P.Pairs.pair c.args.pairs.now) in
    let a = c.loop-a.a in
    let w = c.in_err-add_row.ensures.wide in
    let la : a < p.rows = subst (λ (k : ℕ). a < k) c.rows-a-end.ensures.value c.loop-a-test.true in
    let lb : w.0 < p.cols = subst (λ (k : ℕ). w.0 < k) (c.loop-a.invariant.1 ∙ c.requires.cols) w.1 in
    let e : c.inverse-back.result ≡ p.group.inverse c.args.q = c.inverse-back.ensures.value in
    let old : ℕ → ℕ → _ = entry f.laws v c.args.sums.now in
    on-err c.from_residual.result
    ((a : ℕ) × (a < p.rows) × (b : ℕ) × (b < p.cols) × IsWideTerm f (old a b) (p.left c.args.q a c.args.i) (p.right (p.group.inverse c.args.q) c.args.j b)) (
      a,
      la,
      w.0,
      lb,
      term-moved f (entry f.laws v c.loop-a.sums a w.0) (old a w.0) (v c.left.result) (p.left c.args.q a c.args.i) (vector f.laws v c.fill_right.new.row w.0) (p.right (p.group.inverse c.args.q) c.args.j w.0)
          (c.loop-a.invariant.2.ahead a w.0 (omega arith) lb) c.left.ensures (c.fill_right.ensures w.0 lb ∙ (λ t. p.right (e t) c.args.j w.0)) w.2,
    )
