use Rattle.std.proofs.Common.{◌≡◌, ◌<◌, ◌≤◌, ◌-◌, ℕ, refl, sym, ◌∙◌, length, arith}
use Rattle.lin_alg.specs.Rows.{vector}
use Rattle.lin_alg.specs.RowLaws.{vector-past}
use Rattle.lin_alg.specs.Solving.{joined}
use Rattle.lin_alg.specs.SolvingLaws.{joined-front, joined-past}
use Rattle.lin_alg.proofs.VectorLemmas.{vector-at}
use Rattle.lin_alg.proofs.WriteLemmas.{written-set, written-all}
use Rattle.lin_alg.proofs.solving.place_target.Goals as goal

pub loop-p-init : goal.loop-p-init
loop-p-init g c =
    let f = g.F.Field.field in
    let v = g.F.Field.value in
    record {
      done = λ k l. c.requires.zero k ∙ sym (joined-front c.args.n (λ _. f.laws.nought) (vector f.laws v c.args.target.now) k l);
      ahead = λ k l. refl;
    }

pub loop-p-preserved : goal.loop-p-preserved
loop-p-preserved g c =
    let f = g.F.Field.field in
    let v = g.F.Field.value in
    let t = vector f.laws v c.args.target.now in
    let target : ℕ → _ = joined c.args.n (λ _. f.laws.nought) t in
    let p = c.loop-p.p in
    let n = c.args.n in
    let len = c.requires.width in
    let own = c.loop-p.auto.row in
    let past : n ≤ p = c.loop-p.auto.p in
    let l : p < length c.loop-p.row = omega (arith, own, c.loop-p-test.true) in
    let l' : p - n < length c.args.target.now = omega (arith, len, past, c.loop-p-test.true) in
    let at = vector-at f v c.args.target.now (p - n) c.index-target-p.result l' c.index-target-p.is in
    written-set f v target (vector f.laws v c.args.row.now) c.loop-p.row p c.index-target-p.result l (sym at ∙ sym (joined-past n (λ _. f.laws.nought) t p past)) c.loop-p.invariant

pub returns : goal.returns
returns g c =
    let f = g.F.Field.field in
    let v = g.F.Field.value in
    let l : length c.loop-p.row ≤ c.loop-p.p = omega arith in
    written-all f v (joined c.args.n (λ _. f.laws.nought) (vector f.laws v c.args.target.now)) (vector f.laws v c.args.row.now) c.loop-p.row c.loop-p.p l
    (λ k h.
    let w : length c.loop-p.row ≡ length c.args.row.now = c.loop-p.auto.row in
    let e = c.requires.width in
    let past : c.args.n ≤ k = omega arith in
    let right : length c.args.target.now ≤ k - c.args.n = omega arith in
    joined-past c.args.n (λ _. f.laws.nought) (vector f.laws v c.args.target.now) k past ∙ vector-past f v c.args.target.now (k - c.args.n) right)
    c.loop-p.invariant
