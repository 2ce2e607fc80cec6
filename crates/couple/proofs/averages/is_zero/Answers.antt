use Rattle.std.proofs.Common.{◌≡◌, ◌<◌, ◌*◌, ℕ, sym, subst}
use Rattle.lin_alg.specs.Matrix.{entry}
use Rattle.couple.proofs.FirstLemmas.{lt-le}
use Rattle.couple.proofs.PartLemmas.{by-places}
use Rattle.couple.proofs.averages.is_zero.Goals as goal

pub returns-clause-zero : goal.returns-clause-zero
returns-clause-zero g c _ a b la lb =
    let f = g.F.Field.field in
    let v = g.F.Field.value in
    by-places (λ a b. entry f.laws v c.args.sums.now a b ≡ f.laws.nought) c.rows.result c.cols-cols.result
    (λ p l. c.loop-p.invariant p (lt-le p (c.rows.result * c.cols-cols.result) c.loop-p.p l c.loop-p-test.false)) a b
    (subst (λ (k : ℕ). a < k) (sym c.rows.ensures.value) la) (subst (λ (k : ℕ). b < k) (sym c.cols-cols.ensures) lb)
