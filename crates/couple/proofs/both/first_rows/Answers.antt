use Rattle.std.proofs.Common.{◌≡◌, ◌<◌, ◌≤◌, ◌/◌, ℕ, refl, sym, ◌∙◌, ap, subst, arith, length, below_more}
use Rattle.std.proofs.lemmas.Nat.{div_below}
use Rattle.induce.specs.InducedView.{star_in}
use Rattle.induce.specs.Tables.{size_in}
use Rattle.couple.specs.Found.{IsArmMoved}
use Rattle.couple.proofs.FirstLemmas.{lt-le}
use Rattle.couple.proofs.FoundLemmas.{past-first}
use Rattle.couple.proofs.both.first_rows.Goals as goal

pub returns-then-size-n-clause-reached : goal.returns-then-size-n-clause-reached
returns-then-size-n-clause-reached c i l = (0, c.order-order.ensures.group.identity_below, λ a m la. absurd (omega (arith, m, la, c.dim-n.ensures.value)))

pub returns-then-not-is_moved-clause-reached : goal.returns-then-not-is_moved-clause-reached
returns-then-not-is_moved-clause-reached c i l = (0, c.order-order.ensures.group.identity_below, λ a m la. absurd (omega (arith, m, la, c.dim-n.ensures.value)))

pub loop-arm-preserved : goal.loop-arm-preserved
loop-arm-preserved c =
    below_more (λ k. IsArmMoved c.args.quotient.now c.args.induced.now k) c.loop-arm.arm c.loop-arm.invariant (c.is_moved.ensures c.if-not-is_moved.false)

pub returns-clause-reached : goal.returns-clause-reached
returns-clause-reached c i l =
    let v = c.args.induced.now in
    let n : ℕ = size_in v.tables in
    let arms : ℕ = length (star_in v).by in
    let es : c.size-size.result ≡ n = c.size-size.ensures.value ∙ ap (λ r. r.rep.size) c.rep.ensures in
    let ea : c.arms-arm-end.result ≡ arms = c.arms-arm-end.ensures.value ∙ ap (λ s. length s.by) c.star.ensures in
    let some : 0 < n = omega (arith, es, c.size-size.ensures.some) in
    let la : i / n < c.arms-arm-end.result = subst (λ (k : ℕ). i / n < k) (sym ea) (div_below i n arms some l) in
    let r = c.loop-arm.invariant (i / n) (lt-le (i / n) c.arms-arm-end.result c.loop-arm.arm la c.loop-arm-test.false) in
    (r.0, r.1, λ a m b. r.2 a i b l refl (past-first a n some (subst (λ (k : ℕ). k ≤ a) es m)))
