use Rattle.std.proofs.Common.{◌<◌, ℕ, ◌∙◌, subst}
use Rattle.couple.proofs.both.is_moved.Goals as goal

pub returns-then-moved-eq0 : goal.returns-then-moved-eq0
returns-then-moved-eq0 c _ =
    let lq = subst (λ (k : ℕ). c.loop-q.q < k) c.order-q-end.ensures.value c.loop-q-test.true in
    (c.loop-q.q, lq, λ a b la lb eb ne. c.moved.ensures.zero a b la lb eb (λ e. ne (e ∙ c.if-moved-eq0.true)))
