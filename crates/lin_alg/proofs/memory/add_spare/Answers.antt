use Rattle.std.proofs.Common.{◌≡◌, ◌+◌, ◌<◌, ◌≤◌, List, map, sym, ◌∙◌, ap, subst, arith, vec_len, Vec}
use Rattle.lin_alg.specs.Rows.{HaveLength}
use Rattle.lin_alg.proofs.MemoryLemmas.{long-append}
use Rattle.lin_alg.proofs.memory.add_spare.Goals as goal

pub loop-preserved : goal.loop-preserved
loop-preserved g c = (
  subst (λ (z : List (Vec _ _)). HaveLength c.args.width (map (λ r. r.items) z)) (sym c.in-Ok.ensures.items)
      (long-append (λ (r : Vec _ _). r.items) c.args.width c.loop.spare.items c.in_ok-row.row c.loop.invariant.0 c.in_ok-row.ensures.len),
  c.in-Ok.ensures.len ∙ ap (λ n. n + 1) c.loop.invariant.1,
  λ n l m.
      let at : vec_len c.loop.spare ≡ c.loop.counter = c.loop.invariant.1 in
      let below : c.loop.counter < c.args.rows = c.loop-test.true in
      let len : vec_len c.push.new.self ≡ vec_len c.loop.spare + 1 = c.in-Ok.ensures.len in
      let next : vec_len c.push.new.self ≤ n = omega (arith, at, below, len, m) in next,
)
