use Rattle.std.proofs.Common.{◌≡◌, ℕ, List, length, sym, subst, arith}
use Rattle.std.specs.Cmp.{IsTotalOrder}
use Rattle.std.proofs.lemmas.Cmp.{on_total}
use Rattle.lin_alg.specs.CompareLaws.{lines_total}
use Rattle.class_list.specs.Least.{AreLeast}
use Rattle.class_list.specs.Ranks.{place_cmp, rows_at}
use Rattle.class_list.proofs.LeastLemmas.{least-start}
use Rattle.class_list.proofs.classes.least_places.Goals as goal

pub settle-requires-clause-least : goal.settle-requires-clause-least
settle-requires-clause-least g c =
    let es = c.args.spaces.now.forms in
    let n : ℕ = length es in
    let cmp = place_cmp g.F.Ord.cmp es in
    let o : IsTotalOrder cmp = on_total (rows_at es) (lines_total g.met.F.Ord.total) in
    let items : List ℕ = c.loop-i.least.items in
    let s : length items ≡ n = omega (arith, c.loop-i.invariant.0, c.loop-i-test.false, c.len-i-end.ensures) in
    let a = least-start cmp o n c.args.arrows.now items s (λ k l. c.loop-i.invariant.1 k (let t : length items ≡ c.loop-i.i = c.loop-i.invariant.0 in omega arith)) in
    subst (AreLeast cmp n c.args.arrows.now) (sym c.deref_mut.ensures.value) a
