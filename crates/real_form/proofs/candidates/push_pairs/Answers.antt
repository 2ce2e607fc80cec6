use Rattle.std.proofs.Common.{◌≡◌, refl, subst, ◌∙◌, sym, ap, length}
use Rattle.std.specs.List.{range_with_len}
use Rattle.std.proofs.lemmas.List.FromFn.{length-range_with_len}
use Rattle.itertools.specs.Pool.{combination_left}
use Rattle.real_form.proofs.CombinationLemmas.{ArePairsLeft, pairs-start, pairs-next, range-run}
use Rattle.real_form.proofs.candidates.push_pairs.Goals as goal

pub loop-pair-init : goal.loop-pair-init
loop-pair-init c =
    let n = c.args.n in
    let it = c.in_ok-pairs.pairs.combinations in
    let pool : it.pool.items ≡ range_with_len 0 n = range-run n _ it.pool.items refl c.in_ok-pairs.ensures.pool in
    let len : it.pool.len ≡ n = it.pool.ok.0 ∙ ap length pool ∙ length-range_with_len 0 n in
    subst (λ z. ArePairsLeft n c.args.all.now.items c.args.all.now.items z.combinations.pool.items (combination_left z.combinations)) (sym c.into_iter-pair-iterator.ensures.into_iter_gives)
    (pairs-start n c.args.all.now.items it.pool.items (combination_left it) it.pool.len len pool c.in_ok-pairs.ensures.places)

pub loop-pair-preserved : goal.loop-pair-preserved
loop-pair-preserved c =
    let e = c.in-Some.ensures.steps in
    let st = rw c.in-Ok.is at e.1 in
    pairs-next c.args.n c.args.all.now.items c.loop-pair.all.items c.push_powers.new.all.items c.loop-pair.pair-iterator.combinations.pool.items c.next.new.self.combinations.pool.items st.0
    (combination_left c.loop-pair.pair-iterator.combinations) (combination_left c.next.new.self.combinations) (c.in-Ok.i, c.in-Ok.j) e.0 st.1 st.2 c.in_ok-push_powers-in-Ok.ensures c.loop-pair.invariant
