use Rattle.std.proofs.Common.{length, ◌∙◌, ap}
use Rattle.cyclo24.specs.ExactK24.{k24_laws}
use Rattle.cyclo24.specs.K24.{exact24}
use Rattle.lin_alg.specs.Rows.{vector}
use Rattle.mode_project.proofs.ShortLemmas.{lists-next}
use Rattle.mode_project.proofs.short.short_lists.Goals as goal

pub loop-list-preserved : goal.loop-list-preserved
loop-list-preserved g c =
    let u = vector k24_laws g.S.Short.exact in
    let v = vector k24_laws exact24 in
    let all = c.args.lists.now in
    let i = c.loop-list.list-index in
    let old = c.loop-list.shorts.items in
    let new = c.push.new.self.items in
    let given = c.deref.ensures.value in
    record {
      long = lists-next length length all i c.list-item.result c.loop-list-test.true c.list-item.is old new c.in-Some.short c.in-Ok.ensures.items (c.in-Some.ensures.long ∙ ap length given) c.loop-list.invariant.long;
      exact = lists-next u v all i c.list-item.result c.loop-list-test.true c.list-item.is old new c.in-Some.short c.in-Ok.ensures.items (c.in-Some.ensures.exact ∙ ap v given) c.loop-list.invariant.exact;
    }
