use Rattle.std.proofs.Common.{map, sym, ◌∙◌, ap, subst}
use Rattle.std.proofs.lemmas.List.{take_all}
use Rattle.cyclo24.specs.K24.{exact24}
use Rattle.mode_project.specs.Joined.{lines_in, AreLong}
use Rattle.mode_project.proofs.ShortLemmas.{values-vector, values-length, joined-next, long-next}
use Rattle.mode_project.proofs.short.lengthened_rows.Goals as goal

pub loop-row-preserved : goal.loop-row-preserved
loop-row-preserved g c =
    let exact = g.S.Short.exact in
    let all = c.args.rows.now in
    let i = c.loop-row.row-index in
    let row = c.row-item.result in
    let old = c.loop-row.copy.items in
    let new = c.push.new.self.items in
    let long = c.in_ok-long.long in
    let same = c.in_ok-long.ensures ∙ ap (map exact) c.deref.ensures.value in
    record {
      rows = joined-next exact24 exact all i row c.loop-row-test.true c.row-item.is old new long c.in-Ok.ensures.items (values-vector exact24 exact long.items row.1.items same) c.loop-row.invariant.rows;
      long = long-next exact24 exact all i row c.loop-row-test.true c.row-item.is old new long c.in-Ok.ensures.items (values-length exact24 exact long.items row.1.items same) c.loop-row.invariant.long;
    }

pub returns-clause-long : goal.returns-clause-long
returns-clause-long g c n h = c.loop-row.invariant.long n (subst (λ xs. AreLong n (lines_in xs)) (sym (take_all c.loop-row.row-index c.args.rows.now c.loop-row-test.false)) h)
