use Rattle.std.proofs.Common.{sym, ◌∙◌, ap, subst, length}
use Rattle.std.proofs.lemmas.List.{take_all}
use Rattle.cyclo24.specs.ExactK24.{k24_laws}
use Rattle.cyclo24.specs.K24.{exact24}
use Rattle.lin_alg.specs.Rows.{vector}
use Rattle.mode_project.specs.Joined.{lines_in, AreLong}
use Rattle.mode_project.proofs.ShortLemmas.{joined-next, long-next}
use Rattle.mode_project.proofs.short_solved.short_lines.Goals as goal

pub loop-row-preserved : goal.loop-row-preserved
loop-row-preserved g c =
    let exact = g.S.Short.exact in
    let all = c.args.rows.now in
    let i = c.loop-row.row-index in
    let row = c.row-item.result in
    let old = c.loop-row.shorts.items in
    let new = c.push.new.self.items in
    let short = c.in-Some.short in
    let vectors = c.in-Some.ensures.exact ∙ ap (vector k24_laws exact24) c.deref.ensures.value in
    let lengths = c.in-Some.ensures.long ∙ ap length c.deref.ensures.value in
    record {
      rows = joined-next exact exact24 all i row c.loop-row-test.true c.row-item.is old new short c.in-Ok.ensures.items vectors c.loop-row.invariant.rows;
      long = long-next exact exact24 all i row c.loop-row-test.true c.row-item.is old new short c.in-Ok.ensures.items lengths c.loop-row.invariant.long;
    }

pub returns-clause-long : goal.returns-clause-long
returns-clause-long g c n h = c.loop-row.invariant.long n (subst (λ xs. AreLong n (lines_in xs)) (sym (take_all c.loop-row.row-index c.args.rows.now c.loop-row-test.false)) h)
