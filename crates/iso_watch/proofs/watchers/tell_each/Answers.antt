use Rattle.std.proofs.Common.{◌<◌, ◌∙◌, [], ◌∷◌, length, get_or, arith}
use Rattle.std.proofs.lemmas.List.{drop-set-lt}
use Rattle.iso_watch.specs.Watchers.{after}
use Rattle.iso_watch.proofs.WatcherLemmas.{behind, changed_more, told_whole}
use Rattle.iso_watch.proofs.watchers.tell_each.Goals as goal

pub loop-each-preserved : goal.loop-each-preserved
loop-each-preserved g c =
    let i = c.loop-each.each-index in
    let d = c.each-item.result in
    let w = get_or c.loop-each.watchers i d in
    let in_now : i < length c.loop-each.watchers = omega arith in
    let in_old : i < length c.args.watchers.now = omega arith in
    let b = behind c.args.watchers.now c.loop-each.watchers i d in_now in_old c.loop-each.invariant.others in
    record {
      told = changed_more _ (after (c.args.notice ∷ [])) c.args.watchers.now c.loop-each.watchers i d w c.tell_one.new.each in_now in_old b.here c.loop-each.invariant.told c.tell_one.ensures;
      others = drop-set-lt _ c.loop-each.watchers i c.tell_one.new.each (omega arith) ∙ b.others;
    }

pub returns : goal.returns
returns g c = told_whole _ (after (c.args.notice ∷ [])) c.args.watchers.now c.loop-each.watchers c.loop-each.each-index (omega arith) (omega arith) c.loop-each.invariant.told
