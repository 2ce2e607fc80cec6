use Rattle.std.proofs.Common.{◌∙◌, sym, arith}
use Rattle.iso_watch.proofs.WatcherLemmas.{some_at}
use Rattle.iso_watch.proofs.watchers.any_enough.Goals as goal

pub returns-then-has_one_enough : goal.returns-then-has_one_enough
returns-then-has_one_enough g c = sym (some_at _ c.args.watchers.now c.loop-each.each-index c.each-item.result (omega arith) c.each-item.is (sym c.has_one_enough.ensures ∙ c.if-has_one_enough.true))
