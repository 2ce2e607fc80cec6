use Rattle.std.proofs.Common.{◌≡◌, map, take}
use Rattle.iso_watch.specs.Watchers.{watcher_lines}
use Rattle.iso_watch.proofs.watchers.lines.Given as goal

abbrev pub invariant-loop-each : goal.invariant-loop-each
invariant-loop-each g l = l.text ≡ watcher_lines (map (λ w. (goal.Watch-dyn g (w.vtable, w.value)).watcher w.value) (take l.each-index l.watchers))
