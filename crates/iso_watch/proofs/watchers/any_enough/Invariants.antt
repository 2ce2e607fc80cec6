use Rattle.std.proofs.Common.{◌≡◌, false, map, take}
use Rattle.iso_watch.specs.Watchers.{has_enough}
use Rattle.iso_watch.proofs.watchers.any_enough.Given as goal

abbrev pub invariant-loop-each : goal.invariant-loop-each
invariant-loop-each g l = has_enough (map (λ w. (goal.Watch-dyn g (w.vtable, w.value)).watcher w.value) (take l.each-index l.watchers)) ≡ false
