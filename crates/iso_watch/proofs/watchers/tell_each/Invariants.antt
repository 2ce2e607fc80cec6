use Rattle.std.proofs.Common.{◌≡◌, [], ◌∷◌, map, take, drop}
use Rattle.iso_watch.specs.Watchers.{after}
use Rattle.iso_watch.proofs.watchers.tell_each.Given as goal

abbrev pub invariant-loop-each : goal.invariant-loop-each
invariant-loop-each g l =
    let before = take l.each-index l.fn.watchers in
    let now = take l.each-index l.watchers in
    record {
      told : map (λ w. (goal.Watch-dyn g (w.vtable, w.value)).watcher w.value) now ≡ map (after (l.notice ∷ [])) (map (λ w. (goal.Watch-dyn g (w.vtable, w.value)).watcher w.value) before);
      others : drop l.each-index l.watchers ≡ drop l.each-index l.fn.watchers;
    }
