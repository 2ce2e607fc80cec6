use Rattle.std.proofs.Common.{◌≡◌, map, take}
use Rattle.iso_watch.specs.Watchers.{Told}
use Rattle.iso_watch.proofs.ToldLemmas.{NoneBelow}
use Rattle.iso_watch.proofs.watchers.tell_page.Given as goal

abbrev pub invariant-loop-notice : goal.invariant-loop-notice
invariant-loop-notice g l =
    let before = map (λ w. (goal.Watch-dyn g (w.vtable, w.value)).watcher w.value) l.fn.watchers in
    let now = map (λ w. (goal.Watch-dyn g (w.vtable, w.value)).watcher w.value) l.watchers in
    record {
      count : l.count ≡ l.notice-index;
      told : Told (take l.notice-index l.notices) before now;
      none : NoneBelow l.notices before l.notice-index;
    }
