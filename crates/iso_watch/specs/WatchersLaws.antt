-- What pages that are told obey.
--
-- EndsOnce: a page ends after one number of notices alone
-- ToldInTurn: told of some and then of others is told of them all
-- ToldNone: told of none is as before
use Rattle.std.specs.Prelude.{◌≡◌, ℕ, List, [], ◌++◌}
use Rattle.iso_watch.specs.declared.notice.Notice.{Notice}
use Rattle.iso_watch.specs.Watchers.{Watcher, Told, EndsAfter}

abbrev pub EndsOnce : Type 0
EndsOnce = (ns : List Notice) (ws : List Watcher) (j k : ℕ) → EndsAfter ns ws j → EndsAfter ns ws k → j ≡ k

abbrev pub ToldInTurn : Type 0
ToldInTurn = (ms ns : List Notice) (old mid new : List Watcher) → Told ms old mid → Told ns mid new → Told (ms ++ ns) old new

abbrev pub ToldNone : Type 0
ToldNone = (old new : List Watcher) → Told [] old new → new ≡ old
