-- What a listing that watchers are told of obeys.
--
-- HasListTold wanted after count tally ws d f: what `list` finds, however the watchers are left
use Rattle.std.specs.Prelude.{ℕ, Bool, List, Option}
use Rattle.iso_watch.specs.Watchers.{Watcher}
use Rattle.report_steps.specs.Contexts.{Divided}
use Rattle.report_steps.specs.Finding.{Finding}
use Rattle.list_report.specs.Telling.{IsListTold}

-- what `list` finds, however the watchers are left
abbrev pub HasListTold : Option (List ℕ) → ℕ → Option ℕ → Bool → List Watcher → Divided → Finding → Type 0
HasListTold wanted after count tally ws d f = (new : List Watcher) × IsListTold wanted after count tally ws new d f
