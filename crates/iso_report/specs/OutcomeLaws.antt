-- What the definition of an outcome settles, for any watchers and any bytes of a source.
--
-- HasOneOutcome job: a job finds at most one thing for watchers and the bytes of a source, besides numbers that pass their bound
use Rattle.std.specs.Prelude.{◌≡◌, ℕ, List}
use Rattle.iso_watch.specs.Watchers.{Watcher}
use Rattle.iso_report.specs.declared.job.Job.{Job}
use Rattle.report_steps.specs.Finding.{Finding}
use Rattle.iso_report.specs.Outcome.{HasOutcome}
use Rattle.report_steps.specs.StepLaws.{IsNoWide}

abbrev pub HasOneOutcome : Job → Type 0
HasOneOutcome job = (ws : List Watcher) (source : List ℕ) (f g : Finding) → HasOutcome job ws source f → HasOutcome job ws source g → IsNoWide f → IsNoWide g → f ≡ g
