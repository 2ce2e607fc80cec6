-- What is answered to the words: want of memory for reading them.
use Rattle.std.proofs.Common.{◌≡◌, ℕ, List, Option, Some, None, IfSome, sym, subst}
use Rattle.iso_watch.specs.Watchers.{Watcher}
use Rattle.iso_report.specs.Endings.{Change, change}
use Rattle.iso_report.specs.declared.job.Job.{Job}
use Rattle.iso_cli.specs.Answers.{Answers, Says, SaysUsage, memory_line}
use Rattle.iso_cli.specs.Reading.{taken_by}
use Rattle.iso_cli.specs.declared.status.Status.{Status}
use Rattle.iso_cli.specs.declared.status.Status.TheVariants as status
use Rattle.iso_cli.proofs.Lines.{memory_answer}

-- want of memory in place of usage, and in place of any job's answer
pub usage_memory : (s : Status) (err : Change) → s ≡ status.NoMemory → Says memory_line err → SaysUsage s err
usage_memory s err e said = subst (λ t. SaysUsage t err) (sym e) said

pub any_memory : (named : Option Job) (ws : List Watcher) (left written : Option (List ℕ)) (faults : ℕ) (s : Status) (err : Change) → s ≡ status.NoMemory → Says memory_line err
    → IfSome named (λ job. IfSome (taken_by job left) (λ bytes. Answers job ws bytes s (change written written faults faults) err))
any_memory None ws left written faults s err e said = tt
any_memory (Some job) ws left written faults s err e said = memory_answer job ws (taken_by job left) written faults s err e said
