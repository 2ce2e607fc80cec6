-- What a call of the program leaves on its streams, by its status.
--
-- Says line err: err has grown by the line
-- Answers job ws bytes status out err: the answer to a job with watchers, over all the bytes that it takes of a source
-- AnswersUsage status out err: the answer where the words name no job
-- IsNarrow job ws bytes: no number of the job passes its bound on these bytes; IsNotWide r: the refusal is no such number
use Rattle.std.specs.Prelude.{◌≢◌, ◌⊎◌, ℕ, ◌<◌, ◌≤◌, List, [], length, codes}
use Rattle.iso_watch.specs.Watchers.{Watcher}
use Rattle.iso_report.specs.declared.job.Job.{Job}
use Rattle.report_steps.specs.declared.refusal.Refusal.{Refusal}
use Rattle.report_steps.specs.declared.refusal.Refusal.TheVariants as refusal
use Rattle.iso_report.specs.Endings.{Change, Grew, GrewByPrefix, HasFailed, IsDone, IsCutShort, IsBrokenOff}
use Rattle.iso_report.specs.Outcome.{HasOutcome, refused}
use Rattle.report_steps.specs.Report.{line_of}
use Rattle.iso_text.specs.Lines.{line}
use Rattle.iso_cli.specs.UsageLine.{usage_line}
use Rattle.iso_cli.specs.declared.status.Status.{Status}
use Rattle.iso_cli.specs.declared.status.Status.TheVariants as status

-- the most bytes of a file
abbrev pub max_bytes : ℕ
max_bytes = 1048576

abbrev pub too_long_line : List ℕ
too_long_line = line (codes "isodist: refused: file is longer than 1048576 bytes") []

abbrev pub read_line : List ℕ
read_line = line (codes "isodist: read failed") []

abbrev pub write_line : List ℕ
write_line = line (codes "isodist: write failed") []

abbrev pub memory_line : List ℕ
memory_line = line (codes "isodist: out of memory") []

-- err has grown by the line, or by a prefix of it where a write on it failed
abbrev pub Says : List ℕ → Change → Type 0
Says text err = Grew text err ⊎ (GrewByPrefix text err × HasFailed err)

-- the line of a refusal, or want of memory for it
abbrev pub SaysRefusal : Refusal → Status → Change → Type 0
SaysRefusal r status.Refused err = Says (line_of r) err
SaysRefusal r status.NoMemory err = Says memory_line err
SaysRefusal r _ err = ⊥

-- the usage line, or want of memory for reading the words
abbrev pub SaysUsage : Status → Change → Type 0
SaysUsage status.Usage err = Says usage_line err
SaysUsage status.NoMemory err = Says memory_line err
SaysUsage _ err = ⊥

-- a refusal: too many bytes were left, or the definitions refuse these
abbrev pub IsRefused : Job → List Watcher → List ℕ → Change → Type 0
IsRefused job ws bytes err = ((max_bytes < length bytes) × Says too_long_line err) ⊎ ((r : Refusal) × (length bytes ≤ max_bytes) × HasOutcome job ws bytes (refused r) × Says (line_of r) err)

-- want of memory: nothing was written, or a prefix of the report of few enough bytes
abbrev pub IsStopped : Job → List Watcher → List ℕ → Change → Type 0
IsStopped job ws bytes out = Grew [] out ⊎ ((length bytes ≤ max_bytes) × IsCutShort (HasOutcome job ws bytes) out)

-- the answer to a job, by its status, over all the bytes that it takes: where they are too many, it is
-- the refusal of their length, a read fault or want of memory
abbrev pub Answers : Job → List Watcher → List ℕ → Status → Change → Change → Type 0
Answers job ws bytes status.Done out err = (length bytes ≤ max_bytes) × IsDone (HasOutcome job ws bytes) out × Grew [] err
Answers job ws bytes status.Refused out err = Grew [] out × IsRefused job ws bytes err
Answers job ws bytes status.Usage out err = ⊥
Answers job ws bytes status.ReadFault out err = Grew [] out × Says read_line err
Answers job ws bytes status.WriteFault out err = (length bytes ≤ max_bytes) × IsBrokenOff (HasOutcome job ws bytes) out × Says write_line err
Answers job ws bytes status.NoMemory out err = IsStopped job ws bytes out × Says memory_line err

-- the answer where the words name no job: the usage line, and nothing on out
abbrev pub AnswersUsage : Status → Change → Change → Type 0
AnswersUsage status out err = Grew [] out × SaysUsage status err

-- no number of the job passes its bound
abbrev pub IsNarrow : Job → List Watcher → List ℕ → Type 0
IsNarrow job ws bytes = (k : ℕ) → HasOutcome job ws bytes (refused (refusal.Wide k)) → ⊥

-- the refusal is no number that passes its bound
abbrev pub IsNotWide : Refusal → Type 0
IsNotWide r = (k : ℕ) → r ≢ refusal.Wide k
