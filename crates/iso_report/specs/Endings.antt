-- How work on a file ends that finds one of some findings, and what it then leaves of the sink of its report and of the watchers.
--
-- Change: a sink before and after a call; Grew, GrewByPrefix, HasFailed: what happened to it
-- IsDone next out, IsCutShort next out, IsBrokenOff next out: the report of a finding is written, or not
-- Left: a sink, and watchers, before and after a call; IsUnheard left: no watcher was told
-- Fails next left e: no report is written whole; Ends next left result: the one or the other
-- IsPut text out result: a text is written, or not
use Rattle.std.specs.Prelude.{◌≡◌, ◌⊎◌, ℕ, List, [], Option, Result, MatchResult}
use Rattle.iso_text.specs.Counts.{HasRisen}
use Rattle.iso_text.specs.Streams.{GrownBy, GrownByPrefix}
use Rattle.iso_watch.specs.Watchers.{Watcher}
use Rattle.iso_report.specs.declared.run_error.RunError.{RunError}
use Rattle.iso_report.specs.declared.run_error.RunError.TheVariants as run_error
use Rattle.report_steps.specs.Finding.{Finding, report, refused}

-- a sink before and after a call: its bytes, where it tells them, and its count of faults
pub record Change : Type 0 where
  pub old : Option (List ℕ)
  pub new : Option (List ℕ)
  pub faults_old : ℕ
  pub faults_new : ℕ

abbrev pub change : Option (List ℕ) → Option (List ℕ) → ℕ → ℕ → Change
change old new faults_old faults_new = record { old = old; new = new; faults_old = faults_old; faults_new = faults_new }

abbrev pub Grew : List ℕ → Change → Type 0
Grew bytes s = GrownBy bytes s.old s.new

abbrev pub GrewByPrefix : List ℕ → Change → Type 0
GrewByPrefix bytes s = GrownByPrefix bytes s.old s.new

-- a write on the sink failed
abbrev pub HasFailed : Change → Type 0
HasFailed s = HasRisen s.faults_old s.faults_new

-- the report of the definitions, whole
abbrev pub IsDone : (Finding → Type 0) → Change → Type 0
IsDone next out = (r : List ℕ) × next (report r) × Grew r out

-- want of memory: nothing was written, or a prefix of the report
abbrev pub IsCutShort : (Finding → Type 0) → Change → Type 0
IsCutShort next out = Grew [] out ⊎ ((r : List ℕ) × next (report r) × GrewByPrefix r out)

-- a write failed: a prefix of the report was written
abbrev pub IsBrokenOff : (Finding → Type 0) → Change → Type 0
IsBrokenOff next out = (r : List ℕ) × next (report r) × GrewByPrefix r out × HasFailed out

-- a sink, and watchers, before and after a call
pub record Left : Type 0 where
  pub out : Change
  pub old : List Watcher
  pub new : List Watcher

abbrev pub left : Change → List Watcher → List Watcher → Left
left out old new = record { out = out; old = old; new = new }

-- no watcher was told
abbrev pub IsUnheard : Left → Type 0
IsUnheard l = l.new ≡ l.old

-- how the work may fail; after want of memory nothing was written and no watcher told, or a report was begun
abbrev pub Fails : (Finding → Type 0) → Left → RunError → Type 0
Fails next l (run_error.Refused r) = next (refused r) × Grew [] l.out × IsUnheard l
Fails next l run_error.WriteFault = IsBrokenOff next l.out
Fails next l run_error.NoMemory = (Grew [] l.out × IsUnheard l) ⊎ ((r : List ℕ) × next (report r) × GrewByPrefix r l.out)

abbrev pub Ends : {A : Type 0} → (Finding → Type 0) → Left → Result A RunError → Type 0
Ends next l result = MatchResult result (λ _. IsDone next l.out) (Fails next l)

-- why a text was not written whole
abbrev pub FailsToPut : List ℕ → Change → RunError → Type 0
FailsToPut text out (run_error.Refused r) = ⊥
FailsToPut text out run_error.WriteFault = GrewByPrefix text out × HasFailed out
FailsToPut text out run_error.NoMemory = GrewByPrefix text out

abbrev pub IsPut : {A : Type 0} → List ℕ → Change → Result A RunError → Type 0
IsPut text out result = MatchResult result (λ _. Grew text out) (FailsToPut text out)
