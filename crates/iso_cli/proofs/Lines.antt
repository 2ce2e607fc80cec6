-- What is said and what is left unwritten, by the status.
use Rattle.std.proofs.Common.{◌≡◌, ◌∙◌, ℕ, ◌<◌, ◌≤◌, ◌⊎◌, inl, inr, List, [], Option, Some, None, IfSome, length, refl, sym, ap, subst}
use Rattle.std.proofs.lemmas.List.{append-nil}
use Rattle.iso_text.specs.Streams.{IsRestOf}
use Rattle.iso_watch.specs.Watchers.{Watcher}
use Rattle.iso_report.specs.Endings.{Change, Grew, GrewByPrefix, IsDone, IsBrokenOff, IsCutShort, change}
use Rattle.iso_report.specs.Outcome.{IsOutcome, HasOutcome, report, refused}
use Rattle.report_steps.specs.Report.{line_of}
use Rattle.iso_report.specs.declared.job.Job.{Job}
use Rattle.report_steps.specs.declared.refusal.Refusal.{Refusal}
use Rattle.iso_cli.specs.declared.status.Status.{Status}
use Rattle.iso_cli.specs.declared.status.Status.TheVariants as status
use Rattle.iso_cli.specs.Answers.{Says, SaysRefusal, Answers, max_bytes, too_long_line, memory_line, read_line, write_line}

pub says_same : (a b : List ℕ) (s : Change) → a ≡ b → Says a s → Says b s
says_same a b s e said = subst (λ t. Says t s) e said

-- a sink that was not written to has grown by nothing
pub grew_nothing : (written : Option (List ℕ)) (old new : ℕ) → Grew [] (change written written old new)
grew_nothing None old new = tt
grew_nothing (Some held) old new = ap (λ t. Some t) (sym (append-nil held))

-- a refusal's line, where the status is that of refusals
pub refusal_said : (r : Refusal) (s : Status) (err : Change) → SaysRefusal r s err → s ≡ status.Refused → Says (line_of r) err
refusal_said r s err said e = subst (λ t. SaysRefusal r t err) e said

-- a refusal's line or want of memory for it, said with its status
pub says_refusal : (r : Refusal) (s : Status) (err : Change) → s ≡ status.Refused → Says (line_of r) err → SaysRefusal r s err
says_refusal r s err e said = subst (λ t. SaysRefusal r t err) (sym e) said

pub says_no_memory : (r : Refusal) (s : Status) (err : Change) → s ≡ status.NoMemory → Says memory_line err → SaysRefusal r s err
says_no_memory r s err e said = subst (λ t. SaysRefusal r t err) (sym e) said

-- the status of a refusal
pub status_of_refusal : (r : Refusal) (s : Status) (err : Change) → SaysRefusal r s err → (s ≡ status.Refused) ⊎ (s ≡ status.NoMemory)
status_of_refusal r status.Refused err said = inl refl
status_of_refusal r status.NoMemory err said = inr refl
status_of_refusal r status.Done err said = absurd said
status_of_refusal r status.Usage err said = absurd said
status_of_refusal r status.ReadFault err said = absurd said
status_of_refusal r status.WriteFault err said = absurd said

-- the answers to bytes that are few enough
pub refused_answer : (job : Job) (ws : List Watcher) (s : Status) (bytes : List ℕ) (r : Refusal) (out err : Change) → length bytes ≤ max_bytes → HasOutcome job ws bytes (refused r) → Grew [] out → SaysRefusal r s err → Answers job ws bytes s out err
refused_answer job ws status.Refused bytes r out err l h g said = (g, inr (r, l, h, said))
refused_answer job ws status.NoMemory bytes r out err l h g said = (inl g, said)
refused_answer job ws status.Done bytes r out err l h g said = absurd said
refused_answer job ws status.Usage bytes r out err l h g said = absurd said
refused_answer job ws status.ReadFault bytes r out err l h g said = absurd said
refused_answer job ws status.WriteFault bytes r out err l h g said = absurd said

pub broken_answer : (job : Job) (ws : List Watcher) (s : Status) (bytes : List ℕ) (out err : Change) → s ≡ status.WriteFault → length bytes ≤ max_bytes → IsBrokenOff (HasOutcome job ws bytes) out → Says write_line err → Answers job ws bytes s out err
broken_answer job ws s bytes out err e l h said = subst (λ t. Answers job ws bytes t out err) (sym e) (l, h, said)

pub stopped_answer : (job : Job) (ws : List Watcher) (s : Status) (bytes : List ℕ) (out err : Change) → s ≡ status.NoMemory → length bytes ≤ max_bytes → IsCutShort (HasOutcome job ws bytes) out → Says memory_line err → Answers job ws bytes s out err
stopped_answer job ws s bytes out err e l h said = subst (λ t. Answers job ws bytes t out err) (sym e) (inr (l, h), said)

-- the answers of a source that could not be taken
pub fault_answer : (job : Job) (ws : List Watcher) (left written : Option (List ℕ)) (faults : ℕ) (s : Status) (err : Change) → s ≡ status.ReadFault → Says read_line err
    → IfSome left (λ bytes. Answers job ws bytes s (change written written faults faults) err)
fault_answer job ws None written faults s err e said = tt
fault_answer job ws (Some bytes) written faults s err e said = subst (λ t. Answers job ws bytes t (change written written faults faults) err) (sym e) (grew_nothing written faults faults, said)

pub memory_answer : (job : Job) (ws : List Watcher) (left written : Option (List ℕ)) (faults : ℕ) (s : Status) (err : Change) → s ≡ status.NoMemory → Says memory_line err
    → IfSome left (λ bytes. Answers job ws bytes s (change written written faults faults) err)
memory_answer job ws None written faults s err e said = tt
memory_answer job ws (Some bytes) written faults s err e said = subst (λ t. Answers job ws bytes t (change written written faults faults) err) (sym e) (inl (grew_nothing written faults faults), said)

pub long_answer : (job : Job) (ws : List Watcher) (left written : Option (List ℕ)) (faults : ℕ) (s : Status) (err : Change) → s ≡ status.Refused → IfSome left (λ bytes. max_bytes < length bytes) → Says too_long_line err
    → IfSome left (λ bytes. Answers job ws bytes s (change written written faults faults) err)
long_answer job ws None written faults s err e l said = tt
long_answer job ws (Some bytes) written faults s err e l said = subst (λ t. Answers job ws bytes t (change written written faults faults) err) (sym e) (grew_nothing written faults faults, inl (l, said))

-- the answer over all the bytes that were left
pub whole_answer : (job : Job) (ws : List Watcher) (left : Option (List ℕ)) (bytes taken : List ℕ) (s : Status) (out err : Change) → IfSome left (λ all. taken ≡ all) → bytes ≡ taken → Answers job ws bytes s out err
    → IfSome left (λ all. Answers job ws all s out err)
whole_answer job ws None bytes taken s out err e d a = tt
whole_answer job ws (Some all) bytes taken s out err e d a = subst (λ t. Answers job ws t s out err) (d ∙ e) a

-- of a source that was left unread
pub rest_unread : (left : Option (List ℕ)) → IsRestOf left left
rest_unread None = tt
rest_unread (Some bytes) = (0, refl)

-- what is left of the streams, however the watchers are left
module _ (job : Job) (ws new : List Watcher) (bytes : List ℕ) (out : Change) where
  pub has-done : IsDone (IsOutcome job ws new bytes) out → IsDone (HasOutcome job ws bytes) out
  has-done (r, h, g) = (r, (new, h), g)

  pub has-broken : IsBrokenOff (IsOutcome job ws new bytes) out → IsBrokenOff (HasOutcome job ws bytes) out
  has-broken (r, h, g, w) = (r, (new, h), g, w)

  pub has-stopped : (Grew [] out × (new ≡ ws)) ⊎ ((r : List ℕ) × IsOutcome job ws new bytes (report r) × GrewByPrefix r out) → IsCutShort (HasOutcome job ws bytes) out
  has-stopped (inl g) = inl g.0
  has-stopped (inr (r, h, g)) = inr (r, (new, h), g)
