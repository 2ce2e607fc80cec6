-- What is found behind the steps that all jobs share, by the job.
use Rattle.std.proofs.Common.{◌≡◌, ◌⊎◌, inl, inr, Err, refl, sym, subst, map, ℕ, Bool, true, false, List, [], Option, Some, None, Result}
use Rattle.extra_modes.specs.declared.nature.Nature.{Nature}
use Rattle.iso_watch.specs.Watchers.{Watcher}
use Rattle.list_report.specs.Telling.{IsListTold}
use Rattle.report_steps.specs.declared.context.InducedFile.{InducedFile}
use Rattle.iso_report.specs.declared.job.Job.{Job}
use Rattle.iso_report.specs.declared.job.Job.TheVariants as job
use Rattle.iso_report.specs.declared.run_error.RunError.{RunError}
use Rattle.iso_report.specs.declared.run_error.RunError.TheVariants as run_error
use Rattle.report_steps.specs.Contexts.{Divided}
use Rattle.report_steps.specs.Finding.{Finding, report, refused}
use Rattle.report_steps.specs.Held.{IsInducedHeld, facts_in}
use Rattle.report_steps.specs.HeldFiles.{AreInducedHeld}
use Rattle.report_steps.specs.IrrepReport.{AreFactsOf}
use Rattle.report_steps.specs.EachLaws.{each-map}
use Rattle.iso_report.specs.Check.{check_text}
use Rattle.iso_report.specs.Endings.{Change, Left, Ends, change, left}
use Rattle.iso_report.specs.Outcome.{IsChecked, IsFound, Alone}
use Rattle.iso_report.proofs.EndingLemmas.{ends-alone, grown_by_nothing, grown_by_prefix}

-- a checked file
pub checked-found : (file : InducedFile) → AreInducedHeld file → IsChecked file.divided (report (check_text file.divided (map facts_in file.irreps.items)))
checked-found file held =
    let q = file.divided.quotient in
    (map facts_in file.irreps.items, each-map (IsInducedHeld q) (AreFactsOf q) facts_in file.divided.file.irreps file.irreps.items (λ i v h. h.facts) held, refl)

-- a job that is another
pub job-ends : {A : Type 0} (j i : Job) (ws new : List Watcher) (d : Divided) (l : Left) (r : Result A RunError) → j ≡ i → Ends (IsFound i ws new d) l r → Ends (IsFound j ws new d) l r
job-ends j i ws new d l r e h = subst (λ (x : Job). Ends (IsFound x ws new d) l r) (sym e) h

-- a job that tells no watcher
pub alone-ends : {A : Type 0} (j i : Job) (found : Divided → Finding → Type 0) (ws : List Watcher) (d : Divided) (out : Change) (r : Result A RunError) → j ≡ i
    → ((f : Finding) → Alone ws ws found d f → IsFound i ws ws d f) → Ends (found d) (left out [] []) r → Ends (IsFound j ws ws d) (left out ws ws) r
alone-ends j i found ws d out r e m h =
    job-ends j i ws ws d (left out ws ws) r e (ends-alone (found d) (IsFound i ws ws d) (λ f w. m f (w, refl)) out ws r h)

-- the same, of a job whose parts tell none
pub parts-ends : {A : Type 0} (j i : Job) (ws : List Watcher) (d : Divided) (out : Change) (r : Result A RunError) → j ≡ i
    → ((f : Finding) → IsFound i [] [] d f → IsFound i ws ws d f) → Ends (IsFound i [] [] d) (left out [] []) r → Ends (IsFound j ws ws d) (left out ws ws) r
parts-ends j i ws d out r e m h =
    job-ends j i ws ws d (left out ws ws) r e (ends-alone (IsFound i [] [] d) (IsFound i ws ws d) m out ws r h)

-- modes, of all orbits or those that a direction allows, with any watchers
pub modes-found : (direction : Option (Option (List ℕ) × ℕ)) (ws : List Watcher) (d : Divided) (f : Finding) → IsFound (job.Modes direction) [] [] d f → IsFound (job.Modes direction) ws ws d f
modes-found None ws d f h = (h.0, refl)
modes-found (Some (wanted, number)) ws d f h = (h.0, refl)

-- occupations or axial vectors, with any watchers
pub extra-found : (nature : Nature) (amps : Bool) (ws : List Watcher) (d : Divided) (f : Finding) → IsFound (job.Extra nature amps) [] [] d f → IsFound (job.Extra nature amps) ws ws d f
extra-found nature false ws d f h = (h.0, refl)
extra-found nature true ws d f h = (h.0, refl)

-- the modes of all orbits, or those that a direction allows
pub modes-ends : {A : Type 0} (direction other : Option (Option (List ℕ) × ℕ)) (found : Divided → Finding → Type 0) (d : Divided) (out : Change) (r : Result A RunError) → direction ≡ other
    → ((f : Finding) → Alone [] [] found d f → IsFound (job.Modes other) [] [] d f) → Ends (found d) (left out [] []) r → Ends (IsFound (job.Modes direction) [] [] d) (left out [] []) r
modes-ends direction other found d out r e m h =
    subst (λ (x : Option (Option (List ℕ) × ℕ)). Ends (IsFound (job.Modes x) [] [] d) (left out [] []) r) (sym e)
    (ends-alone (found d) (IsFound (job.Modes other) [] [] d) (λ f w. m f (w, refl)) out [] r h)

-- occupations or axial vectors, their modes or their amplitudes
pub extra-ends : {A : Type 0} (nature : Nature) (amps other : Bool) (found : Divided → Finding → Type 0) (d : Divided) (out : Change) (r : Result A RunError) → amps ≡ other
    → ((f : Finding) → Alone [] [] found d f → IsFound (job.Extra nature other) [] [] d f) → Ends (found d) (left out [] []) r → Ends (IsFound (job.Extra nature amps) [] [] d) (left out [] []) r
extra-ends nature amps other found d out r e m h =
    subst (λ (x : Bool). Ends (IsFound (job.Extra nature x) [] [] d) (left out [] []) r) (sym e)
    (ends-alone (found d) (IsFound (job.Extra nature other) [] [] d) (λ f w. m f (w, refl)) out [] r h)

-- want of memory: no watcher was told, or all of the page that is found
pub memory-left : (wanted : Option (List ℕ)) (after : ℕ) (count : Option ℕ) (tally : Bool) (ws new : List Watcher) (d : Divided) (held : Option (List ℕ)) (faults : ℕ)
    → (new ≡ ws) ⊎ ((f : Finding) × IsListTold wanted after count tally ws new d f) → Ends {A = Unit {0}} (IsListTold wanted after count tally ws new d) (left (change held held faults faults) ws new) (Err run_error.NoMemory)
memory-left wanted after count tally ws new d held faults (inl e) = inl (grown_by_nothing held, e)
memory-left wanted after count tally ws new d held faults (inr (report bytes, h)) = inr (bytes, h, grown_by_prefix bytes held)
memory-left wanted after count tally ws new d held faults (inr (refused r, h)) = inl (grown_by_nothing held, h.1)
