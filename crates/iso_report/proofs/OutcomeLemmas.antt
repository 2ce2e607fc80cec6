-- The bytes of a source have one outcome.
use Rattle.std.proofs.Common.{◌≡◌, ap, ◌∙◌, sym, subst, ℕ, ℤ, pos, ◌≤ℤ◌, ◌<ℤ◌, List, Option, Some, None, IfSome, unwrap_or, Bool, true, false, arith}
use Rattle.std.proofs.lemmas.Int.{ints}
use Rattle.iso_text.specs.FileValue.{File}
use Rattle.iso_text.specs.Ranges.{IsInRange}
use Rattle.iso_text.specs.declared.sections.IrrepText.{IrrepText}
use Rattle.super_group.specs.Quotient.{SupercellGroup, IsQuotient}
use Rattle.iso_report.specs.declared.job.Job.{Job}
use Rattle.iso_report.specs.declared.job.Job.TheVariants as job
use Rattle.iso_report.specs.Check.{check_text}
use Rattle.iso_report.specs.Outcome.{IsChecked, IsFound, AfterReps, AfterOrder, AfterPhases, AfterParent, AfterText, IsFoundIn, AreBytes, HasOutcome}
use Rattle.iso_watch.specs.Watchers.{Watcher}
use Rattle.list_report.specs.TellingLaws.{HasListTold}
use Rattle.iso_report.specs.Jobs.{generated}
use Rattle.report_steps.specs.Contexts.{Parented, Divided}
use Rattle.report_steps.specs.Finding.{Finding, report}
use Rattle.report_steps.specs.IrrepReport.{Facts, AreFacts}
use Rattle.report_steps.specs.Stages.{RefusesText, IsRead, RefusesParent, IsParented, RefusesPhases, HavePhases, RefusesOrder, IsDivided, RefusesReps, AreWideReps, HaveReps, RefusesDimensions, AreWideInduced, HaveInduced}
use Rattle.report_steps.specs.StepLaws.{IsSingle, IsSingleAt, single-at, FindsOneAt, After-single-at, After-map, IsNoWide}
use Rattle.report_steps.specs.Steps.{never}
use Rattle.mode_report.specs.Atoms.{RefusesAtoms}
use Rattle.mode_report.specs.DirectionFound.{IsFoundAlong}
use Rattle.amp_report.specs.AmpsFound.{AreAmpsFound}
use Rattle.couple_report.specs.CoupleFound.{IsCoupleFound}
use Rattle.couple_report.specs.LinkFound.{IsLinkFound}
use Rattle.extra_modes.specs.declared.nature.Nature.{Nature}
use Rattle.extra_report.specs.ExtraFound.{AreExtraFound}
use Rattle.extra_report.specs.ExtraAmpsFound.{AreExtraAmpsFound}
use Rattle.apart_report.specs.ApartFound.{AreApartFound}
use Rattle.demo_files.specs.Demo.{IsDemoFile}
use Rattle.demo_report.specs.DemoFound.{IsDemoFound}
use Rattle.mode_report.specs.ModesFound.{AreWideAll, AreToldOf, IsReported, AreModesFound}

-- the tolerance of a file is below a quarter of a cell edge
abbrev pub HasSmallTolerance : File → Type 0
HasSmallTolerance f = unwrap_or f.tolerance (pos 0) <ℤ pos 3000000

small-option : (t : Option ℤ) → IfSome t (λ x. (pos 0 ≤ℤ x) × (x ≤ℤ pos 2999999)) → unwrap_or t (pos 0) <ℤ pos 3000000
small-option None h = omega (arith, ints)
small-option (Some x) h = omega (arith, ints, h.1)

pub small-tolerance : (f : File) → IsInRange f → HasSmallTolerance f
small-tolerance f h = small-option f.tolerance h.tolerance

-- what is known of each step, and of what is found behind them
pub record AreSettled : Type 0 where
  pub text : IsSingle RefusesText IsRead
  pub parent : IsSingle RefusesParent IsParented
  pub phases : (p : Parented) → IsSingleAt RefusesPhases HavePhases p
  pub order : IsSingle RefusesOrder IsDivided
  pub reps : (d : Divided) → IsQuotient d.quotient → IsSingleAt RefusesReps HaveReps d
  pub dimensions : (d : Divided) → IsQuotient d.quotient → IsSingleAt RefusesDimensions HaveInduced d
  pub facts : (q : SupercellGroup) → IsQuotient q → (irreps : List IrrepText) (fs gs : List Facts) → AreFacts q irreps fs → AreFacts q irreps gs → fs ≡ gs
  pub list : (d : Divided) → IsQuotient d.quotient → (wanted : Option (List ℕ)) (after : ℕ) (count : Option ℕ) (tally : Bool) (ws : List Watcher) → FindsOneAt (HasListTold wanted after count tally ws) d
  pub modes : (d : Divided) → IsQuotient d.quotient → IsSingleAt RefusesAtoms AreToldOf d
  pub along : (d : Divided) → IsQuotient d.quotient → (wanted : Option (List ℕ)) (number : ℕ) → FindsOneAt (IsFoundAlong wanted number) d
  pub tolerance : (bytes : List ℕ) (file : File) → IsRead bytes file → HasSmallTolerance file
  pub amps : (d : Divided) → IsQuotient d.quotient → HasSmallTolerance d.file → FindsOneAt AreAmpsFound d
  pub couple : (d : Divided) → IsQuotient d.quotient → (wanted : Option (List ℕ)) (other : List ℕ) (after : ℕ) (count : Option ℕ) → FindsOneAt (IsCoupleFound wanted other after count) d
  pub link : (d : Divided) → IsQuotient d.quotient → (wanted : Option (List ℕ)) (other : List ℕ) → FindsOneAt (IsLinkFound wanted other) d
  pub extra : (nature : Nature) (d : Divided) → IsQuotient d.quotient → FindsOneAt (AreExtraFound nature) d
  pub extra_amps : (nature : Nature) (d : Divided) → IsQuotient d.quotient → FindsOneAt (AreExtraAmpsFound nature) d
  pub apart : (d : Divided) → IsQuotient d.quotient → FindsOneAt AreApartFound d
  pub demo : (d : Divided) → IsQuotient d.quotient → (number : ℕ) → FindsOneAt (IsDemoFound number) d
  pub file : (number : ℕ) (s t : List ℕ) → IsDemoFile number s → IsDemoFile number t → s ≡ t

-- what a job finds behind the steps that all jobs share, however the watchers are left
abbrev HasFound : Job → List Watcher → Divided → Finding → Type 0
HasFound i ws d f = (new : List Watcher) × IsFound i ws new d f

module _ (P Q : Divided → Finding → Type 0) (m : (d : Divided) (f : Finding) → P d f → Q d f) where
  -- what is found in the bytes of a file, by what is found behind all steps
  found-map : (bytes : List ℕ) (f : Finding) → IsFoundIn P bytes f → IsFoundIn Q bytes f
  found-map =
      After-map RefusesText never IsRead (AfterText P) (AfterText Q)
      (After-map RefusesParent never IsParented (AfterParent P) (AfterParent Q)
      (After-map RefusesPhases never HavePhases (AfterPhases P) (AfterPhases Q)
      (After-map RefusesOrder never IsDivided (AfterOrder P) (AfterOrder Q)
      (After-map RefusesReps AreWideReps HaveReps (AfterReps P) (AfterReps Q)
      (After-map RefusesDimensions AreWideInduced HaveInduced P Q m)))))

module _ (s : AreSettled) (j : Job) (ws : List Watcher) where
  module _ (d : Divided) (h : IsQuotient d.quotient) (small : HasSmallTolerance d.file) where
    checked-one : FindsOneAt IsChecked d
    checked-one f g (facts, a, e) (other, b, k) u v = e ∙ ap (λ (fs : List Facts). report (check_text d fs)) (s.facts d.quotient h d.file.irreps facts other a b) ∙ sym k

    modes-one : FindsOneAt AreModesFound d
    modes-one = After-single-at RefusesAtoms AreWideAll AreToldOf (IsReported d.file.format) d (s.modes d h) (λ told w f g e k u v. e ∙ sym k)

    job-found : (i : Job) → FindsOneAt (HasFound i ws) d
    job-found job.Check f g a b u v = checked-one f g a.1.0 b.1.0 u v
    job-found (job.List wanted after count tally) f g a b u v = s.list d h wanted after count tally ws f g a b u v
    job-found (job.Modes None) f g a b u v = modes-one f g a.1.0 b.1.0 u v
    job-found (job.Modes (Some (wanted, number))) f g a b u v = s.along d h wanted number f g a.1.0 b.1.0 u v
    job-found job.Amps f g a b u v = s.amps d h small f g a.1.0 b.1.0 u v
    job-found (job.Couple wanted other after count) f g a b u v = s.couple d h wanted other after count f g a.1.0 b.1.0 u v
    job-found (job.Link wanted other) f g a b u v = s.link d h wanted other f g a.1.0 b.1.0 u v
    job-found (job.Extra nature false) f g a b u v = s.extra nature d h f g a.1.0 b.1.0 u v
    job-found (job.Extra nature true) f g a b u v = s.extra_amps nature d h f g a.1.0 b.1.0 u v
    job-found job.Apart f g a b u v = s.apart d h f g a.1.0 b.1.0 u v
    job-found (job.Demo number) f g a b u v = s.demo d h number f g a.1.0 b.1.0 u v

    induced-found : FindsOneAt (AfterReps (HasFound j ws)) d
    induced-found =
        After-single-at RefusesDimensions AreWideInduced HaveInduced (HasFound j ws) d (s.dimensions d h)
        (λ e w. let P : Divided → Type 0 = FindsOneAt (HasFound j ws) in subst P (sym w.1) (job-found j))

    reps-found : FindsOneAt (AfterOrder (HasFound j ws)) d
    reps-found =
        After-single-at RefusesReps AreWideReps HaveReps (AfterReps (HasFound j ws)) d (s.reps d h)
        (λ e w. let P : Divided → Type 0 = FindsOneAt (AfterReps (HasFound j ws)) in subst P (sym w.1) induced-found)

  order-found : (p : Parented) → HasSmallTolerance p.file → FindsOneAt (AfterPhases (HasFound j ws)) p
  order-found p small =
      After-single-at RefusesOrder never IsDivided (AfterOrder (HasFound j ws)) p (single-at RefusesOrder IsDivided s.order p)
      (λ d w. reps-found d w.quotient (subst HasSmallTolerance (sym w.file_is) small))

  phases-found : (p : Parented) → HasSmallTolerance p.file → FindsOneAt (AfterParent (HasFound j ws)) p
  phases-found p small =
      After-single-at RefusesPhases never HavePhases (AfterPhases (HasFound j ws)) p (s.phases p)
      (λ q w. let P : Parented → Type 0 = FindsOneAt (AfterPhases (HasFound j ws)) in subst P (sym w.1) (order-found p small))

  parent-found : (file : File) → HasSmallTolerance file → FindsOneAt (AfterText (HasFound j ws)) file
  parent-found file small =
      After-single-at RefusesParent never IsParented (AfterParent (HasFound j ws)) file (single-at RefusesParent IsParented s.parent file)
      (λ p w. phases-found p (subst HasSmallTolerance (sym w.4) small))

  bytes-found : (bytes : List ℕ) → FindsOneAt (IsFoundIn (HasFound j ws)) bytes
  bytes-found bytes =
      After-single-at RefusesText never IsRead (AfterText (HasFound j ws)) bytes (single-at RefusesText IsRead s.text bytes) (λ file w. parent-found file (s.tolerance bytes file w))

  -- the bytes of the file that a job is about are one
  bytes-one : (number : Option ℕ) (source bytes other : List ℕ) → AreBytes number source bytes → AreBytes number source other → bytes ≡ other
  bytes-one None source bytes other a b = a ∙ sym b
  bytes-one (Some number) source bytes other a b = s.file number bytes other a b

  -- however the watchers are left
  left-so : (new : List Watcher) (bytes : List ℕ) (f : Finding) → IsFoundIn (IsFound j ws new) bytes f → IsFoundIn (HasFound j ws) bytes f
  left-so new = found-map (IsFound j ws new) (HasFound j ws) (λ d f h. (new, h))

  pub outcome-one : (source : List ℕ) (f g : Finding) → HasOutcome j ws source f → HasOutcome j ws source g → IsNoWide f → IsNoWide g → f ≡ g
  outcome-one source f g (new, h) (old, k) u v =
      let P : List ℕ → Type 0 = λ z. IsFoundIn (HasFound j ws) z g in
      bytes-found h.0 f g (left-so new h.0 f h.2) (subst P (sym (bytes-one (generated j) source h.0 k.0 h.1 k.1)) (left-so old k.0 g k.2)) u v
