-- The bytes of the file that a job is about: those of the source, or those of a generated file.
use Rattle.std.proofs.Common.{◌≡◌, ◌∙◌, ◌++◌, inl, inr, refl, sym, ap, subst, ℕ, ◌<◌, List, length, map, take, drop, Option, Some, None, Result, Ok, Err, arith}
use Rattle.std.proofs.lemmas.List.{append-nil, drop_all, take_all}
use Rattle.std.proofs.lemmas.Option.{same_Some}
use Rattle.demo_files.specs.Demo.{IsDemoFile}
use Rattle.iso_watch.specs.Watchers.{Watcher}
use Rattle.report_steps.specs.Contexts.{Divided}
use Rattle.report_steps.specs.Finding.{Finding, report, refused}
use Rattle.iso_report.specs.declared.job.Job.{Job}
use Rattle.iso_report.specs.declared.job.Job.TheVariants as job
use Rattle.iso_report.specs.declared.run_error.RunError.{RunError}
use Rattle.iso_report.specs.declared.run_error.RunError.TheVariants as run_error
use Rattle.iso_report.specs.Endings.{Change, Left, Ends, left}
use Rattle.iso_report.specs.Jobs.{HasNumber, generated}
use Rattle.iso_report.specs.Outcome.{IsFound, IsFoundIn, AreBytes, IsOutcome, IsUntold}
use Rattle.iso_report.proofs.EndingLemmas.{ends-map}

-- what is found in the generated file of a number
abbrev pub IsFoundFor : (Divided → Finding → Type 0) → ℕ → Finding → Type 0
IsFoundFor next number f = (bytes : List ℕ) × IsDemoFile number bytes × IsFoundIn next bytes f

-- over the bytes of a generated file
pub file-ends : {A : Type 0} (next : Divided → Finding → Type 0) (l : Left) (r : Result A RunError) (number : ℕ) (bytes text : List ℕ) → bytes ≡ text → IsDemoFile number text → Ends (IsFoundIn next bytes) l r
    → Ends (IsFoundFor next number) l r
file-ends next l r number bytes text e h w = ends-map (IsFoundIn next bytes) (IsFoundFor next number) (λ f x. (bytes, subst (IsDemoFile number) (sym e) h, x)) l r w

-- a refusal leaves the watchers as they were
ends-untold : {A : Type 0} (P Q : Finding → Type 0) (l : Left) → ((f : Finding) → P f → IsUntold f l.old l.new → Q f) → (r : Result A RunError) → Ends P l r → Ends Q l r
ends-untold P Q l m (Ok x) h = (h.0, m (report h.0) h.1 tt, h.2)
ends-untold P Q l m (Err (run_error.Refused c)) h = (m (refused c) h.0 h.2, h.1, h.2)
ends-untold P Q l m (Err run_error.WriteFault) h = (h.0, m (report h.0) h.1 tt, h.2, h.3)
ends-untold P Q l m (Err run_error.NoMemory) (inl g) = inl g
ends-untold P Q l m (Err run_error.NoMemory) (inr h) = inr (h.0, m (report h.0) h.1 tt, h.2)

module _ {A : Type 0} (j : Job) (out : Change) (ws new : List Watcher) (r : Result A RunError) (source : List ℕ) where
  abbrev next : Divided → Finding → Type 0
  next = IsFound j ws new

  -- of a job that is about the file of the source
  pub source-ends : None ≡ generated j → Ends (IsFoundIn next source) (left out ws new) r → Ends (IsOutcome j ws new source) (left out ws new) r
  source-ends e w = ends-untold (IsFoundIn next source) (IsOutcome j ws new source) (left out ws new) (λ f x u. (source, subst (λ (n : Option ℕ). AreBytes n source source) e refl, x, u)) r w

  -- of a job that is about a generated file
  pub generated-ends : (number : ℕ) → Some number ≡ generated j → Ends (IsFoundFor next number) (left out ws new) r → Ends (IsOutcome j ws new source) (left out ws new) r
  generated-ends number e w =
      ends-untold (IsFoundFor next number) (IsOutcome j ws new source) (left out ws new) (λ f x u. (x.0, subst (λ (n : Option ℕ). AreBytes n source x.0) e x.1, x.2, u)) r w

-- there is a generated file of its number
pub number-below : (j : Job) (number : ℕ) → HasNumber j → Some number ≡ generated j → number < 64
number-below job.Check number h e = absurd (cc)
number-below (job.List irrep after count tally) number h e = absurd (cc)
number-below (job.Modes direction) number h e = absurd (cc)
number-below job.Amps number h e = absurd (cc)
number-below (job.Couple irrep other after count) number h e = absurd (cc)
number-below (job.Link irrep other) number h e = absurd (cc)
number-below (job.Extra nature amps) number h e = absurd (cc)
number-below job.Apart number h e = absurd (cc)
number-below (job.Demo n) number h e = subst (λ (k : ℕ). k < 64) (same_Some n number (sym e)) h

-- the watchers by the elements of a list that is the same before, and another that is the same after
pub moved-ends : {A W : Type 0} (f : W → Watcher) (j : Job) (out : Change) (bytes : List ℕ) (r : Result A RunError) (xs ys zs ws : List W) → xs ≡ zs → ys ≡ ws
    → Ends (IsOutcome j (map f xs) (map f ys) bytes) (left out (map f xs) (map f ys)) r → Ends (IsOutcome j (map f zs) (map f ws) bytes) (left out (map f zs) (map f ws)) r
moved-ends f j out bytes r xs ys zs ws e k h =
    subst (λ us. Ends (IsOutcome j (map f zs) (map f us) bytes) (left out (map f zs) (map f us)) r) k
    (subst (λ us. Ends (IsOutcome j (map f us) (map f ys) bytes) (left out (map f us) (map f ys)) r) e h)

-- a whole list written back in place of another
pub written-back : {W : Type 0} (xs ys : List W) (n : ℕ) → length xs ≡ n → length ys ≡ n → xs ≡ take n (xs ++ drop (length xs) ys)
written-back xs ys n e k = sym (ap (λ zs. take n (xs ++ zs)) (drop_all (length xs) ys (omega (arith, e, k))) ∙ ap (take n) (append-nil xs) ∙ take_all n xs (omega (arith, e)))
