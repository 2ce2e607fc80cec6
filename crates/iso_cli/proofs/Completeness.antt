-- What one outcome of each job says of the answers.
use Rattle.std.proofs.Common.{◌≡◌, ◌≢◌, ℕ, ◌≤◌, inl, inr, List, Option, Some, None, IfSome, length, sym, subst, arith}
use Rattle.iso_watch.specs.Watchers.{Watcher}
use Rattle.iso_report.specs.Endings.{Change}
use Rattle.iso_report.specs.Outcome.{HasOutcome, report, refused}
use Rattle.iso_report.specs.OutcomeLaws.{HasOneOutcome}
use Rattle.iso_report.specs.declared.job.Job.{Job}
use Rattle.report_steps.specs.declared.refusal.Refusal.{Refusal}
use Rattle.report_steps.specs.declared.refusal.Refusal.TheVariants as refusal
use Rattle.iso_cli.specs.declared.status.Status.{Status}
use Rattle.iso_cli.specs.declared.status.Status.TheVariants as status
use Rattle.iso_cli.specs.Answers.{Answers, IsNarrow, IsNotWide, IsRefused, max_bytes}

report_refused : (r : List ℕ) (q : Refusal) → report r ≡ refused q → ⊥
report_refused r q e = cc

refused_same : (q s : Refusal) → refused q ≡ refused s → q ≡ s
refused_same q s e = cc

module _ (one : (job : Job) → HasOneOutcome job) (job : Job) (ws : List Watcher) (s : Status) (bytes : List ℕ) (out err : Change) (a : Answers job ws bytes s out err) where
  -- a report and a refusal that is no wide number exclude each other
  exclude : (r : List ℕ) (q : Refusal) → IsNotWide q → HasOutcome job ws bytes (report r) → HasOutcome job ws bytes (refused q) → ⊥
  exclude r q n o p = report_refused r q (one job ws bytes (report r) (refused q) o p (λ k e. report_refused r (refusal.Wide k) e) (λ k e. n k (refused_same q (refusal.Wide k) e)))

  -- few enough bytes with a report are not refused
  not_refused : length bytes ≤ max_bytes → IsNarrow job ws bytes → (r : List ℕ) → HasOutcome job ws bytes (report r) → s ≢ status.Refused
  not_refused l narrow r o e = by (subst (λ (t : Status). Answers job ws bytes t out err) e a).1
    where
      by : IsRefused job ws bytes err → ⊥
      by (inl (m, said)) = absurd (omega (arith, l, m))
      by (inr (q, m, p, said)) = exclude r q (λ k w. narrow k (subst (λ (x : Refusal). HasOutcome job ws bytes (refused x)) w p)) o p

  -- bytes that are refused have no report, whole or in part
  not_reported : (q : Refusal) → IsNotWide q → HasOutcome job ws bytes (refused q) → (s ≢ status.Done) × (s ≢ status.WriteFault)
  not_reported q n o = (
    λ e. let done = (subst (λ (t : Status). Answers job ws bytes t out err) e a).1 in exclude done.0 q n done.1 o,
    λ e. let broken = (subst (λ (t : Status). Answers job ws bytes t out err) e a).1 in exclude broken.0 q n broken.1 o,
  )

-- of the job that the words name, and of the bytes that it takes
module _ (named : Option Job) (job : Job) (named_is : named ≡ Some job) (P Q : Job → List ℕ → Type 0) where
  pub of_named : (left : Job → Option (List ℕ)) → ((bytes : List ℕ) → P job bytes → Q job bytes) → IfSome (left job) (P job) → IfSome named (λ j. IfSome (left j) (Q j))
  of_named left f h = subst (λ (o : Option Job). IfSome o (λ j. IfSome (left j) (Q j))) (sym named_is) (inner (left job) h)
    where
      inner : (left : Option (List ℕ)) → IfSome left (P job) → IfSome left (Q job)
      inner None h = tt
      inner (Some bytes) h = f bytes h

module _ (one : (job : Job) → HasOneOutcome job) (named : Option Job) (job : Job) (named_is : named ≡ Some job) (left : Job → Option (List ℕ)) (ws : List Watcher) (s : Status) (out err : Change)
    (a : IfSome (left job) (λ bytes. Answers job ws bytes s out err)) where
  pub complete_answer : IfSome named (λ j. IfSome (left j) (λ bytes. length bytes ≤ max_bytes → IsNarrow j ws bytes → (r : List ℕ) → HasOutcome j ws bytes (report r) → s ≢ status.Refused))
  complete_answer =
      of_named named job named_is (λ j bytes. Answers j ws bytes s out err) (λ j bytes. length bytes ≤ max_bytes → IsNarrow j ws bytes → (r : List ℕ) → HasOutcome j ws bytes (report r) → s ≢ status.Refused)
      left (λ bytes h. not_refused one job ws s bytes out err h) a

  pub sound_answer : IfSome named (λ j. IfSome (left j) (λ bytes. (r : Refusal) → IsNotWide r → HasOutcome j ws bytes (refused r) → (s ≢ status.Done) × (s ≢ status.WriteFault)))
  sound_answer =
      of_named named job named_is (λ j bytes. Answers j ws bytes s out err) (λ j bytes. (r : Refusal) → IsNotWide r → HasOutcome j ws bytes (refused r) → (s ≢ status.Done) × (s ≢ status.WriteFault))
      left (λ bytes h. not_reported one job ws s bytes out err h) a
