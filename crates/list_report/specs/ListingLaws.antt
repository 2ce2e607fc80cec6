-- What is found where there is a listing of a real form, or none.
--
-- AfterListing next x: what is found behind the listing
-- found-unlisted: there is none; found-listed: what is found behind it
use Rattle.std.proofs.Common.{ℕ, List, inl, inr, Result, IfOk}
use Rattle.report_steps.specs.declared.refusal.Refusal.{Refusal}
use Rattle.report_steps.specs.declared.step.Step.{Step}
use Rattle.report_steps.specs.declared.step.Step.TheVariants as step
use Rattle.report_steps.specs.Finding.{Finding}
use Rattle.report_steps.specs.FindingLaws.{found-wide, found-next}
use Rattle.report_steps.specs.FoundBy.{FindsBy}
use Rattle.report_steps.specs.Steps.{After}
use Rattle.list_report.specs.Closing.{RefusesSubspaces, AreWideSubspaces, AreFew, RefusesNone, AreWideClasses, RefusesListing, IsListed}
use Rattle.list_report.specs.Contexts.{Formed, Listed}

-- what is found behind the fixed subspaces and the classes
abbrev pub AfterListing : (Listed → Finding → Type 0) → Formed → Finding → Type 0
AfterListing next = After RefusesSubspaces AreWideSubspaces AreFew (After RefusesNone AreWideClasses IsListed next)

module _ {T : Type 0} (text : T → List ℕ) (held : T → Type 0) (next : Listed → Finding → Type 0) (x : Formed) where
  -- there is no listing
  pub found-unlisted : (r : Refusal) → RefusesListing x r → FindsBy text held (AfterListing next x) (step.Refused r)
  found-unlisted r (inl h) = found-wide text held RefusesSubspaces AreWideSubspaces AreFew (After RefusesNone AreWideClasses IsListed next) x r h
  found-unlisted r (inr (few, h)) = (inr (inr (x, few, (found-wide text held RefusesNone AreWideClasses IsListed next x r h).0)), tt)

  -- what is found behind a listing
  pub found-listed : {E : Type 0} (l : Listed) → AreFew x x → IsListed x l → (r : Result (Step T) E) → IfOk r (FindsBy text held (next l)) → IfOk r (FindsBy text held (AfterListing next x))
  found-listed l few h r k =
      found-next text held RefusesSubspaces AreWideSubspaces AreFew (After RefusesNone AreWideClasses IsListed next) x x few r (found-next text held RefusesNone AreWideClasses IsListed next x l h r k)
