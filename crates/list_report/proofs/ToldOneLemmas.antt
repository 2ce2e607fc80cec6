-- What `list` finds for a file and watchers is one.
use Rattle.std.proofs.Common.{◌≡◌, sym, ap, ◌∙◌, subst, ℕ, Bool, List, map, take, Option}
use Rattle.super_group.specs.Quotient.{IsQuotient}
use Rattle.iso_watch.specs.Watchers.{Watcher}
use Rattle.iso_watch.specs.Watchers.{after as after_notices}
use Rattle.iso_watch.specs.WatchersLaws.{EndsOnce}
use Rattle.report_steps.specs.Contexts.{Divided}
use Rattle.report_steps.specs.Finding.{Finding, report}
use Rattle.report_steps.specs.StepLaws.{FindsOneAt, After-map}
use Rattle.report_steps.specs.Steps.{never}
use Rattle.list_report.specs.Choice.{RefusesChoice, IsChosen}
use Rattle.list_report.specs.Closing.{RefusesSubspaces, AreWideSubspaces, AreFew, RefusesNone, AreWideClasses, IsListed}
use Rattle.list_report.specs.Contexts.{Listed}
use Rattle.list_report.specs.Listings.{AfterClosing, AfterForm, AfterChoice, IsListedThen}
use Rattle.list_report.specs.RealForms.{RefusesForm, IsWideFormOf, IsFormed}
use Rattle.list_report.specs.Telling.{IsTold, page_notices, told_report}
use Rattle.list_report.specs.TellingLaws.{HasListTold}
use Rattle.list_report.proofs.ListUniqueLemmas.{ListingsAreUnique, IrrepsInduceOne, FindsOneEach, listed-then}

-- what is found behind the listing, by what else is
listed-map : (P Q : Listed → Finding → Type 0) → ((l : Listed) (f : Finding) → P l f → Q l f) → (wanted : Option (List ℕ)) (d : Divided) (f : Finding) → IsListedThen wanted P d f → IsListedThen wanted Q d f
listed-map P Q m wanted =
    After-map (RefusesChoice wanted) never (IsChosen wanted) (AfterChoice P) (AfterChoice Q)
    (After-map RefusesForm IsWideFormOf IsFormed (AfterForm P) (AfterForm Q)
    (After-map RefusesSubspaces AreWideSubspaces AreFew (AfterClosing P) (AfterClosing Q)
    (After-map RefusesNone AreWideClasses IsListed P Q m)))

module _ (once : EndsOnce) (after : ℕ) (count : Option ℕ) (tally : Bool) (ws : List Watcher) where
  -- what is told of a listing, however the watchers are left
  abbrev HasTold : Listed → Finding → Type 0
  HasTold l f = (new : List Watcher) × IsTold after count tally ws new l f

  told-one : FindsOneEach HasTold
  told-one l f g (new, a) (other, b) u v =
      let k : a.told_count ≡ b.told_count = once (page_notices after count l) ws a.told_count b.told_count a.ends b.ends in
      let w : new ≡ other = a.told ∙ ap (λ (n : ℕ). map (after_notices (take n (page_notices after count l))) ws) k ∙ sym b.told in
      a.reported ∙ (λ i. report (told_report after (k i) tally (w i) l)) ∙ sym b.reported

pub told-found : IrrepsInduceOne → ListingsAreUnique → EndsOnce → (d : Divided) → IsQuotient d.quotient → (wanted : Option (List ℕ)) (after : ℕ) (count : Option ℕ) (tally : Bool) (ws : List Watcher)
    → FindsOneAt (HasListTold wanted after count tally ws) d
told-found one listings once d h wanted after count tally ws f g (new, a) (other, b) u v =
    let next = HasTold once after count tally ws in
    listed-then one listings d h wanted next (told-one once after count tally ws) f g
    (listed-map (IsTold after count tally ws new) next (λ l x w. (new, w)) wanted d f a.0)
    (listed-map (IsTold after count tally ws other) next (λ l x w. (other, w)) wanted d g b.0)
    u v
