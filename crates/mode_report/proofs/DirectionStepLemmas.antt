-- What is found for a direction behind the listing of its irrep.
use Rattle.std.proofs.Common.{◌≡◌, refl, sym, ap, ◌∙◌, subst, ◌⊎◌, ℕ, zero, suc, ◌+◌, ◌<◌, List, [], ◌∷◌, length, Some, slice_get, Result, IfOk, arith}
use Rattle.std.proofs.lemmas.List.{length-map}
use Rattle.std.proofs.lemmas.Option.{get_or_from_slice_get, same_Some}
use Rattle.algebra.specs.Subgroup.{IsSubgroup}
use Rattle.cyclo24.specs.ExactK24.{k24_laws}
use Rattle.cyclo24.specs.K24.{exact24}
use Rattle.cyclo24.specs.declared.k24.K24.{K24}
use Rattle.class_list.specs.Seen.{DirectionView, direction_of, directions_of}
use Rattle.super_group.specs.Quotient.{SupercellGroup, quotient_group}
use Rattle.real_form.specs.RealForm.{action_of, action_of-lawful}
use Rattle.list_report.specs.Closing.{IsListed}
use Rattle.list_report.specs.Contexts.{Listed}
use Rattle.list_report.specs.HeldListings.{formed_in, IsFormedHeld, AreDirections}
use Rattle.list_report.specs.declared.listed.FormedIrrep.{FormedIrrep}
use Rattle.report_steps.specs.Contexts.{Divided}
use Rattle.report_steps.specs.FindingLaws.{found-refused, found-next}
use Rattle.report_steps.specs.Steps.{never}
use Rattle.report_steps.specs.declared.refusal.Refusal.TheVariants as refusal
use Rattle.report_steps.specs.declared.step.Step.{Step}
use Rattle.report_steps.specs.declared.step.Step.TheVariants as step
use Rattle.mode_report.specs.DirectionFound.{AfterDirection, AfterClasses}
use Rattle.mode_report.specs.DirectionModes.{RefusesDirection, IsDirection}
use Rattle.mode_report.specs.FoundAlong.{along_text, IsAlongHeld, FindsAlong, AreSubgroups}
use Rattle.mode_report.specs.declared.along.ModesAlong.{ModesAlong}
use Rattle.mode_report.proofs.SubgroupLemmas.{all-subgroups}

-- the stabiliser of one direction
pub subgroup-at : (q : SupercellGroup) (ds : List (DirectionView K24)) (i : ℕ) (d : DirectionView K24) (h : List ℕ) → i < length ds → slice_get ds i ≡ Some d → h ≡ d.stabiliser → AreSubgroups q ds
    → IsSubgroup (quotient_group q) h
subgroup-at q ds i d h l e s all =
    let P : DirectionView K24 → Type 0 = λ x. IsSubgroup (quotient_group q) x.stabiliser in
    subst (λ x. IsSubgroup (quotient_group q) x) (sym s) (subst P (get_or_from_slice_get ds i d d e) (all i d l))

-- the direction at a place
direction-at : (ds : List (DirectionView K24)) (i : ℕ) (d : DirectionView K24) → i < length ds → slice_get ds i ≡ Some d → slice_get (directions_of k24_laws exact24 ds) i ≡ Some (direction_of k24_laws exact24 d)
direction-at [] i d l e = absurd (omega arith)
direction-at (x ∷ ds) zero d l e = ap (λ y. Some (direction_of k24_laws exact24 y)) (same_Some x d e)
direction-at (x ∷ ds) (suc i) d l e = direction-at ds i d (omega arith) e

-- the stabilisers of a listing
pub listing-subgroups : (x : FormedIrrep) (q : SupercellGroup) (ds : List (DirectionView K24)) → IsFormedHeld x → x.quotient ≡ q → AreDirections (formed_in x) ds → AreSubgroups q ds
listing-subgroups x q ds held e d =
    let P : SupercellGroup → Type 0 = λ s. AreSubgroups s ds in
    subst P (held.quotient ∙ e) (all-subgroups (action_of x.form) (action_of-lawful x.form) ds d.listing.directions)

-- the listing of a real form
abbrev pub listing_along : FormedIrrep → List (DirectionView K24) → Listed
listing_along x ds = record { format = x.format; quotient = x.quotient; name = x.name; dim = (action_of x.form).dim; directions = directions_of k24_laws exact24 ds }

pub is-listing-along : (x : FormedIrrep) (ds : List (DirectionView K24)) → AreDirections (formed_in x) ds → IsListed (formed_in x) (listing_along x ds)
is-listing-along x ds d = record { listing = d.listing; dim = refl; format_is = refl; quotient_is = refl; name_is = refl }

module _ (d : Divided) (number : ℕ) (l : Listed) (name : List ℕ) (ds : List (DirectionView K24)) (n : l.name ≡ name) (e : l.directions ≡ directions_of k24_laws exact24 ds) where
  -- there is no direction of that number
  pub no-direction : (k : ℕ) → k ≡ length ds → ((number ≡ 0) ⊎ (k < number)) → FindsAlong (AfterClasses d number l) (step.Refused (refusal.NoSuchDirection name number))
  no-direction k s c =
      let len : k ≡ length l.directions = s ∙ sym (length-map ds (direction_of k24_laws exact24)) ∙ ap (λ xs. length xs) (sym e) in
      let P : ℕ → Type 0 = λ m. (number ≡ 0) ⊎ (m < number) in
      found-refused along_text IsAlongHeld (RefusesDirection number) never (IsDirection number) (AfterDirection d l.name number) l (refusal.NoSuchDirection name number)
      (subst P len c, ap (λ x. refusal.NoSuchDirection x number) (sym n))

  -- or one
  pub one-direction : {E : Type 0} (i : ℕ) (x : DirectionView K24) (h : List ℕ) (r : Result (Step ModesAlong) E) → number ≡ i + 1 → i < length ds → slice_get ds i ≡ Some x → h ≡ x.stabiliser
      → IfOk r (FindsAlong (AfterDirection d name number h)) → IfOk r (FindsAlong (AfterClasses d number l))
  one-direction i x h r a b c s f =
      let at = ap (λ xs. slice_get xs i) e ∙ direction-at ds i x b c in
      let P : List ℕ → Type 0 = λ m. IfOk r (FindsAlong (AfterDirection d m number h)) in
      found-next along_text IsAlongHeld (RefusesDirection number) never (IsDirection number) (AfterDirection d l.name number) l h (i, direction_of k24_laws exact24 x, a, at, s) r (subst P (sym n) f)
