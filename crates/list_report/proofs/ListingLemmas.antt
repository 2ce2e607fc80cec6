-- What is found for `list`, by the program's values.
use Rattle.std.proofs.Common.{◌≡◌, refl, sym, ap, ◌∙◌, subst, inr, ℕ, zero, suc, ◌<◌, ◌≤◌, List, [], ◌∷◌, length, map, get_or, Option, Some, slice_get, Result, IfOk, arith}
use Rattle.std.specs.Prelude.{All}
use Rattle.std.proofs.lemmas.List.{get_or_default, length-map}
use Rattle.std.proofs.lemmas.Option.{get_or_from_slice_get}
use Rattle.iso_text.specs.declared.sections.IrrepText.{IrrepText}
use Rattle.real_form.specs.declared.form.RealForm.{RealForm}
use Rattle.list_report.specs.Choice.{RefusesChoice, IsChosen, chosen_by, chosen_of}
use Rattle.list_report.specs.RealForms.{RefusesForm, IsWideFormOf, IsFormed}
use Rattle.report_steps.specs.Steps.{After, Answers, OrWide, never}
use Rattle.report_steps.specs.declared.step.Step.{Step}
use Rattle.std.proofs.lemmas.Result.{IfOk-weaker}
use Rattle.algebra.specs.RisingLists.{IsRisingListOf}
use Rattle.cyclo24.specs.declared.k24.K24.{K24}
use Rattle.cyclo24.specs.K24.{exact24}
use Rattle.cyclo24.specs.ExactK24.{k24, k24_laws}
use Rattle.cyclo24.specs.ExactField.{ExactField, Value}
use Rattle.lin_alg.specs.Action.{Action, IsAction, IsFixed}
use Rattle.lin_alg.specs.ActionLaws.{image-identity}
use Rattle.class_list.specs.Stabilisers.{IsStabiliserOf}
use Rattle.algebra.specs.RisingListLaws.{has-listed}
use Rattle.super_group.specs.Quotient.{SupercellGroup, order_of}
use Rattle.fix_lattice.specs.Lattice.{AreMoreFixes}
use Rattle.fix_lattice.specs.Subspaces.{AreWholeForms}
use Rattle.list_report.proofs.CountLemmas.{rising-few, listing-few}
use Rattle.class_list.specs.Directions.{IsDirection}
use Rattle.class_list.specs.Seen.{DirectionView, direction_of, directions_of}
use Rattle.real_form.specs.RealForm.{action_of, action_of-lawful}
use Rattle.list_report.specs.Closing.{limit_of, order_by, AreFew, IsListed}
use Rattle.report_steps.specs.Contexts.{Divided}
use Rattle.list_report.specs.Contexts.{Formed, Listed}
use Rattle.list_report.specs.FoundListing.{FindsListing}
use Rattle.list_report.specs.HeldListings.{formed_by, formed_in, listed_in, IsPlaceOf, IsFormedHeld, IsListingHeld, AreDirections}
use Rattle.list_report.specs.Listings.{AfterForm, AfterChoice, IsListedThen}
use Rattle.report_steps.specs.Finding.{Finding}
use Rattle.report_steps.specs.declared.refusal.Refusal.{Refusal}
use Rattle.list_report.specs.declared.listed.FormedIrrep.{FormedIrrep}
use Rattle.list_report.specs.declared.listed.ListedIrrep.{ListedIrrep}
use Rattle.report_steps.specs.declared.step.Step.TheVariants as step

-- a listing behind the real form
pub listed-found : (x : Formed) (after : ℕ) (count : Option ℕ) (r : ListedIrrep) → AreFew x x → IsListed x (listed_in r) → IsListingHeld r → r.after ≡ after → r.count ≡ count
    → FindsListing after count (λ next. AfterForm next x) (step.Passed r)
listed-found x after count r few l held a n = (inr (inr (x, few, inr (inr (listed_in r, l, (refl, a, n))))), held)

-- what is found behind a value that passes
pub listing-next : {A B E : Type 0} (refuses : A → Refusal → Type 0) (wide : A → ℕ → Type 0) (passes : A → B → Type 0) (chain : (Listed → Finding → Type 0) → B → Finding → Type 0) (a : A) (b : B)
    → passes a b → (after : ℕ) (count : Option ℕ) (r : Result (Step ListedIrrep) E) → IfOk r (FindsListing after count (λ next. chain next b))
    → IfOk r (FindsListing after count (λ next. After refuses wide passes (chain next) a))
listing-next refuses wide passes chain a b p after count r h =
    IfOk-weaker r (FindsListing after count (λ next. chain next b)) (FindsListing after count (λ next. After refuses wide passes (chain next) a)) (λ s w. (inr (inr (b, p, w.0)), w.1)) h

members-below : (n : ℕ) (P : ℕ → Type 0) (hs : List ℕ) → IsRisingListOf n P hs → All (λ q. q < n) hs
members-below n P hs h k d l = subst (λ (q : ℕ). q < n) (sym (get_or_default hs k d 0 l)) (h.below k l)

identity-listed : (f : ExactField) (act : Action) → IsAction f.laws act → (v : ℕ → Value f) (hs : List ℕ) → IsStabiliserOf f.laws act v hs → 0 < length hs
identity-listed f act law v hs h =
    let c = has-listed act.group.order (λ q. IsFixed f.laws act q v) hs h 0 law.group.identity_below (λ i l. image-identity f act law v i l) in
    let l : c.0 < length hs = c.1 in
    omega (arith, l)

rest-directions : (act : Action) (d : DirectionView K24) (ds : List (DirectionView K24)) → All (IsDirection k24_laws act) (directions_of k24_laws exact24 (d ∷ ds)) → All (IsDirection k24_laws act) (directions_of k24_laws exact24 ds)
rest-directions act d ds h k e l = h (suc k) e (omega arith)

all-members : (act : Action) (ds : List (DirectionView K24)) → All (IsDirection k24_laws act) (directions_of k24_laws exact24 ds) → All (λ (d : DirectionView K24). All (λ q. q < act.group.order) d.stabiliser) ds
all-members act [] h k e l = absurd (omega arith)
all-members act (d ∷ ds) h zero e l = let i = (h 0 (direction_of k24_laws exact24 d) (omega arith)).isotropy in members-below act.group.order _ d.stabiliser i.1
all-members act (d ∷ ds) h (suc k) e l = all-members act ds (rest-directions act d ds h) k e (omega arith)

all-some : (act : Action) → IsAction k24_laws act → (ds : List (DirectionView K24)) → All (IsDirection k24_laws act) (directions_of k24_laws exact24 ds) → All (λ (d : DirectionView K24). 0 < length d.stabiliser) ds
all-some act law [] h k e l = absurd (omega arith)
all-some act law (d ∷ ds) h zero e l = let i = (h 0 (direction_of k24_laws exact24 d) (omega arith)).isotropy in identity-listed k24 act law i.0 d.stabiliser i.1
all-some act law (d ∷ ds) h (suc k) e l = all-some act law ds (rest-directions act d ds h) k e (omega arith)

all-orders : (act : Action) (ds : List (DirectionView K24)) → All (IsDirection k24_laws act) (directions_of k24_laws exact24 ds) → All (λ (d : DirectionView K24). length d.stabiliser ≤ act.group.order) ds
all-orders act [] h k e l = absurd (omega arith)
all-orders act (d ∷ ds) h zero e l = let i = (h 0 (direction_of k24_laws exact24 d) (omega arith)).isotropy in rising-few act.group.order _ d.stabiliser i.1
all-orders act (d ∷ ds) h (suc k) e l = all-orders act ds (rest-directions act d ds h) k e (omega arith)

limit-few : (format : ℕ) → limit_of format ≤ 16384
limit-few format = grind arith

all-widths : (n : ℕ) (ds : List (DirectionView K24)) → AreWholeForms k24_laws exact24 n (map (λ d. d.equations) ds) → All (λ (d : DirectionView K24). d.equations.width ≡ n) ds
all-widths n [] h k e l = absurd (omega arith)
all-widths n (d ∷ ds) h zero e l = h.0.width
all-widths n (d ∷ ds) h (suc k) e l = all-widths n ds h.1 k e (omega arith)

module _ (x : FormedIrrep) (held : IsFormedHeld x) (r : ListedIrrep) (d : AreDirections (formed_in x) r.listing)
    (subspaces : AreMoreFixes k24_laws (action_of x.form) (limit_of x.format) → ⊥) (format : r.format ≡ x.format) (name : r.name ≡ x.name)
    (quotient : r.quotient ≡ x.quotient) (dim : r.dim ≡ (action_of x.form).dim) where
  pub is-listed : IsListed (formed_in x) (listed_in r)
  is-listed = record { listing = d.listing; dim = dim; format_is = format; quotient_is = quotient; name_is = name }

  numbers : length r.listing ≤ 16384
  numbers =
      let few = listing-few k24 (action_of x.form) (action_of-lawful x.form) (order_by x.format) (directions_of k24_laws exact24 r.listing) d.listing (limit_of x.format) subspaces in
      let count = length-map r.listing (direction_of k24_laws exact24) in
      let limit = limit-few x.format in
      omega (arith, few, count, limit)

  pub is-listing-held : IsListingHeld r
  is-listing-held =
      let act = action_of x.form in
      let e : act.group.order ≡ order_of r.quotient = ap order_of (held.quotient ∙ sym quotient) in
      let P : ℕ → Type 0 = λ n. All (λ (d : DirectionView K24). All (λ q. q < n) d.stabiliser) r.listing in
      let Q : ℕ → Type 0 = λ n. All (λ (d : DirectionView K24). d.equations.width ≡ n) r.listing in
      record {
        reportable = record {
          widths = subst Q (sym dim) (all-widths act.dim r.listing d.forms);
          members = subst P e (all-members act r.listing d.listing.directions);
          some = all-some act (action_of-lawful x.form) r.listing d.listing.directions;
        };
        few = subst (λ n. n ≤ 24) (sym dim) held.few;
        numbered = numbers;
        orders = subst (λ n. All (λ (d : DirectionView K24). length d.stabiliser ≤ n) r.listing) e (all-orders act r.listing d.listing.directions);
      }

-- the answer at an irrep of a list, by its place
pub answer-at : {E : Type 0} (format : ℕ) (q : SupercellGroup) (irreps : List IrrepText) (k : ℕ) (x i : IrrepText) → k < length irreps → x ≡ get_or irreps k x → slice_get irreps k ≡ Some i
    → (r : Result (Step RealForm) E)
    → IfOk r (λ st. (f : ℕ) → Answers (OrWide RefusesForm IsWideFormOf (chosen_by f q x)) (λ form. IsFormed (chosen_by f q x) (formed_by (chosen_by f q x) form)) st)
    → IfOk r (λ st. Answers (OrWide RefusesForm IsWideFormOf (chosen_by format q i)) (λ form. IsFormed (chosen_by format q i) (formed_by (chosen_by format q i) form)) st)
answer-at {E} format q irreps k x i l at e r h =
    let same : x ≡ i = at ∙ get_or_from_slice_get irreps k i x e in
    let P : IrrepText → Type 0 = λ z. IfOk r (λ st. Answers (OrWide RefusesForm IsWideFormOf (chosen_by format q z)) (λ form. IsFormed (chosen_by format q z) (formed_by (chosen_by format q z) form)) st) in
    subst P same (IfOk-weaker r _ _ (λ st w. w format) h)

-- the answer of the real form's step, under another quotient that is the same
abbrev pub AnswersForm : {E : Type 0} → ℕ → SupercellGroup → IrrepText → Result (Step RealForm) E → Type 0
AnswersForm format q i r =
    IfOk r (λ st. Answers (OrWide RefusesForm IsWideFormOf (chosen_by format q i)) (λ form. IsFormed (chosen_by format q i) (formed_by (chosen_by format q i) form)) st)

pub answer-moved : {E : Type 0} (format : ℕ) (p q : SupercellGroup) (i : IrrepText) (r : Result (Step RealForm) E) → p ≡ q → AnswersForm format p i r → AnswersForm format q i r
answer-moved format p q i r e h = subst (λ (s : SupercellGroup). AnswersForm format s i r) e h

-- what is found behind the irrep at a place
pub choice-next : {E : Type 0} (wanted : Option (List ℕ)) (after : ℕ) (count : Option ℕ) (d : Divided) (irreps : List IrrepText) → irreps ≡ d.file.irreps → (k : ℕ) → IsPlaceOf wanted irreps k
    → (r : Result (Step ListedIrrep) E) → ((i : IrrepText) → slice_get d.file.irreps k ≡ Some i → IfOk r (FindsListing after count (λ next. AfterChoice next (chosen_of d i))))
    → IfOk r (FindsListing after count (λ next. IsListedThen wanted next d))
choice-next wanted after count d irreps e k p r next =
    let h = subst (λ (xs : List IrrepText). IsPlaceOf wanted xs k) e p in
    listing-next (RefusesChoice wanted) never (IsChosen wanted) AfterChoice d (chosen_of d h.0) (h.2, refl) after count r (next h.0 h.1)
