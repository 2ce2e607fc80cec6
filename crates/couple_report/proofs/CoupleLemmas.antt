-- The steps behind both real forms, by the answers of the calls.
use Rattle.std.proofs.Common.{◌≡◌, refl, sym, ap, ◌∙◌, subst, inl, inr, ℕ, zero, suc, ◌+◌, ◌<◌, ◌≤◌, ◌⊎◌, List, [], ◌∷◌, length, map, Option, Result, Err, IfOk, arith}
use Rattle.std.specs.Prelude.{All}
use Rattle.std.proofs.lemmas.List.{get_or_default}
use Rattle.algebra.specs.RisingListLaws.{has-listed}
use Rattle.algebra.specs.RisingLists.{IsRisingListOf}
use Rattle.cyclo24.specs.declared.k24.K24.{K24}
use Rattle.cyclo24.specs.K24.{exact24}
use Rattle.cyclo24.specs.ExactField.{ExactField, Value}
use Rattle.cyclo24.specs.ExactK24.{k24, k24_laws}
use Rattle.lin_alg.specs.Action.{Action, IsAction, IsFixed}
use Rattle.lin_alg.specs.ActionLaws.{image-identity}
use Rattle.fix_lattice.specs.Lattice.{AreMoreFixes}
use Rattle.fix_lattice.specs.Subspaces.{AreWholeForms}
use Rattle.fix_lattice.specs.Wide.{IsWideFixes}
use Rattle.class_list.specs.declared.order.Order.{Order}
use Rattle.class_list.specs.Directions.{IsDirection, IsListing}
use Rattle.class_list.specs.Seen.{DirectionView, direction_of, directions_of}
use Rattle.class_list.specs.Stabilisers.{IsStabiliserOf}
use Rattle.class_list.specs.Wide.{IsWideImages}
use Rattle.super_group.specs.Quotient.{SupercellGroup, order_of, quotient_group, generators_of}
use Rattle.real_form.specs.Held.{generator_of}
use Rattle.real_form.specs.RealForm.{quotient_of, action_of}
use Rattle.couple.specs.Coupled.{IsOneGroup, coupled}
use Rattle.couple.specs.declared.errors.CoupleError.{CoupleError}
use Rattle.couple.specs.declared.errors.CoupleError.TheVariants as couple_error
use Rattle.report_steps.specs.FindingLaws.{found-refused, found-wide, found-next}
use Rattle.report_steps.specs.Steps.{never}
use Rattle.report_steps.specs.declared.refusal.Refusal.{Refusal}
use Rattle.report_steps.specs.declared.refusal.Refusal.TheVariants as refusal
use Rattle.report_steps.specs.declared.step.Step.{Step}
use Rattle.report_steps.specs.declared.step.Step.TheVariants as step
use Rattle.list_report.specs.Closing.{limit_of, order_by}
use Rattle.couple_report.specs.CoupleFound.{CoupledForm, coupled_of, RefusesCoupling, AreCoupled, RefusesCoupledSubspaces, AreWideCoupledSubspaces, AreFewCoupled, RefusesNone, AreWideCoupledClasses, RefusesCoupledListing, CoupledListing, IsCoupledListing, IsCoupleReported, AfterCoupledClosing, AfterCoupling, AfterForms, AfterPair}
use Rattle.couple_report.specs.FoundCouple.{couple_of, IsCoupleHeld, FindsCouple, listed_by}
use Rattle.couple_report.specs.HeldPairs.{IsPairHeld, formed_pair, formed_in, AreTogether, coupled_in, IsTogether, AreCoupledDirections}
use Rattle.couple_report.specs.Pairs.{ChosenPair, FormedPair, RefusesForms, AreWideForms, AreFormed}
use Rattle.couple_report.specs.declared.forms.FormPair.{FormPair}
use Rattle.couple_report.specs.declared.together.Together.{Together}
use Rattle.couple_report.specs.declared.together.FoundCouple.{FoundCouple}

other : {A B : Type 0} → (A → ⊥) → A ⊎ B → B
other n (inl x) = absurd (n x)
other n (inr x) = x

-- ---- fixed subspaces and directions

module _ (t : Together) (act : Action) where
  abbrev c : CoupledForm
  c = coupled_in t act

  pub order-few : IsTogether t act → order_of t.quotient ≤ 6144 → act.group.order ≤ 16384
  order-few h l = small act.group.order (order_of t.quotient) h.order l
    where
      small : (m n : ℕ) → m ≡ n → n ≤ 6144 → m ≤ 16384
      small m n e l = omega (arith, e, l)

  pub few-fixes : (limit : ℕ) → limit ≡ limit_of t.format → (AreMoreFixes k24_laws act limit → ⊥) → AreFewCoupled c c
  few-fixes limit e h = (subst (λ n. AreMoreFixes k24_laws act n → ⊥) e h, refl)

  pub many-fixes : (limit : ℕ) → limit ≡ limit_of t.format → AreMoreFixes k24_laws act limit → RefusesCoupledListing c (refusal.CoupledSubspaces t.name t.other limit)
  many-fixes limit e h = inl (inl (subst (λ n. AreMoreFixes k24_laws act n) e h, ap (refusal.CoupledSubspaces t.name t.other) e))

  pub wide-fixes : {A : Type 0} → (A → ⊥) → A ⊎ IsWideFixes k24 act → RefusesCoupledListing c (refusal.Wide 3)
  wide-fixes n w = inl (inr (3, (refl, other n w), refl))

  pub wide-images : {A : Type 0} (limit : ℕ) → limit ≡ limit_of t.format → (A → ⊥) → (AreMoreFixes k24_laws act limit → ⊥) → A ⊎ IsWideImages k24 act → RefusesCoupledListing c (refusal.Wide 4)
  wide-images limit e n h w = inr (few-fixes limit e h, inr (4, inr (refl, other n w), refl))

  pub are-directions : (o : Order) → o ≡ order_by t.format → (l : List (DirectionView K24)) → IsListing k24_laws k24.cmp act o (directions_of k24_laws exact24 l)
      → AreWholeForms k24_laws exact24 act.dim (map (λ d. d.equations) l) → AreCoupledDirections c l
  are-directions o e l h w = record { listing = subst (λ (p : Order). IsListing k24_laws k24.cmp act p (directions_of k24_laws exact24 l)) e h; forms = w }

-- ---- what a listing holds

members-below : (n : ℕ) (P : ℕ → Type 0) (hs : List ℕ) → IsRisingListOf n P hs → All (λ q. q < n) hs
members-below n P hs h k d l = subst (λ (q : ℕ). q < n) (sym (get_or_default hs k d 0 l)) (h.below k l)

identity-listed : (f : ExactField) (act : Action) → IsAction f.laws act → (v : ℕ → Value f) (hs : List ℕ) → IsStabiliserOf f.laws act v hs → 0 < length hs
identity-listed f act law v hs h =
    let c = has-listed act.group.order (λ q. IsFixed f.laws act q v) hs h 0 law.group.identity_below (λ i l. image-identity f act law v i l) in
    let l : c.0 < length hs = c.1 in
    omega (arith, l)

rest-directions : (act : Action) (d : DirectionView K24) (ds : List (DirectionView K24)) → All (IsDirection k24_laws act) (directions_of k24_laws exact24 (d ∷ ds)) → All (IsDirection k24_laws act) (directions_of k24_laws exact24 ds)
rest-directions act d ds h k e l = h (suc k) e (omega arith)

all-members : (act : Action) (ds : List (DirectionView K24)) → All (IsDirection k24_laws act) (directions_of k24_laws exact24 ds) → All (λ (d : DirectionView K24). All (λ q. q < act.group.order) d.stabiliser) ds
all-members act [] h k e l = absurd (omega arith)
all-members act (d ∷ ds) h zero e l = let i = (h 0 (direction_of k24_laws exact24 d) (omega arith)).isotropy in members-below act.group.order _ d.stabiliser i.1
all-members act (d ∷ ds) h (suc k) e l = all-members act ds (rest-directions act d ds h) k e (omega arith)

all-some : (act : Action) → IsAction k24_laws act → (ds : List (DirectionView K24)) → All (IsDirection k24_laws act) (directions_of k24_laws exact24 ds) → All (λ (d : DirectionView K24). 0 < length d.stabiliser) ds
all-some act law [] h k e l = absurd (omega arith)
all-some act law (d ∷ ds) h zero e l = let i = (h 0 (direction_of k24_laws exact24 d) (omega arith)).isotropy in identity-listed k24 act law i.0 d.stabiliser i.1
all-some act law (d ∷ ds) h (suc k) e l = all-some act law ds (rest-directions act d ds h) k e (omega arith)

all-widths : (n : ℕ) (ds : List (DirectionView K24)) → AreWholeForms k24_laws exact24 n (map (λ d. d.equations) ds) → All (λ (d : DirectionView K24). d.equations.width ≡ n) ds
all-widths n [] h k e l = absurd (omega arith)
all-widths n (d ∷ ds) h zero e l = h.0.width
all-widths n (d ∷ ds) h (suc k) e l = all-widths n ds h.1 k e (omega arith)

module _ (t : Together) (act : Action) (law : IsAction k24_laws act) (h : IsTogether t act) (l : List (DirectionView K24)) (d : AreCoupledDirections (coupled_in t act) l) where
  is-held : IsCoupleHeld (listed_by t l)
  is-held =
      let P : ℕ → Type 0 = λ n. All (λ (x : DirectionView K24). All (λ q. q < n) x.stabiliser) l in
      let Q : ℕ → Type 0 = λ n. All (λ (x : DirectionView K24). x.equations.width ≡ n) l in
      record {
        reportable = record {
          widths = subst Q h.dim (all-widths act.dim l d.forms);
          members = subst P h.order (all-members act l d.listing.directions);
          some = all-some act law l d.listing.directions;
        };
        few = subst (λ n. n ≤ 24) h.dim h.few;
      }

  abbrev told : CoupledListing
  told = record { form = coupled_in t act; directions = directions_of k24_laws exact24 l }

  -- a listing behind both real forms as one
  pub listed-found : AreFewCoupled (coupled_in t act) (coupled_in t act) → (c : FoundCouple) → c ≡ listed_by t l → FindsCouple (AfterCoupling t.after t.count (coupled_in t act)) (step.Passed c)
  listed-found few c e =
      let P : FoundCouple → Type 0 = λ x. FindsCouple (AfterCoupling t.after t.count (coupled_in t act)) (step.Passed x) in
      subst P (sym e) (inr (inr (coupled_in t act, few, inr (inr (told, (d.listing, refl), refl)))), is-held)

-- there is no listing
pub unlisted : (after : ℕ) (count : Option ℕ) (c : CoupledForm) (r : Refusal) → RefusesCoupledListing c r → FindsCouple (AfterCoupling after count c) (step.Refused r)
unlisted after count c r (inl h) = found-wide couple_of IsCoupleHeld RefusesCoupledSubspaces AreWideCoupledSubspaces AreFewCoupled (AfterCoupledClosing after count) c r h
unlisted after count c r (inr (few, h)) = (inr (inr (c, few, (found-wide couple_of IsCoupleHeld RefusesNone AreWideCoupledClasses IsCoupledListing (IsCoupleReported after count) c r h).0)), tt)

-- ---- both real forms as one

abbrev failed : {T : Type 0} → CoupleError → Result T CoupleError
failed x = Err x

pub one-group : (q : SupercellGroup) (f : FormPair) → IsPairHeld q f → IsOneGroup (action_of f.left) (action_of f.right)
one-group q f h =
    let e : quotient_of f.left ≡ quotient_of f.right = h.left ∙ sym h.right in
    record {
      order = ap order_of e;
      product = λ a b la lb. ap (λ (s : SupercellGroup). (quotient_group s).product a b) e;
      inverse = λ a la. ap (λ (s : SupercellGroup). (quotient_group s).inverse a) e;
      generators = ap (λ (s : SupercellGroup). length (generators_of s)) e;
      generator = λ i li. ap (λ (s : SupercellGroup). generator_of s i) e;
    }

module _ (t : Together) (f : FormPair) (h : AreTogether t f) where
  abbrev x : FormedPair
  x = formed_in t f

  abbrev both : Action
  both = coupled k24_laws (action_of f.left) (action_of f.right)

  abbrev sum : ℕ
  sum = (action_of f.left).dim + (action_of f.right).dim

  is-together : sum ≤ 24 → IsTogether t both
  is-together few = record { order = ap order_of h.held.left; dim = λ i. sym h.dim i + sym h.other_dim i; few = few }

  pub acts-together : (act : Action) → act ≡ both → sum ≤ 24 → IsTogether t act
  acts-together act e few = subst (IsTogether t) (sym e) (is-together few)

  form-same : coupled_in t both ≡ coupled_of x
  form-same = λ i. record { format = t.format; quotient = t.quotient; name = t.name; other = t.other; dim = h.dim i; other_dim = h.other_dim i; act = both }

  pub coupling-next : {E : Type 0} (act : Action) → act ≡ both → sum ≤ 24 → (r : Result (Step FoundCouple) E) → IfOk r (FindsCouple (AfterCoupling t.after t.count (coupled_in t act)))
      → IfOk r (FindsCouple (AfterForms t.after t.count x))
  coupling-next act e few r k =
      let P : CoupledForm → Type 0 = λ z. IfOk r (FindsCouple (AfterCoupling t.after t.count z)) in
      found-next couple_of IsCoupleHeld RefusesCoupling never AreCoupled (AfterCoupling t.after t.count) x (coupled_of x) (few, refl) r (subst P (ap (coupled_in t) e ∙ form-same) k)

  pub coupling-refused : (n : ℕ) → (n ≡ sum) × (24 < n) → FindsCouple (AfterForms t.after t.count x) (step.Refused (refusal.TooManyCoupled t.name t.other n))
  coupling-refused n (e, l) =
      found-refused couple_of IsCoupleHeld RefusesCoupling never AreCoupled (AfterCoupling t.after t.count) x (refusal.TooManyCoupled t.name t.other n)
      (subst (λ (m : ℕ). 24 < m) e l, ap (refusal.TooManyCoupled t.name t.other) e)

  pub coupling-error : {T : Type 0} (x : CoupleError) (r : Refusal) → ((n : ℕ) → x ≡ couple_error.TooManyCoupled n → r ≡ refusal.TooManyCoupled t.name t.other n)
      → ((n : ℕ) → failed {T = T} x ≡ failed {T = T} (couple_error.TooManyCoupled n) → (n ≡ sum) × (24 < n)) → FindsCouple (AfterForms t.after t.count (formed_in t f)) (step.Refused r)
  coupling-error (couple_error.TooManyCoupled n) r told many =
      let P : Refusal → Type 0 = λ z. FindsCouple (AfterForms t.after t.count (formed_in t f)) (step.Refused z) in
      subst P (sym (told n refl)) (coupling-refused n (many n refl))

-- ---- the two irreps

pub pair-next : {E : Type 0} (p : ChosenPair) (f : FormPair) (t : Together) (after : ℕ) (count : Option ℕ) (r : Result (Step FoundCouple) E) → t.after ≡ after → t.count ≡ count → formed_in t f ≡ formed_pair p f
    → AreFormed p (formed_pair p f) → IfOk r (FindsCouple (AfterForms t.after t.count (formed_in t f))) → IfOk r (FindsCouple (AfterPair after count p))
pair-next p f t after count r a n e passed h =
    let P : ℕ → Option ℕ → FormedPair → Type 0 = λ i j x. IfOk r (FindsCouple (AfterForms i j x)) in
    found-next couple_of IsCoupleHeld RefusesForms AreWideForms AreFormed (AfterForms after count) p (formed_pair p f) passed r
    (subst (λ x. P after count x) e (subst (λ j. P after j (formed_in t f)) n (subst (λ i. P i t.count (formed_in t f)) a h)))
