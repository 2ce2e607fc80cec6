-- What `couple` finds is one.
use Rattle.std.proofs.Common.{◌≡◌, refl, sym, ap, ◌∙◌, subst, ℕ, ◌+◌, ◌-◌, ◌<◌, ◌≤◌, ℤ, Bool, true, false, List, length, Option, arith, ltb, if◌then◌else◌}
use Rattle.std.proofs.lemmas.Bool.{ltb-true, ltb-false}
use Rattle.cyclo24.specs.ExactField.{ExactField, Value}
use Rattle.cyclo24.specs.ExactK24.{k24, k24_laws}
use Rattle.lin_alg.specs.Action.{Action, IsAction, entry_of, lift}
use Rattle.super_group.specs.Quotient.{SupercellGroup, IsQuotient, quotient_group, generators_of}
use Rattle.real_form.specs.Held.{generator_of}
use Rattle.couple.specs.Coupled.{IsOneGroup, coupled}
use Rattle.report_steps.specs.Contexts.{Divided}
use Rattle.report_steps.specs.Finding.{report}
use Rattle.report_steps.specs.StepLaws.{FindsOneAt, FindsOneFor, After-single-at, After-single-for, IsSingleFor}
use Rattle.report_steps.specs.Steps.{never}
use Rattle.report_steps.specs.declared.refusal.Refusal.TheVariants as refusal
use Rattle.list_report.specs.Closing.{limit_of, RefusesSubspaces, AreFew, IsListed}
use Rattle.list_report.specs.Contexts.{Chosen, Formed, Listed}
use Rattle.list_report.specs.RealForms.{RefusesForm, IsFormed}
use Rattle.list_report.specs.TwinLaws.{AreAlike, AreTwins}
use Rattle.couple_report.specs.CoupleFound.{CoupledForm, coupled_of, RefusesCoupling, AreCoupled, RefusesCoupledSubspaces, AreWideCoupledSubspaces, AreFewCoupled, RefusesNone, AreWideCoupledClasses, CoupledListing, IsCoupledListing, IsCoupleReported, AfterCoupledClosing, AfterCoupling, AfterForms, AfterPair, IsCoupleFound}
use Rattle.couple_report.specs.CoupleReport.{couple_text}
use Rattle.couple_report.specs.Pairs.{ChosenPair, FormedPair, RefusesPair, ArePair, RefusesForms, AreWideForms, AreFormed}
use Rattle.couple_report.proofs.PairUniqueLemmas.{ChoicesAreSingle, pair-single, forms-single}

-- ---- matrices of two blocks that agree

module _ (f : ExactField) where
  abbrev Entries : Type 0
  Entries = ℕ → ℕ → Value f

  -- the matrix with these blocks
  abbrev blocks : ℕ → Entries → Entries → ℕ → ℕ → Value f
  blocks n a b i j =
      if ltb i n then (if ltb j n then a i j else lift f.laws f.laws.nought.0) else (if ltb j n then lift f.laws f.laws.nought.0 else b (i - n) (j - n))

  abbrev z : Value f
  z = lift f.laws f.laws.nought.0

  lift-block : (x y : Bool) (s t : List ℤ)
      → lift f.laws (if x then (if y then s else f.laws.nought.0) else (if y then f.laws.nought.0 else t))
      ≡ (if x then (if y then lift f.laws s else lift f.laws f.laws.nought.0) else (if y then lift f.laws f.laws.nought.0 else lift f.laws t))
  lift-block true true s t = refl
  lift-block true false s t = refl
  lift-block false true s t = refl
  lift-block false false s t = refl

  entry-blocks : (a b : Action) (q i j : ℕ) → entry_of f.laws (coupled f.laws a b) q i j ≡ blocks a.dim (entry_of f.laws a q) (entry_of f.laws b q) i j
  entry-blocks a b q i j = lift-block (ltb i a.dim) (ltb j a.dim) (a.entry q i j) (b.entry q (i - a.dim) (j - a.dim))

  blocks-same : (n m : ℕ) (a b c d : Entries) (i j : ℕ) → i < n + m → j < n + m → ((k l : ℕ) → k < n → l < n → a k l ≡ c k l) → ((k l : ℕ) → k < m → l < m → b k l ≡ d k l) → blocks n a b i j ≡ blocks n c d i j
  blocks-same n m a b c d i j li lj first second = by_tests (ltb i n) (ltb j n) refl refl
    where
      by_tests : (x y : Bool) → ltb i n ≡ x → ltb j n ≡ y
          → (if x then (if y then a i j else z) else (if y then z else b (i - n) (j - n))) ≡ (if x then (if y then c i j else z) else (if y then z else d (i - n) (j - n)))
      by_tests true true s t = first i j (ltb-true i n s) (ltb-true j n t)
      by_tests true false s t = refl
      by_tests false true s t = refl
      by_tests false false s t =
          let p = ltb-false i n s in
          let r = ltb-false j n t in
          let k : i - n < m = omega (arith, li, p) in
          let l : j - n < m = omega (arith, lj, r) in
          second (i - n) (j - n) k l

  module _ (a b c d : Action) (first : AreAlike f a c) (second : AreAlike f b d) (one : a.group.order ≡ b.group.order) where
    pub coupled-alike : AreAlike f (coupled f.laws a b) (coupled f.laws c d)
    coupled-alike = record {
      group = first.group;
      dim = λ t. first.dim t + second.dim t;
      entries = λ q i j lq li lj.
          entry-blocks a b q i j
          ∙ blocks-same a.dim b.dim (entry_of f.laws a q) (entry_of f.laws b q) (entry_of f.laws c q) (entry_of f.laws d q) i j li lj
          (λ k l lk ll. first.entries q k l lq lk ll) (λ k l lk ll. second.entries q k l (subst (λ (n : ℕ). q < n) one lq) lk ll)
          ∙ (λ t. blocks (first.dim t) (entry_of f.laws c q) (entry_of f.laws d q) i j)
          ∙ sym (entry-blocks c d q i j);
      lawful = first.lawful;
    }

-- ---- both as one, as a real form of one irrep

abbrev as_formed : CoupledForm → Formed
as_formed c = record { format = c.format; quotient = c.quotient; name = c.name; act = c.act }

abbrev as_listed : CoupledListing → Listed
as_listed l = record { format = l.form.format; quotient = l.form.quotient; name = l.form.name; dim = l.form.act.dim; directions = l.directions }

-- two such have one pair of irreps, and actions that are alike
record AreCoupledTwins (x y : CoupledForm) : Type 0 where
  pub twins : AreTwins (as_formed x) (as_formed y)
  pub other : x.other ≡ y.other
  pub dim : x.dim ≡ y.dim
  pub other_dim : x.other_dim ≡ y.other_dim

-- the laws of listings
abbrev pub SubspacesAreSingle : Type 0
SubspacesAreSingle = (x y : Formed) → AreTwins x y → IsSingleFor RefusesSubspaces AreFew x y

abbrev pub ListingsAreOne : Type 0
ListingsAreOne = (x y : Formed) → AreTwins x y → (l m : Listed) → IsListed x l → IsListed y m → l ≡ m

is-listed : (c : CoupledForm) (l : CoupledListing) → IsCoupledListing c l → IsListed (as_formed c) (as_listed l)
is-listed c l h = record {
  listing = h.0;
  dim = ap (λ (x : CoupledForm). x.act.dim) h.1;
  format_is = ap (λ (x : CoupledForm). x.format) h.1;
  quotient_is = ap (λ (x : CoupledForm). x.quotient) h.1;
  name_is = ap (λ (x : CoupledForm). x.name) h.1;
}

module _ (x y : CoupledForm) (w : AreCoupledTwins x y) where
  module _ (listings : ListingsAreOne) (after : ℕ) (count : Option ℕ) where
    abbrev text : CoupledForm → CoupledListing → List ℕ
    text z l = couple_text z.format z.name z.other z.quotient z.dim z.other_dim after count l.directions

    texts-one : (l m : CoupledListing) → IsCoupledListing x l → IsCoupledListing y m → text l.form l ≡ text m.form m
    texts-one l m a b =
        let ds = ap (λ (z : Listed). z.directions) (listings (as_formed x) (as_formed y) w.twins (as_listed l) (as_listed m) (is-listed x l a) (is-listed y m b)) in
        ap (λ (z : CoupledForm). text z l) a.1
        ∙ (λ t. couple_text (w.twins.format t) (w.twins.name t) (w.other t) (w.twins.quotient t) (w.dim t) (w.other_dim t) after count (ds t))
        ∙ ap (λ (z : CoupledForm). text z m) (sym b.1)

    classes-one : FindsOneFor (AfterCoupledClosing after count) x y
    classes-one =
        After-single-for RefusesNone AreWideCoupledClasses IsCoupledListing (IsCoupleReported after count) x y
        (record { refusal = λ r s p q. absurd p; first = λ r c p q. absurd p; second = λ r c p q. absurd q })
        (λ l m a b f g e h u v. e ∙ ap report (texts-one l m a b) ∙ sym h)

  subspaces-single : SubspacesAreSingle → IsSingleFor RefusesCoupledSubspaces AreFewCoupled x y
  subspaces-single single =
      let s = single (as_formed x) (as_formed y) w.twins in
      record {
        refusal = λ r t p q. p.1 ∙ (λ i. refusal.CoupledSubspaces (w.twins.name i) (w.other i) (limit_of (w.twins.format i))) ∙ sym q.1;
        first = λ r c p q. s.first (refusal.TooManySubspaces x.name (limit_of x.format)) (as_formed y) (p.0, refl) (q.0, refl);
        second = λ r c p q. s.second (refusal.TooManySubspaces y.name (limit_of y.format)) (as_formed x) (p.0, refl) (q.0, refl);
      }

  coupling-one : SubspacesAreSingle → ListingsAreOne → (after : ℕ) (count : Option ℕ) → FindsOneFor (AfterCoupling after count) x y
  coupling-one single listings after count =
      After-single-for RefusesCoupledSubspaces AreWideCoupledSubspaces AreFewCoupled (AfterCoupledClosing after count) x y (subspaces-single single)
      (λ c d p q.
      let P : CoupledForm → Type 0 = λ z. FindsOneFor (AfterCoupledClosing after count) z d in
      let Q : CoupledForm → Type 0 = λ z. FindsOneFor (AfterCoupledClosing after count) x z in
      subst P (sym p.1) (subst Q (sym q.1) (classes-one listings after count)))

-- ---- both real forms

abbrev pub PairsAct : Type 0
PairsAct = (a b : Action) → IsAction k24_laws a → IsAction k24_laws b → IsOneGroup a b → IsAction k24_laws (coupled k24_laws a b)

module _ (act : PairsAct) (x y : FormedPair) (left : AreTwins x.left y.left) (right : AreTwins x.right y.right) (first : IsOneGroup x.left.act x.right.act) (second : IsOneGroup y.left.act y.right.act) where
  coupled-twins : AreCoupledTwins (coupled_of x) (coupled_of y)
  coupled-twins = record {
    twins = record {
      format = left.format;
      quotient = left.quotient;
      name = left.name;
      act = coupled-alike k24 x.left.act x.right.act y.left.act y.right.act left.act right.act first.order;
      lawful = act y.left.act y.right.act left.lawful right.lawful second;
    };
    other = right.name;
    dim = left.act.dim;
    other_dim = right.act.dim;
  }

  sum-same : x.left.act.dim + x.right.act.dim ≡ y.left.act.dim + y.right.act.dim
  sum-same = λ t. left.act.dim t + right.act.dim t

  sums-single : IsSingleFor RefusesCoupling AreCoupled x y
  sums-single = record {
    refusal = λ r s p q. p.1 ∙ (λ t. refusal.TooManyCoupled (left.name t) (right.name t) (sum-same t)) ∙ sym q.1;
    first = λ r c p q. apart (x.left.act.dim + x.right.act.dim) (y.left.act.dim + y.right.act.dim) sum-same p.0 q.0;
    second = λ r c p q. apart (y.left.act.dim + y.right.act.dim) (x.left.act.dim + x.right.act.dim) (sym sum-same) q.0 p.0;
  }
    where
      apart : (n m : ℕ) → n ≡ m → 24 < n → m ≤ 24 → ⊥
      apart n m e p q = absurd (omega (arith, e, p, q))

  forms-one : SubspacesAreSingle → ListingsAreOne → (after : ℕ) (count : Option ℕ) → FindsOneFor (AfterForms after count) x y
  forms-one single listings after count =
      After-single-for RefusesCoupling never AreCoupled (AfterCoupling after count) x y sums-single
      (λ c d p q.
      let P : CoupledForm → Type 0 = λ z. FindsOneFor (AfterCoupling after count) z d in
      let Q : CoupledForm → Type 0 = λ z. FindsOneFor (AfterCoupling after count) (coupled_of x) z in
      subst P (sym p.1) (subst Q (sym q.1) (coupling-one (coupled_of x) (coupled_of y) coupled-twins single listings after count)))

-- ---- the two irreps

module _ (p : ChosenPair) (same : p.left.quotient ≡ p.right.quotient) (x : FormedPair) (h : AreFormed p x) where
  -- both real forms are of one quotient
  forms-group : IsOneGroup x.left.act x.right.act
  forms-group =
      let group = h.0.form.group ∙ ap quotient_group same ∙ sym h.1.form.group in
      record {
        order = ap (λ g. g.order) group;
        product = λ a b la lb. ap (λ g. g.product a b) group;
        inverse = λ a la. ap (λ g. g.inverse a) group;
        generators = h.0.form.generators ∙ ap (λ (s : SupercellGroup). length (generators_of s)) same ∙ sym h.1.form.generators;
        generator = λ i li. ap (λ k. k i) (h.0.form.generator ∙ ap generator_of same ∙ sym h.1.form.generator);
      }

module _ (act : PairsAct) (single : SubspacesAreSingle) (listings : ListingsAreOne) (forms : (c : Chosen) → IsQuotient c.quotient → IsSingleFor RefusesForm IsFormed c c)
    (twins : (c : Chosen) → IsQuotient c.quotient → (x y : Formed) → IsFormed c x → IsFormed c y → AreTwins x y) where
  pair-found-one : (p : ChosenPair) → IsQuotient p.left.quotient → IsQuotient p.right.quotient → p.left.quotient ≡ p.right.quotient → (after : ℕ) (count : Option ℕ) → FindsOneAt (AfterPair after count) p
  pair-found-one p hl hr same after count =
      After-single-for RefusesForms AreWideForms AreFormed (AfterForms after count) p p (forms-single p (forms p.left hl) (forms p.right hr))
      (λ x y a b.
      forms-one act x y (twins p.left hl x.left y.left a.0 b.0) (twins p.right hr x.right y.right a.1 b.1) (forms-group p same x a) (forms-group p same y b) single listings after count)

  pub couple-found-one : ChoicesAreSingle → (d : Divided) → IsQuotient d.quotient → (wanted : Option (List ℕ)) (other : List ℕ) (after : ℕ) (count : Option ℕ) → FindsOneAt (IsCoupleFound wanted other after count) d
  couple-found-one choice d h wanted other after count =
      After-single-at (RefusesPair wanted other) never (ArePair wanted other) (AfterPair after count) d (pair-single choice wanted other d)
      (λ p w.
      let l = ap (λ (c : Chosen). c.quotient) w.0.1 in
      let r = ap (λ (c : Chosen). c.quotient) w.1.1 in
      pair-found-one p (subst IsQuotient (sym l) h) (subst IsQuotient (sym r) h) (l ∙ sym r) after count)
