-- What `list` finds behind the steps that all jobs share is one.
use Rattle.std.proofs.Common.{◌≡◌, refl, sym, ap, ◌∙◌, subst, ℕ, ◌<◌, List, length, Option}
use Rattle.algebra.specs.NumberedGroup.{Group}
use Rattle.cyclo24.specs.ExactK24.{Exact24, k24, k24_laws}
use Rattle.cyclo24.specs.ExactZ24.{ExactZ24}
use Rattle.iso_text.specs.declared.sections.VectorText.{VectorText}
use Rattle.iso_text.specs.declared.sections.IrrepText.{IrrepText}
use Rattle.lin_alg.specs.Action.{Action, IsAction, entry_of}
use Rattle.kstar.specs.Star.{WaveStar}
use Rattle.super_group.specs.Quotient.{SupercellGroup, IsQuotient, order_of}
use Rattle.small_rep.specs.SmallRep.{Matrices}
use Rattle.induce.specs.declared.kinds.Kind.{Kind}
use Rattle.induce.specs.declared.kinds.Kind.TheVariants.{Real}
use Rattle.class_list.specs.declared.order.Order.{Order}
use Rattle.class_list.specs.Directions.{Direction, IsListing}
use Rattle.real_form.specs.Complexes.{z24_parts}
use Rattle.real_form.specs.Parts.{orbit}
use Rattle.report_steps.specs.declared.refusal.Refusal.{Refusal}
use Rattle.report_steps.specs.declared.refusal.Refusal.TheVariants as refusal
use Rattle.report_steps.specs.InducedLaws.{InduceTheSame}
use Rattle.report_steps.specs.Irreps.{IsRepresented}
use Rattle.list_report.specs.Choice.{RefusesChoice, IsChosen}
use Rattle.list_report.specs.Closing.{limit_of, order_by, RefusesSubspaces, AreWideSubspaces, AreFew, RefusesNone, AreWideClasses, IsListed}
use Rattle.report_steps.specs.Contexts.{Divided}
use Rattle.list_report.specs.Contexts.{Chosen, Formed, Listed}
use Rattle.report_steps.specs.Finding.{Finding}
use Rattle.list_report.specs.Listings.{IsReported, AfterClosing, AfterForm, AfterChoice, IsListedThen, IsListFound}
use Rattle.list_report.specs.RealForms.{IsOfKind, matrices_by, dimension_by, IsRealForm, RefusesForm, IsWideFormOf, IsFormed}
use Rattle.report_steps.specs.StepLaws.{FindsOneAt, After-single-at, IsSingleFor, FindsOneFor, After-single-for}
use Rattle.report_steps.specs.Steps.{never}
use Rattle.fix_lattice.specs.Lattice.{AreMoreFixes}
use Rattle.lin_alg.specs.Reduced.{IsReduced}
use Rattle.list_report.specs.TwinLaws.{AreAlike, AreTwins}
use Rattle.list_report.proofs.ActionLemmas.{alike-sym, listing-to, more-to}
use Rattle.list_report.proofs.ChoiceLemmas.{choice-single}
use Rattle.list_report.proofs.RealFormLemmas.{orbit-same, BasisBy, NoneBy, MatricesBy, basis-by, basis-one, basis-none, basis-reduced, matrices-one}

-- what is found of a listing is one
abbrev pub FindsOneEach : (Listed → Finding → Type 0) → Type 0
FindsOneEach next = (l : Listed) → FindsOneAt next l

-- each action has one listing
abbrev pub ListingsAreUnique : Type 0
ListingsAreUnique =
    (act : Action) → IsAction k24_laws act → (o : Order) (ds es : List (Direction Exact24)) → IsListing k24_laws k24.cmp act o ds → IsListing k24_laws k24.cmp act o es → ds ≡ es

-- what an irrep induces is one
abbrev pub IrrepsInduceOne : Type 0
IrrepsInduceOne =
    (q : SupercellGroup) → IsQuotient q → (i : IrrepText) (s t : WaveStar) (g m : Matrices) → IsRepresented q.parent i s g → IsRepresented q.parent i t m → InduceTheSame q i s t g m

-- ---- the classes and the fixed subspaces, of real forms that agree

abbrev listed : ℕ → SupercellGroup → List ℕ → ℕ → List (Direction Exact24) → Listed
listed format quotient name dim directions = record { format = format; quotient = quotient; name = name; dim = dim; directions = directions }

module _ (listings : ListingsAreUnique) (x y : Formed) (w : AreTwins x y) where
  directions-one : (l m : Listed) → IsListed x l → IsListed y m → l.directions ≡ m.directions
  directions-one l m a b =
      listings y.act w.lawful (order_by y.format) l.directions m.directions
      (subst (λ (o : Order). IsListing k24_laws k24.cmp y.act o l.directions) (ap order_by w.format) (listing-to k24 x.act y.act w.act (order_by x.format) l.directions a.listing)) b.listing

  pub listed-one : (l m : Listed) → IsListed x l → IsListed y m → l ≡ m
  listed-one l m a b =
      let format = a.format_is ∙ w.format ∙ sym b.format_is in
      let quotient = a.quotient_is ∙ w.quotient ∙ sym b.quotient_is in
      let name = a.name_is ∙ w.name ∙ sym b.name_is in
      let dim = a.dim ∙ w.act.dim ∙ sym b.dim in
      let ds = directions-one l m a b in
      (λ t. listed (format t) (quotient t) (name t) (dim t) (ds t))

  classes-one : (next : Listed → Finding → Type 0) → FindsOneEach next → FindsOneFor (AfterClosing next) x y
  classes-one next one =
      After-single-for RefusesNone AreWideClasses IsListed next x y (record { refusal = λ r s p q. absurd p; first = λ r c p q. absurd p; second = λ r c p q. absurd q })
      (λ l m a b f g e h u v. let P : Listed → Type 0 = λ z. next z f in one m f g (subst P (listed-one l m a b) e) h u v)

abbrev AreMore : Formed → ℕ → Type 0
AreMore z n = AreMoreFixes k24_laws z.act n

module _ (x y : Formed) (w : AreTwins x y) where
  pub closing-single : IsSingleFor RefusesSubspaces AreFew x y
  closing-single = record {
    refusal = λ r s p q. p.1 ∙ (λ t. refusal.TooManySubspaces (w.name t) (limit_of (w.format t))) ∙ sym q.1;
    first = λ r c p q. q.0 (subst (λ n. AreMore y n) (ap limit_of w.format) (more-to k24 x.act y.act w.act (limit_of x.format) p.0));
    second = λ r c p q. p.0 (subst (λ n. AreMore x n) (sym (ap limit_of w.format)) (more-to k24 y.act x.act (alike-sym k24 x.act y.act w.act) (limit_of y.format) q.0));
  }

  closing-one : ListingsAreUnique → (next : Listed → Finding → Type 0) → FindsOneEach next → FindsOneFor (AfterForm next) x y
  closing-one listings next one =
      After-single-for RefusesSubspaces AreWideSubspaces AreFew (AfterClosing next) x y closing-single
      (λ c d p q.
      let P : Formed → Type 0 = λ z. FindsOneFor (AfterClosing next) z d in
      let Q : Formed → Type 0 = λ z. FindsOneFor (AfterClosing next) x z in
      subst P (sym p.1) (subst Q (sym q.1) (classes-one listings x y w next one)))

-- ---- the real form

module _ (one : IrrepsInduceOne) (c : Chosen) (h : IsQuotient c.quotient) where
  abbrev q : SupercellGroup
  q = c.quotient

  abbrev i : IrrepText
  i = c.irrep

  abbrev m : ℕ
  m = order_of q

  abbrev given : Option VectorText
  given = i.vector

  abbrev Orbits : Type 0
  Orbits = (ℕ → ExactZ24) → ℕ → ℕ → Exact24

  abbrev Rows : Type 0
  Rows = List (ℕ × (ℕ → Exact24))

  -- the orbits under what an irrep induces
  abbrev orbits : WaveStar → Matrices → Orbits
  orbits s g = orbit z24_parts (dimension_by c s) (matrices_by c s g)

  module _ (s t : WaveStar) (g k : Matrices) (a b : Kind) (x : IsOfKind c s g a) (y : IsOfKind c t k b) where
    abbrev alike : InduceTheSame q i s t g k
    alike = one q h i s t g k x.inducible.rep y.inducible.rep

    same-kind : a ≡ b
    same-kind = alike.kind a b x.kind_is y.kind_is

    same-dimension : dimension_by c s ≡ dimension_by c t
    same-dimension = alike.dimension

    same-orbits : orbits s g ≡ orbits t k
    same-orbits =
        orbit-same z24_parts (dimension_by c s) (matrices_by c s g) (matrices_by c t k) (λ e u v lu lv. alike.entry e u v lu lv)
        ∙ ap (λ n. orbit z24_parts n (matrices_by c t k)) same-dimension

    basis-moved : (rs : Rows) → BasisBy a given m (dimension_by c s) (orbits s g) rs → BasisBy b given m (dimension_by c t) (orbits t k) rs
    basis-moved rs z =
        let P : Kind → Type 0 = λ e. BasisBy e given m (dimension_by c s) (orbits s g) rs in
        let Q : ℕ → Type 0 = λ n. BasisBy b given m n (orbits s g) rs in
        let R : Orbits → Type 0 = λ o. BasisBy b given m (dimension_by c t) o rs in
        subst R same-orbits (subst Q same-dimension (subst P same-kind z))

    none-moved : NoneBy given m (dimension_by c s) (orbits s g) → NoneBy given m (dimension_by c t) (orbits t k)
    none-moved z =
        let Q : ℕ → Type 0 = λ n. NoneBy given m n (orbits s g) in
        let R : Orbits → Type 0 = λ o. NoneBy given m (dimension_by c t) o in
        subst R same-orbits (subst Q same-dimension z)

    matrices-moved : (rs : Rows) (A : ℕ → ℕ → ℕ → Exact24) → MatricesBy m (dimension_by c s) (orbits s g) rs A → MatricesBy m (dimension_by c t) (orbits t k) rs A
    matrices-moved rs A z =
        let Q : ℕ → Type 0 = λ n. MatricesBy m n (orbits s g) rs A in
        let R : Orbits → Type 0 = λ o. MatricesBy m (dimension_by c t) o rs A in
        subst R same-orbits (subst Q same-dimension z)

    -- one has no real basis, and the other has
    none-real : (rs : Rows) → a ≡ Real → NoneBy given m (dimension_by c s) (orbits s g) → BasisBy b given m (dimension_by c t) (orbits t k) rs → ⊥
    none-real rs e z l =
        let P : Kind → Type 0 = λ d. BasisBy d given m (dimension_by c t) (orbits t k) rs in
        basis-none given m (dimension_by c t) (orbits t k) rs (subst P (sym same-kind ∙ e) l) (none-moved z)

  module _ (x y : Formed) (a : IsFormed c x) (b : IsFormed c y) where
    abbrev u : IsRealForm c x a.star a.small a.kind a.rows
    u = a.form

    abbrev v : IsRealForm c y b.star b.small b.kind b.rows
    v = b.form

    same-rows : a.rows ≡ b.rows
    same-rows =
        basis-one b.kind given m (dimension_by c b.star) (orbits b.star b.small) a.rows b.rows
        (basis-moved a.star b.star a.small b.small a.kind b.kind u.of_kind v.of_kind a.rows (basis-by a.kind given m (dimension_by c a.star) (matrices_by c a.star a.small) a.rows u.basis))
        (basis-by b.kind given m (dimension_by c b.star) (matrices_by c b.star b.small) b.rows v.basis)

    reduced : IsReduced k24_laws b.rows
    reduced =
        basis-reduced b.kind given m (dimension_by c b.star) (orbits b.star b.small) b.rows
        (basis-by b.kind given m (dimension_by c b.star) (matrices_by c b.star b.small) b.rows v.basis)

    first-matrices : MatricesBy m (dimension_by c b.star) (orbits b.star b.small) b.rows (entry_of k24_laws x.act)
    first-matrices =
        let P : Rows → Type 0 = λ rs. MatricesBy m (dimension_by c b.star) (orbits b.star b.small) rs (entry_of k24_laws x.act) in
        subst P same-rows (matrices-moved a.star b.star a.small b.small a.kind b.kind u.of_kind v.of_kind a.rows (entry_of k24_laws x.act) u.matrices)

    order-below : (e : ℕ) → e < x.act.group.order → e < m
    order-below e l = subst (λ (n : ℕ). e < n) (ap (λ (z : Group). z.order) u.group) l

    place-below : (e : ℕ) → e < x.act.dim → e < length b.rows
    place-below e l = subst (λ (n : ℕ). e < n) (u.dim ∙ ap (λ (rs : Rows). length rs) same-rows) l

    formed-alike : AreAlike k24 x.act y.act
    formed-alike = record {
      group = u.group ∙ sym v.group;
      dim = u.dim ∙ ap (λ (rs : Rows). length rs) same-rows ∙ sym v.dim;
      entries = λ e r s le lr ls.
          matrices-one m (dimension_by c b.star) (orbits b.star b.small) b.rows reduced (entry_of k24_laws x.act) (entry_of k24_laws y.act) first-matrices v.matrices
          e r s (order-below e le) (place-below r lr) (place-below s ls);
      lawful = u.lawful.group;
    }

    pub formed-twins : AreTwins x y
    formed-twins = record {
      format = a.format_is ∙ sym b.format_is;
      quotient = a.quotient_is ∙ sym b.quotient_is;
      name = a.name_is ∙ sym b.name_is;
      act = formed-alike;
      lawful = v.lawful;
    }

  refused-formed : (r : Refusal) (x : Formed) → RefusesForm c r → IsFormed c x → ⊥
  refused-formed r x (s, g, o, none, e) a =
      none-real s a.star g a.small Real a.kind o a.form.of_kind a.rows refl none
      (basis-by a.kind given m (dimension_by c a.star) (matrices_by c a.star a.small) a.rows a.form.basis)

  pub form-single : IsSingleFor RefusesForm IsFormed c c
  form-single = record {
    refusal = λ r s (_, _, _, _, e) (_, _, _, _, f). e ∙ sym f;
    first = λ r x p a. refused-formed r x p a;
    second = λ r x a p. refused-formed r x p a;
  }

  choice-found : ListingsAreUnique → (next : Listed → Finding → Type 0) → FindsOneEach next → FindsOneAt (AfterChoice next) c
  choice-found listings next one =
      After-single-for RefusesForm IsWideFormOf IsFormed (AfterForm next) c c form-single (λ x y a b. closing-one x y (formed-twins x y a b) listings next one)

-- what is found of one listing alone is one
pub listed-then : IrrepsInduceOne → ListingsAreUnique → (d : Divided) → IsQuotient d.quotient → (wanted : Option (List ℕ)) (next : Listed → Finding → Type 0) → FindsOneEach next → FindsOneAt (IsListedThen wanted next) d
listed-then one listings d h wanted next each =
    After-single-at (RefusesChoice wanted) never (IsChosen wanted) (AfterChoice next) d (choice-single wanted d)
    (λ c w. choice-found one c (subst IsQuotient (sym (ap (λ (x : Chosen). x.quotient) w.1)) h) listings next each)

pub list-found : IrrepsInduceOne → ListingsAreUnique → (d : Divided) → IsQuotient d.quotient → (wanted : Option (List ℕ)) (after : ℕ) (count : Option ℕ) → FindsOneAt (IsListFound wanted after count) d
list-found one listings d h wanted after count = listed-then one listings d h wanted (IsReported after count) (λ l f g e k u v. e ∙ sym k)
