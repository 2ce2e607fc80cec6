-- What is found for a direction is one.
use Rattle.std.proofs.Common.{◌≡◌, refl, sym, ap, ◌∙◌, subst, inl, inr, ℕ, ◌<◌, List, [], ◌∷◌, length, get_or, Option, slice_get, arith}
use Rattle.std.specs.List.{All}
use Rattle.std.proofs.lemmas.Option.{get_or_from_slice_get, same_Some, slice_get_within}
use Rattle.std.proofs.lemmas.List.{get_or_default}
use Rattle.algebra.specs.NumberedGroup.{Group}
use Rattle.algebra.specs.RisingLists.{IsRisingListOf}
use Rattle.cyclo24.specs.ExactK24.{Exact24, k24_laws}
use Rattle.iso_text.specs.declared.sections.AtomText.{AtomText}
use Rattle.iso_text.specs.declared.sections.IrrepText.{IrrepText}
use Rattle.class_list.specs.Directions.{Direction}
use Rattle.space_ops.specs.Op.{vector_of}
use Rattle.super_group.specs.Quotient.{SupercellGroup, IsQuotient, order_of, quotient_group}
use Rattle.wyckoff.specs.AtomLines.{AreOrbitsOf}
use Rattle.wyckoff.specs.Orbit.{OrbitView, IsOrbitOf}
use Rattle.wyckoff.specs.OrbitLaws.{places-unique}
use Rattle.mode_project.specs.AtomSpace.{AtomSpace, displacements}
use Rattle.mode_project.specs.DirectionModes.{AreModesOf}
use Rattle.mode_project.specs.OneBasis.{AreAlike}
use Rattle.list_report.specs.Choice.{RefusesChoice, IsChosen}
use Rattle.list_report.specs.Closing.{RefusesSubspaces, AreWideSubspaces, AreFew, RefusesNone, AreWideClasses, IsListed}
use Rattle.list_report.specs.Contexts.{Chosen, Formed, Listed}
use Rattle.list_report.specs.RealForms.{RefusesForm, IsWideFormOf, IsFormed}
use Rattle.list_report.specs.TwinLaws.{AreTwins}
use Rattle.report_steps.specs.Contexts.{Divided}
use Rattle.report_steps.specs.EachLaws.{each-through, each-same}
use Rattle.report_steps.specs.IrrepSteps.{Each}
use Rattle.report_steps.specs.StepLaws.{IsSingleAt, FindsOneAt, After-single-at, IsSingleFor, FindsOneFor, After-single-for}
use Rattle.report_steps.specs.Steps.{never}
use Rattle.report_steps.specs.declared.refusal.Refusal.{Refusal}
use Rattle.mode_report.specs.Atoms.{RefusesAtoms}
use Rattle.mode_report.specs.DirectionFound.{AreWideAllAlong, AreToldAlong, IsReportedAlong, AfterDirection, AfterClasses, AfterSubspaces, AfterForm, AfterChoice, IsFoundAlong}
use Rattle.mode_report.specs.DirectionModes.{RefusesDirection, IsDirection, AreRowsAlong, named_rows, IsToldAlong}
use Rattle.mode_report.specs.IrrepWeights.{AreWeightsOf}
use Rattle.mode_report.specs.Told.{OrbitModes, count_text}
use Rattle.mode_report.proofs.CauseLemmas.{refused-one, none-refused}
use Rattle.mode_report.specs.OneWeightLaws.{InduceOne, HaveOneOrbit, weights-one}
use Rattle.mode_report.proofs.UniqueLemmas.{orbits-each}

-- the law of the modes of an irrep that elements leave
abbrev pub HaveOneForm : Type 0
HaveOneForm =
    (s t : AtomSpace) (w : ℕ → Exact24) (h : List ℕ) (rs ts : List (ℕ × (ℕ → Exact24))) → AreAlike s t → All (λ q. q < s.group.order) h → AreModesOf k24_laws s w h rs → AreModesOf k24_laws t w h ts → rs ≡ ts

members-below : (n : ℕ) (P : ℕ → Type 0) (hs : List ℕ) → IsRisingListOf n P hs → All (λ q. q < n) hs
members-below n P hs h k d l = subst (λ (q : ℕ). q < n) (sym (get_or_default hs k d 0 l)) (h.below k l)

-- ---- what is told

rows-one : HaveOneForm → (s t : AtomSpace) (h : List ℕ) → AreAlike s t → All (λ q. q < s.group.order) h → (ws : List (ℕ → Exact24)) (xs ys : List (List (ℕ × (ℕ → Exact24)))) → AreRowsAlong s ws h xs
    → AreRowsAlong t ws h ys → xs ≡ ys
rows-one form s t h a b [] [] [] x y = refl
rows-one form s t h a b [] [] (r ∷ ys) x y = absurd y
rows-one form s t h a b [] (r ∷ xs) ys x y = absurd x
rows-one form s t h a b (w ∷ ws) [] ys x y = absurd x
rows-one form s t h a b (w ∷ ws) (r ∷ xs) [] x y = absurd y
rows-one form s t h a b (w ∷ ws) (r ∷ xs) (u ∷ ys) x y = λ i. form s t w h r u a b x.0 y.0 i ∷ rows-one form s t h a b ws xs ys x.1 y.1 i

module _ (q : SupercellGroup) (alike : HaveOneOrbit q) (form : HaveOneForm) (irreps : List IrrepText) (ws : List (ℕ → Exact24)) (h : List ℕ) (below : All (λ e. e < order_of q) h) where
  -- what is told of the orbit of an atom
  abbrev IsToldFor : AtomText → OrbitModes → Type 0
  IsToldFor atom told = (o : OrbitView) × IsOrbitOf q atom o × IsToldAlong q irreps ws h o told

  told-one : (atom : AtomText) (x y : OrbitModes) → IsToldFor atom x → IsToldFor atom y → x ≡ y
  told-one atom x y (o, g, a) (u, k, b) =
      let rows = rows-one form (displacements q o) (displacements q u) h (alike atom o u g k) below ws a.rows b.rows a.along b.along in
      let label : x.label ≡ y.label = a.label_is ∙ g.label ∙ sym k.label ∙ sym b.label_is in
      let places : x.places ≡ y.places = a.places_are ∙ places-unique q (vector_of atom.place) o.places u.places g.places k.places ∙ sym b.places_are in
      let modes : x.modes ≡ y.modes = a.modes_are ∙ ap (named_rows irreps) rows ∙ sym b.modes_are in
      let counts : x.counts ≡ y.counts = a.counts_are ∙ (λ i. count_text (length (modes i))) ∙ sym b.counts_are in
      λ i. record { label = label i; places = places i; counts = counts i; modes = modes i }

  told-for : (atoms : List AtomText) (orbits : List OrbitView) (told : List OrbitModes) → AreOrbitsOf q atoms orbits → Each (IsToldAlong q irreps ws h) orbits told → Each IsToldFor atoms told
  told-for atoms orbits told g k = each-through (IsOrbitOf q) (IsToldAlong q irreps ws h) atoms orbits told (orbits-each q atoms orbits g.count g.each) k

  all-one : (atoms : List AtomText) (os us : List OrbitView) (x y : List OrbitModes) → AreOrbitsOf q atoms os → AreOrbitsOf q atoms us → Each (IsToldAlong q irreps ws h) os x → Each (IsToldAlong q irreps ws h) us y → x ≡ y
  all-one atoms os us x y g k a b = each-same IsToldFor atoms x y told-one (told-for atoms os x g a) (told-for atoms us y k b)

module _ (d : Divided) (one : InduceOne d.quotient) (alike : HaveOneOrbit d.quotient) (form : HaveOneForm) where
  module _ (h : List ℕ) (below : All (λ e. e < order_of d.quotient) h) where
    told-same : (x y : List OrbitModes) → AreToldAlong h d x → AreToldAlong h d y → x ≡ y
    told-same x y (p, g, (ws, w, a)) (u, k, (vs, v, b)) =
        let q = d.quotient in
        let irreps = d.file.irreps in
        let W : List (ℕ → Exact24) → Divided → Type 0 = λ s e. AreWeightsOf e.quotient e.file.irreps s in
        let T : List (ℕ → Exact24) → List OrbitView → List OrbitModes → Divided → Type 0 = λ s os t e. Each (IsToldAlong e.quotient e.file.irreps s h) os t in
        let e : vs ≡ ws = weights-one q one irreps vs ws (subst (W vs) k.divided_is v) (subst (W ws) g.divided_is w) in
        let other = subst (T vs u.orbits y) k.divided_is b in
        let V : List (ℕ → Exact24) → Type 0 = λ s. T s u.orbits y d in
        all-one q alike form irreps ws h below d.file.atoms p.orbits u.orbits x y g.orbits k.orbits (subst (T ws p.orbits x) g.divided_is a) (subst V e other)

    told-single : IsSingleAt RefusesAtoms (AreToldAlong h) d
    told-single = record { refusal = refused-one d; value = told-same; apart = λ r told f (p, g, t). none-refused d r g.accepted f }

    direction-one : (name : List ℕ) (number : ℕ) → FindsOneAt (AfterDirection d name number) h
    direction-one name number = After-single-at RefusesAtoms (AreWideAllAlong h) (AreToldAlong h) (IsReportedAlong d.file.format name number) d told-single (λ told p f g e k u v. e ∙ sym k)

  -- ---- the direction

  abbrev HaveMembers : Listed → Type 0
  HaveMembers l = All (λ (x : Direction Exact24). All (λ e. e < order_of d.quotient) x.stabiliser) l.directions

  stabiliser-one : (number : ℕ) (l : Listed) (h k : List ℕ) → IsDirection number l h → IsDirection number l k → h ≡ k
  stabiliser-one number l h k (i, x, a, b, c) (j, y, m, n, o) =
      let s : i ≡ j = omega arith in
      c ∙ ap (λ (z : Direction Exact24). z.stabiliser) (same_Some x y (sym b ∙ ap (slice_get l.directions) s ∙ n)) ∙ sym o

  stabiliser-apart : (number : ℕ) (l : Listed) (r : Refusal) (h : List ℕ) → RefusesDirection number l r → IsDirection number l h → ⊥
  stabiliser-apart number l r h (inl z, e) (i, x, a, b, c) = absurd (omega arith)
  stabiliser-apart number l r h (inr z, e) (i, x, a, b, c) = let w = slice_get_within l.directions i x b in absurd (omega (arith, w, z, a))

  stabiliser-single : (number : ℕ) (l : Listed) → IsSingleAt (RefusesDirection number) (IsDirection number) l
  stabiliser-single number l = record { refusal = λ r s p q. p.1 ∙ sym q.1; value = stabiliser-one number l; apart = stabiliser-apart number l }

  members-of : (number : ℕ) (l : Listed) (h : List ℕ) → HaveMembers l → IsDirection number l h → All (λ e. e < order_of d.quotient) h
  members-of number l h all (i, x, a, b, c) =
      let P : Direction Exact24 → Type 0 = λ z. All (λ e. e < order_of d.quotient) z.stabiliser in
      let Q : List ℕ → Type 0 = λ z. All (λ e. e < order_of d.quotient) z in
      subst Q (sym c) (subst P (get_or_from_slice_get l.directions i x x b) (all i x (slice_get_within l.directions i x b)))

  classes-one : (number : ℕ) (l : Listed) → HaveMembers l → FindsOneAt (AfterClasses d number) l
  classes-one number l all =
      After-single-at (RefusesDirection number) never (IsDirection number) (AfterDirection d l.name number) l (stabiliser-single number l) (λ h p. direction-one h (members-of number l h all p) l.name number)

  -- ---- the listing and the real form

  module _ (single : (x y : Formed) → AreTwins x y → IsSingleFor RefusesSubspaces AreFew x y) (listed : (x y : Formed) → AreTwins x y → (l m : Listed) → IsListed x l → IsListed y m → l ≡ m) where
    module _ (number : ℕ) (x y : Formed) (w : AreTwins x y) (g : y.act.group ≡ quotient_group d.quotient) where
      listing-one : FindsOneFor (AfterSubspaces d number) x y
      listing-one =
          After-single-for RefusesNone AreWideClasses IsListed (AfterClasses d number) x y (record { refusal = λ r s p q. absurd p; first = λ r c p q. absurd p; second = λ r c p q. absurd q })
          (λ l m a b.
          let P : Listed → Type 0 = λ z. FindsOneFor (AfterClasses d number) z m in
          subst P (sym (listed x y w l m a b)) (classes-one number m (listed-members y m b g)))
        where
          listed-members : (z : Formed) (m : Listed) → IsListed z m → z.act.group ≡ quotient_group d.quotient → HaveMembers m
          listed-members z m b e k v l =
              let i = (b.listing.directions k v l).isotropy in
              let P : Group → Type 0 = λ s. All (λ q. q < s.order) (get_or m.directions k v).stabiliser in
              subst P e (members-below z.act.group.order _ (get_or m.directions k v).stabiliser i.1)

      form-one : FindsOneFor (AfterForm d number) x y
      form-one =
          After-single-for RefusesSubspaces AreWideSubspaces AreFew (AfterSubspaces d number) x y (single x y w)
          (λ c e p q.
          let P : Formed → Type 0 = λ z. FindsOneFor (AfterSubspaces d number) z e in
          let Q : Formed → Type 0 = λ z. FindsOneFor (AfterSubspaces d number) x z in
          subst P (sym p.1) (subst Q (sym q.1) listing-one))

    module _ (forms : (c : Chosen) → IsQuotient c.quotient → IsSingleFor RefusesForm IsFormed c c) (twins : (c : Chosen) → IsQuotient c.quotient → (x y : Formed) → IsFormed c x → IsFormed c y → AreTwins x y) where
      choice-one : (number : ℕ) (c : Chosen) → c.quotient ≡ d.quotient → IsQuotient c.quotient → FindsOneAt (AfterChoice d number) c
      choice-one number c e h =
          After-single-for RefusesForm IsWideFormOf IsFormed (AfterForm d number) c c (forms c h)
          (λ x y a b. form-one number x y (twins c h x y a b) (b.form.group ∙ ap quotient_group e))

      pub along-one : ((wanted : Option (List ℕ)) (e : Divided) → IsSingleAt (RefusesChoice wanted) (IsChosen wanted) e) → IsQuotient d.quotient → (wanted : Option (List ℕ)) (number : ℕ)
          → FindsOneAt (IsFoundAlong wanted number) d
      along-one choice h wanted number =
          After-single-at (RefusesChoice wanted) never (IsChosen wanted) (AfterChoice d number) d (choice wanted d)
          (λ c w.
          let e = ap (λ (x : Chosen). x.quotient) w.1 in
          choice-one number c e (subst IsQuotient (sym e) h))
