-- What is told of the orbits of a file is one.
use Rattle.std.proofs.Common.{◌≡◌, refl, sym, ◌∙◌, subst, ℕ, suc, List, [], ◌∷◌, length, Some, slice_get, arith}
use Rattle.cyclo24.specs.ExactK24.{Exact24}
use Rattle.iso_text.specs.declared.sections.AtomText.{AtomText}
use Rattle.iso_text.specs.declared.sections.IrrepText.{IrrepText}
use Rattle.space_ops.specs.Op.{vector_of}
use Rattle.super_group.specs.Quotient.{SupercellGroup}
use Rattle.wyckoff.specs.AtomLines.{AreOrbitsOf}
use Rattle.wyckoff.specs.Orbit.{OrbitView, IsOrbitOf}
use Rattle.wyckoff.specs.OrbitLaws.{places-unique}
use Rattle.mode_project.specs.AtomSpace.{AtomSpace}
use Rattle.report_steps.specs.Contexts.{Divided}
use Rattle.report_steps.specs.EachLaws.{each-same, each-through}
use Rattle.report_steps.specs.IrrepSteps.{Each}
use Rattle.report_steps.specs.StepLaws.{IsSingleAt}
use Rattle.mode_report.specs.AllModes.{IsToldBy, told_modes}
use Rattle.mode_report.specs.Atoms.{RefusesAtoms}
use Rattle.mode_report.specs.IrrepWeights.{AreWeightsOf}
use Rattle.mode_report.specs.ModesFound.{AreToldBy}
use Rattle.mode_report.specs.Told.{OrbitModes, counts_text}
use Rattle.mode_report.proofs.CauseLemmas.{refused-one, none-refused}
use Rattle.mode_report.specs.OneWeightLaws.{InduceOne, HaveOneSpace, HaveOneBasis, weights-one}

-- ---- lists

pub orbits-each : (q : SupercellGroup) (atoms : List AtomText) (orbits : List OrbitView) → length orbits ≡ length atoms
    → ((n : ℕ) (atom : AtomText) (o : OrbitView) → slice_get atoms n ≡ Some atom → slice_get orbits n ≡ Some o → IsOrbitOf q atom o) → Each (IsOrbitOf q) atoms orbits
orbits-each q [] [] e f = tt
orbits-each q [] (o ∷ orbits) e f = absurd (omega arith)
orbits-each q (a ∷ atoms) [] e f = absurd (omega arith)
orbits-each q (a ∷ atoms) (o ∷ orbits) e f = (f 0 a o refl refl, orbits-each q atoms orbits (omega arith) (λ n x y s t. f (suc n) x y s t))

-- ---- what is told

module _ (space : SupercellGroup → OrbitView → AtomSpace) (q : SupercellGroup) (alike : HaveOneSpace space q) (basis : HaveOneBasis) (irreps : List IrrepText) (ws : List (ℕ → Exact24)) where
  -- what is told of the orbit of an atom
  abbrev IsToldFor : AtomText → OrbitModes → Type 0
  IsToldFor atom told = (o : OrbitView) × IsOrbitOf q atom o × IsToldBy space q irreps ws o told

  told-one : (atom : AtomText) (x y : OrbitModes) → IsToldFor atom x → IsToldFor atom y → x ≡ y
  told-one atom x y (o, h, a) (u, k, b) =
      let m = basis (space q o) (space q u) ws a.rows b.rows a.sites b.sites (alike atom o u h k) a.modes b.modes in
      let label : x.label ≡ y.label = a.label_is ∙ h.label ∙ sym k.label ∙ sym b.label_is in
      let places : x.places ≡ y.places = a.places_are ∙ places-unique q (vector_of atom.place) o.places u.places h.places k.places ∙ sym b.places_are in
      let counts : x.counts ≡ y.counts = a.counts_are ∙ (λ i. counts_text (length (m.0 i)) (length (m.1 i))) ∙ sym b.counts_are in
      let modes : x.modes ≡ y.modes = a.modes_are ∙ (λ i. told_modes irreps (m.0 i) (m.1 i)) ∙ sym b.modes_are in
      λ i. record { label = label i; places = places i; counts = counts i; modes = modes i }

  told-for : (atoms : List AtomText) (orbits : List OrbitView) (told : List OrbitModes) → AreOrbitsOf q atoms orbits → Each (IsToldBy space q irreps ws) orbits told → Each IsToldFor atoms told
  told-for atoms orbits told h k = each-through (IsOrbitOf q) (IsToldBy space q irreps ws) atoms orbits told (orbits-each q atoms orbits h.count h.each) k

  all-one : (atoms : List AtomText) (os us : List OrbitView) (x y : List OrbitModes) → AreOrbitsOf q atoms os → AreOrbitsOf q atoms us → Each (IsToldBy space q irreps ws) os x → Each (IsToldBy space q irreps ws) us y → x ≡ y
  all-one atoms os us x y h k a b = each-same IsToldFor atoms x y told-one (told-for atoms os x h a) (told-for atoms us y k b)

module _ (space : SupercellGroup → OrbitView → AtomSpace) (d : Divided) (one : InduceOne d.quotient) (alike : HaveOneSpace space d.quotient) (basis : HaveOneBasis) where
  told-same : (x y : List OrbitModes) → AreToldBy space d x → AreToldBy space d y → x ≡ y
  told-same x y (p, h, (ws, w, a)) (u, k, (vs, v, b)) =
      let q = d.quotient in
      let irreps = d.file.irreps in
      let W : List (ℕ → Exact24) → Divided → Type 0 = λ s e. AreWeightsOf e.quotient e.file.irreps s in
      let T : List (ℕ → Exact24) → List OrbitView → List OrbitModes → Divided → Type 0 = λ s os t e. Each (IsToldBy space e.quotient e.file.irreps s) os t in
      let e : vs ≡ ws = weights-one q one irreps vs ws (subst (W vs) k.divided_is v) (subst (W ws) h.divided_is w) in
      let other = subst (T vs u.orbits y) k.divided_is b in
      let V : List (ℕ → Exact24) → Type 0 = λ s. T s u.orbits y d in
      all-one space q alike basis irreps ws d.file.atoms p.orbits u.orbits x y h.orbits k.orbits (subst (T ws p.orbits x) h.divided_is a) (subst V e other)

  pub told-single : IsSingleAt RefusesAtoms (AreToldBy space) d
  told-single = record { refusal = refused-one d; value = told-same; apart = λ r told f (p, h, t). none-refused d r h.accepted f }
