-- The orbits of a file and the modes of each are one, but for the tables of the orbits. The space of the atoms of an orbit
-- is a variable.
--
-- IsAlikeAt us n o, AreOrbitsAlike os us: orbits with the same labels and places
-- orbits-alike: the orbits of one file are so
-- moded-bases: the modes are one
-- modes-told: what is told of them
use Rattle.std.proofs.Common.{◌≡◌, refl, sym, ◌∙◌, subst, ℕ, List, [], ◌∷◌, length, Some, slice_get, arith}
use Rattle.std.proofs.lemmas.Option.{slice_get_within}
use Rattle.cyclo24.specs.ExactK24.{Exact24}
use Rattle.iso_text.specs.declared.sections.AtomText.{AtomText}
use Rattle.iso_text.specs.declared.sections.IrrepText.{IrrepText}
use Rattle.space_ops.specs.Op.{vector_of}
use Rattle.super_group.specs.Quotient.{SupercellGroup}
use Rattle.wyckoff.specs.AtomLines.{AreOrbitsOf}
use Rattle.wyckoff.specs.Orbit.{OrbitView, IsOrbitOf}
use Rattle.wyckoff.specs.OrbitLaws.{places-unique}
use Rattle.mode_project.specs.AtomSpace.{AtomSpace}
use Rattle.report_steps.specs.Contexts.{Divided}
use Rattle.report_steps.specs.EachLaws.{each-same, each-through}
use Rattle.report_steps.specs.IrrepSteps.{Each}
use Rattle.mode_report.specs.AllModes.{IsToldBy, told_modes}
use Rattle.mode_report.specs.Held.{placed_in}
use Rattle.mode_report.specs.ModesFound.{AreToldBy}
use Rattle.mode_report.specs.Told.{OrbitModes, counts_text}
use Rattle.mode_report.specs.OneWeightLaws.{InduceOne, HaveOneSpace, HaveOneBasis, weights-one}
use Rattle.amp_report.specs.AmpsFound.{Moded, IsBasisBy, HaveOrbitModesBy}
use Rattle.amp_report.specs.AmpListLaws.{there, each-by}

-- the orbit with the same label and places, at the same place
pub record IsAlikeAt (us : List OrbitView) (n : ℕ) (o : OrbitView) : Type 0 where
  pub orbit : OrbitView
  pub at : slice_get us n ≡ Some orbit
  pub label : o.label ≡ orbit.label
  pub places : o.places ≡ orbit.places

pub record AreOrbitsAlike (os us : List OrbitView) : Type 0 where
  pub count : length us ≡ length os
  pub each : (n : ℕ) (o : OrbitView) → slice_get os n ≡ Some o → IsAlikeAt us n o

-- ---- orbits and modes

module _ (q : SupercellGroup) (atoms : List AtomText) where
  pub orbits-alike : (os us : List OrbitView) → AreOrbitsOf q atoms os → AreOrbitsOf q atoms us → AreOrbitsAlike os us
  orbits-alike os us h k = record {
    count = k.count ∙ sym h.count;
    each = λ n o s.
        let l = slice_get_within os n o s in
        let c = h.count in
        let e = k.count in
        let atom = there atoms n (omega (arith, l, c)) in
        let u = there us n (omega (arith, l, c, e)) in
        let a = h.each n atom.0 o atom.1 s in
        let b = k.each n atom.0 u.0 atom.1 u.1 in
        record { orbit = u.0; at = u.1; label = a.label ∙ sym b.label; places = places-unique q (vector_of atom.0.place) o.places u.0.places a.places b.places };
  }

  module _ (space : SupercellGroup → OrbitView → AtomSpace) (alike : HaveOneSpace space q) (basis : HaveOneBasis) (ws : List (ℕ → Exact24)) where
    -- the modes of the orbit of an atom
    abbrev IsBasisFor : AtomText → List (ℕ × (ℕ → Exact24)) × List ℕ → Type 0
    IsBasisFor atom b = (o : OrbitView) × IsOrbitOf q atom o × IsBasisBy space q ws o b

    basis-one : (atom : AtomText) (x y : List (ℕ × (ℕ → Exact24)) × List ℕ) → IsBasisFor atom x → IsBasisFor atom y → x ≡ y
    basis-one atom x y (o, h, a) (u, k, b) = let m = basis (space q o) (space q u) ws x.0 y.0 x.1 y.1 (alike atom o u h k) a b in λ i. (m.0 i, m.1 i)

    bases-for : (os : List OrbitView) (x : List (List (ℕ × (ℕ → Exact24)) × List ℕ)) → AreOrbitsOf q atoms os → Each (IsBasisBy space q ws) os x → Each IsBasisFor atoms x
    bases-for os x h k = each-through (IsOrbitOf q) (IsBasisBy space q ws) atoms os x (each-by (IsOrbitOf q) atoms os h.count h.each) k

    bases-one : (os us : List OrbitView) (x y : List (List (ℕ × (ℕ → Exact24)) × List ℕ)) → AreOrbitsOf q atoms os → AreOrbitsOf q atoms us → Each (IsBasisBy space q ws) os x → Each (IsBasisBy space q ws) us y → x ≡ y
    bases-one os us x y h k a b = each-same IsBasisFor atoms x y basis-one (bases-for os x h a) (bases-for us y k b)

pub moded-bases : (space : SupercellGroup → OrbitView → AtomSpace) (d : Divided) → InduceOne d.quotient → HaveOneSpace space d.quotient → HaveOneBasis → (m e : Moded) → HaveOrbitModesBy space d m → HaveOrbitModesBy space d e → m.bases ≡ e.bases
moded-bases space d one alike basis m e h k =
    let q = d.quotient in
    let s : k.weights ≡ h.weights = weights-one q one d.file.irreps k.weights h.weights k.weights_are h.weights_are in
    let P : List (ℕ → Exact24) → Type 0 = λ ws. Each (IsBasisBy space q ws) e.orbits e.bases in
    bases-one q d.file.atoms space alike basis h.weights m.orbits e.orbits m.bases e.bases h.orbits.orbits k.orbits.orbits h.bases (subst P s k.bases)

-- ---- what is told of the modes

abbrev told_by : List IrrepText → List OrbitView → List (List (ℕ × (ℕ → Exact24)) × List ℕ) → List OrbitModes
told_by irreps [] bs = []
told_by irreps (o ∷ os) [] = []
told_by irreps (o ∷ os) (b ∷ bs) = record { label = o.label; places = o.places; counts = counts_text (length b.0) (length b.1); modes = told_modes irreps b.0 b.1 } ∷ told_by irreps os bs

told-each : (space : SupercellGroup → OrbitView → AtomSpace) (q : SupercellGroup) (irreps : List IrrepText) (ws : List (ℕ → Exact24)) (os : List OrbitView) (bs : List (List (ℕ × (ℕ → Exact24)) × List ℕ)) → Each (IsBasisBy space q ws) os bs
    → Each (IsToldBy space q irreps ws) os (told_by irreps os bs)
told-each space q irreps ws [] bs h = tt
told-each space q irreps ws (o ∷ os) [] h = absurd h
told-each space q irreps ws (o ∷ os) (b ∷ bs) h = (record { rows = b.0; sites = b.1; modes = h.0; label_is = refl; places_are = refl; counts_are = refl; modes_are = refl }, told-each space q irreps ws os bs h.1)

pub modes-told : (space : SupercellGroup → OrbitView → AtomSpace) (d : Divided) (m : Moded) → HaveOrbitModesBy space d m → (told : List OrbitModes) × AreToldBy space d told
modes-told space d m h =
    (told_by d.file.irreps m.orbits m.bases, (placed_in d m.orbits, h.orbits, (h.weights, h.weights_are, told-each space d.quotient d.file.irreps h.weights m.orbits m.bases h.bases)))
