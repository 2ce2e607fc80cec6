-- The weights of the irreps of a file are one; and what is known of orbits and modes, as the layers above use it.
--
-- InduceOne q: the law of the irreps of a file
-- HaveOneSpace space q, HaveOneOrbit q: the law of the orbits of an atom, where this space is that of its atoms; for displacements
-- HaveOneBasis: the law of modes
-- weights-one: the weights of the irreps are one
use Rattle.std.proofs.Common.{◌≡◌, sym, ap, ◌∙◌, ◌⊎◌, inl, inr, ℕ, ◌<◌, ◌≤◌, List, arith}
use Rattle.cyclo24.specs.ExactK24.{Exact24, k24_laws}
use Rattle.cyclo24.specs.ExactZ24.{z24_laws}
use Rattle.iso_text.specs.declared.sections.AtomText.{AtomText}
use Rattle.iso_text.specs.declared.sections.IrrepText.{IrrepText}
use Rattle.kstar.specs.Star.{WaveStar}
use Rattle.lin_alg.specs.Matrices.{trace}
use Rattle.lin_alg.specs.SpanLaws.{funext}
use Rattle.lin_alg.specs.TraceLaws.{trace-same}
use Rattle.super_group.specs.Quotient.{SupercellGroup, order_of}
use Rattle.small_rep.specs.SmallRep.{Matrices}
use Rattle.induce.specs.Induced.{dimension_of, induced_of, weight_of, weight_at}
use Rattle.wyckoff.specs.Orbit.{OrbitView, IsOrbitOf}
use Rattle.mode_project.specs.AtomSpace.{AtomSpace, displacements}
use Rattle.mode_project.specs.Modes.{AreModes}
use Rattle.mode_project.specs.OneBasis.{AreAlike}
use Rattle.report_steps.specs.EachLaws.{each-same}
use Rattle.report_steps.specs.InducedLaws.{InduceTheSame}
use Rattle.report_steps.specs.Irreps.{IsRepresented}
use Rattle.mode_report.specs.IrrepWeights.{IsWeightOf, AreWeightsOf}

-- the law of the irreps of a file
abbrev pub InduceOne : SupercellGroup → Type 0
InduceOne q = (i : IrrepText) (s t : WaveStar) (g m : Matrices) → IsRepresented q.parent i s g → IsRepresented q.parent i t m → InduceTheSame q i s t g m

-- the law of the orbits of an atom
abbrev pub HaveOneSpace : (SupercellGroup → OrbitView → AtomSpace) → SupercellGroup → Type 0
HaveOneSpace space q = (atom : AtomText) (o u : OrbitView) → IsOrbitOf q atom o → IsOrbitOf q atom u → AreAlike (space q o) (space q u)

abbrev pub HaveOneOrbit : SupercellGroup → Type 0
HaveOneOrbit = HaveOneSpace displacements

-- the law of modes
abbrev pub HaveOneBasis : Type 0
HaveOneBasis =
    (s t : AtomSpace) (ws : List (ℕ → Exact24)) (ms ns : List (ℕ × (ℕ → Exact24))) (sites columns : List ℕ) → AreAlike s t → AreModes k24_laws s ws ms sites → AreModes k24_laws t ws ns columns
    → (ms ≡ ns) × (sites ≡ columns)

module _ (q : SupercellGroup) (one : InduceOne q) where
  weight-same : (i : IrrepText) (s t : WaveStar) (g m : Matrices) (e : ℕ) → IsRepresented q.parent i s g → IsRepresented q.parent i t m → weight_at q s i.size g e ≡ weight_at q t i.size m e
  weight-same i s t g m e a b =
      let h = one i s t g m a b in
      ap weight_of
      (trace-same z24_laws (dimension_of s i.size) (induced_of q s i.size g e) (induced_of q t i.size m e) (λ x y. h.entry e x y)
      ∙ ap (λ n. trace z24_laws n (induced_of q t i.size m e)) h.dimension)

  weight-one : (i : IrrepText) (w v : ℕ → Exact24) → IsWeightOf q i w → IsWeightOf q i v → w ≡ v
  weight-one i w v (s, g, a) (t, m, b) = funext (λ e. at e (inside e))
    where
      inside : (e : ℕ) → (e < order_of q) ⊎ (order_of q ≤ e)
      inside e = grind arith

      at : (e : ℕ) → (e < order_of q) ⊎ (order_of q ≤ e) → w e ≡ v e
      at e (inl l) = a.inside e l ∙ weight-same i s t g m e a.inducible.rep b.inducible.rep ∙ sym (b.inside e l)
      at e (inr l) = a.past e l ∙ sym (b.past e l)

  pub weights-one : (irreps : List IrrepText) (ws vs : List (ℕ → Exact24)) → AreWeightsOf q irreps ws → AreWeightsOf q irreps vs → ws ≡ vs
  weights-one irreps ws vs = each-same (IsWeightOf q) irreps ws vs weight-one
