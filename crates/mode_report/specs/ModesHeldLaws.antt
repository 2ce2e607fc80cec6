-- What the program holds of weights and modes, as the definitions name it. The space of the atoms of an orbit is a variable,
-- with the number of its family, and how many numbers an atom has.
--
-- weight-is, weights-are: the weights of what the irreps of a file induce
-- wide-some: a number is wide at some orbit
-- told-each, sizes-are: what is told of the modes of orbits, and how many numbers they have
-- found-modes, found-wide: what is found behind the orbits
use Rattle.std.proofs.Common.{◌≡◌, refl, sym, ap, ◌∙◌, subst, inl, inr, ℕ, zero, suc, ◌≤◌, ◌*◌, List, [], ◌∷◌, length, map, arith, Some, slice_get}
use Rattle.std.proofs.lemmas.Option.{get_or_from_slice_get, slice_get_within}
use Rattle.cyclo24.specs.declared.k24.K24.{K24}
use Rattle.cyclo24.specs.ExactK24.{Exact24, k24_laws}
use Rattle.cyclo24.specs.K24.{exact24}
use Rattle.iso_text.specs.declared.sections.IrrepText.{IrrepText}
use Rattle.lin_alg.specs.Rows.{vector, exact_rows}
use Rattle.super_group.specs.Quotient.{SupercellGroup}
use Rattle.wyckoff.specs.Orbit.{OrbitView}
use Rattle.induce.specs.InducedView.{InducedView, star_in}
use Rattle.induce.specs.Induced.{weight_at}
use Rattle.induce.specs.Tables.{matrices_in}
use Rattle.mode_project.specs.AtomSpace.{AtomSpace, size_of}
use Rattle.mode_project.specs.ModesView.{ModesView, irrep_modes_in}
use Rattle.mode_project.specs.Weights.{exact_weights, weights_in}
use Rattle.report_steps.specs.Contexts.{Divided}
use Rattle.report_steps.specs.EachLaws.{each-map}
use Rattle.report_steps.specs.Held.{IsInducedHeld}
use Rattle.report_steps.specs.IrrepSteps.{Each}
use Rattle.report_steps.specs.Steps.{OrWide}
use Rattle.report_steps.specs.declared.refusal.Refusal.{Refusal}
use Rattle.mode_report.specs.AllModes.{IsToldBy}
use Rattle.mode_report.specs.Atoms.{RefusesAtoms}
use Rattle.mode_report.specs.Held.{placed_in, AreOrbitsHeld, AreModesBy, HasSizeBy, IsWideOrbitBy, IsWideSomeBy, RefusesNothing, told_in}
use Rattle.mode_report.specs.IrrepWeights.{IsWeightOf, AreWeightsOf}
use Rattle.mode_report.specs.ModesFound.{AreWideAllBy, AreToldBy}
use Rattle.mode_report.specs.Told.{counts_text}

pub exact-length : (rows : List (ℕ × List K24)) → length (exact_rows k24_laws exact24 rows) ≡ length rows
exact-length [] = refl
exact-length (r ∷ rows) = ap suc (exact-length rows)

-- ---- weights

vector-past : (xs : List K24) (e : ℕ) → length xs ≤ e → vector k24_laws exact24 xs e ≡ k24_laws.nought
vector-past [] e l = refl
vector-past (x ∷ xs) zero l = absurd (omega arith)
vector-past (x ∷ xs) (suc e) l = vector-past xs e (omega arith)

weight-is : (q : SupercellGroup) (i : IrrepText) (v : InducedView) → IsInducedHeld q i v → IsWeightOf q i (vector k24_laws exact24 (weights_in v))
weight-is q i v h =
    let count = h.of.count in (
      star_in v,
      matrices_in v.tables,
      record {
        inducible = h.inducible;
        inside = λ e l. h.of.weights e l ∙ ap (λ n. weight_at q (star_in v) n (matrices_in v.tables) e) h.size;
        past = λ e l. vector-past v.weights e (omega (arith, count, l));
      },
    )

pub weights-are : (q : SupercellGroup) (irreps : List IrrepText) (vs : List InducedView) → Each (IsInducedHeld q) irreps vs → AreWeightsOf q irreps (exact_weights (map weights_in vs))
weights-are q irreps vs h =
    let T : IrrepText → List K24 → Type 0 = λ i ws. IsWeightOf q i (vector k24_laws exact24 ws) in
    each-map T (IsWeightOf q) (vector k24_laws exact24) irreps (map weights_in vs) (λ i ws k. k) (each-map (IsInducedHeld q) T weights_in irreps vs (weight-is q) h)

-- ---- modes

module _ (space : SupercellGroup → OrbitView → AtomSpace) (family each : ℕ) where
  pub wide-some : (q : SupercellGroup) (ws : List (ℕ → Exact24)) (orbits : List OrbitView) (i : ℕ) (o : OrbitView) (r : Refusal) → slice_get orbits i ≡ Some o
      → OrWide RefusesNothing (IsWideOrbitBy space family q ws) o r → OrWide RefusesNothing (IsWideSomeBy space family q ws) orbits r
  wide-some q ws orbits i o r s (inl h) = absurd h
  wide-some q ws orbits i o r s (inr (k, w, e)) = inr (k, (o, (i, slice_get_within orbits i o s, get_or_from_slice_get orbits i o o s), w), e)

  told-each : (q : SupercellGroup) (irreps : List IrrepText) (ws : List (ℕ → Exact24)) (orbits : List OrbitView) (all : List ModesView) → Each (AreModesBy space q ws) orbits all
      → Each (IsToldBy space q irreps ws) orbits (told_in irreps orbits all)
  told-each q irreps ws [] all h = tt
  told-each q irreps ws (o ∷ orbits) [] h = absurd h
  told-each q irreps ws (o ∷ orbits) (m ∷ all) h = (
    record {
      rows = irrep_modes_in m;
      sites = m.sites;
      modes = h.0.modes;
      label_is = refl;
      places_are = refl;
      counts_are = ap (λ n. counts_text n (length m.sites)) (sym (exact-length m.rows));
      modes_are = refl;
    },
    told-each q irreps ws orbits all h.1,
  )

  module _ (sized : (q : SupercellGroup) (o : OrbitView) → size_of (space q o) ≡ length o.places * each) where
    pub sizes-are : (q : SupercellGroup) (ws : List (ℕ → Exact24)) (orbits : List OrbitView) (all : List ModesView) → Each (AreModesBy space q ws) orbits all → Each (HasSizeBy each) orbits all
    sizes-are q ws [] [] h = tt
    sizes-are q ws [] (m ∷ all) h = h
    sizes-are q ws (o ∷ orbits) [] h = h
    sizes-are q ws (o ∷ orbits) (m ∷ all) h = (h.0.size ∙ sized q o, sizes-are q ws orbits all h.1)

    -- ---- the step

    pub found-modes : (d : Divided) (q : SupercellGroup) (orbits : List OrbitView) (all : List ModesView) (ws : List (ℕ → Exact24)) → q ≡ d.quotient → AreOrbitsHeld d orbits → AreWeightsOf d.quotient d.file.irreps ws
        → Each (AreModesBy space q ws) orbits all → AreToldBy space d (told_in d.file.irreps orbits all) × Each (HasSizeBy each) orbits all
    found-modes d q orbits all ws e o w h =
        let P : SupercellGroup → Type 0 = λ s. Each (AreModesBy space s ws) orbits all in
        let k = subst P e h in
        ((placed_in d orbits, o.0, (ws, w, told-each d.quotient d.file.irreps ws orbits all k)), sizes-are d.quotient ws orbits all k)

  pub found-wide : (d : Divided) (q : SupercellGroup) (orbits : List OrbitView) (ws : List (ℕ → Exact24)) (r : Refusal) → q ≡ d.quotient → AreOrbitsHeld d orbits → AreWeightsOf d.quotient d.file.irreps ws
      → OrWide RefusesNothing (IsWideSomeBy space family q ws) orbits r → OrWide RefusesAtoms (AreWideAllBy space family) d r
  found-wide d q orbits ws r e o w (inl h) = absurd h
  found-wide d q orbits ws r e o w (inr (k, (u, c, x), s)) =
      let P : SupercellGroup → Type 0 = λ g. IsWideOrbitBy space family g ws u k in
      let y = subst P e x in
      inr (k, (placed_in d orbits, o.0, (ws, w, (u, c, y.0, y.1))), s)
