-- What is told of the orbits of a file along a direction, by the program's values.
use Rattle.std.proofs.Common.{◌≡◌, refl, ap, ◌∙◌, subst, inl, inr, ℕ, zero, suc, ◌+◌, ◌*◌, ◌<◌, List, [], ◌∷◌, ◌++◌, length, map, arith}
use Rattle.std.specs.List.{range_with_len}
use Rattle.std.specs.Prelude.{Contains}
use Rattle.std.specs.declared.vec.Vec.{Vec}
use Rattle.cyclo24.specs.FieldOn.{FieldOn}
use Rattle.cyclo24.specs.declared.k24.K24.{K24}
use Rattle.cyclo24.specs.ExactK24.{Exact24, k24_laws}
use Rattle.cyclo24.specs.K24.{exact24}
use Rattle.iso_text.specs.declared.sections.IrrepText.{IrrepText}
use Rattle.lin_alg.specs.Matrix.{MatrixView, entry}
use Rattle.lin_alg.specs.Spans.{row_vectors}
use Rattle.super_group.specs.Quotient.{SupercellGroup}
use Rattle.wyckoff.specs.Orbit.{OrbitView}
use Rattle.mode_project.specs.AtomSpace.{displacements}
use Rattle.mode_project.specs.Modes.{vector_at}
use Rattle.report_steps.specs.Contexts.{Divided}
use Rattle.report_steps.specs.EachLaws.{each-length}
use Rattle.report_steps.specs.IrrepSteps.{Each}
use Rattle.report_steps.specs.Steps.{Answers, OrWide}
use Rattle.report_steps.specs.declared.step.Step.{Step}
use Rattle.report_steps.specs.declared.step.Step.TheVariants as step
use Rattle.report_steps.specs.declared.refusal.Refusal.{Refusal}
use Rattle.mode_report.specs.Atoms.{RefusesAtoms}
use Rattle.mode_report.specs.DirectionFound.{AreWideAllAlong, AreToldAlong}
use Rattle.mode_report.specs.DirectionHeld.{AreRowsOf, AreIrrepRows, AreOrbitRows, IsWideOnOrbit, IsWideOnSome, named_by, named_matrices, AreFit, along_in}
use Rattle.mode_report.specs.DirectionModes.{AreRowsAlong, named_rows, IsToldAlong}
use Rattle.mode_report.specs.Held.{placed_in, AreOrbitsHeld, RefusesNothing}
use Rattle.mode_report.specs.IrrepWeights.{AreWeightsOf}
use Rattle.mode_report.proofs.EachLemmas.{each-second}

-- ---- one irrep

abbrev under : {V : Type 0} → List ℕ → V → List ℕ × V
under name v = (name, v)

-- the rows of a matrix are those of a list
vectors-named : {K : Type 0} (f : FieldOn K) (name : List ℕ) (e : ℕ → ℕ → K) (rs : List (ℕ × (ℕ → K))) (a n : ℕ) → length rs ≡ n → ((i : ℕ) → i < n → e (a + i) ≡ vector_at f (row_vectors rs) i)
    → map (under name) (map e (range_with_len a n)) ≡ map (λ (r : ℕ × (ℕ → K)). under name r.1) rs
vectors-named f name e [] a zero l h = refl
vectors-named f name e [] a (suc n) l h = absurd (omega arith)
vectors-named f name e (r ∷ rs) a zero l h = absurd (omega arith)
vectors-named f name e (r ∷ rs) a (suc n) l h =
    let z : a ≡ a + 0 = omega arith in
    let first = ap e z ∙ h 0 (omega arith) in
    let rest = vectors-named f name e rs (a + 1) n (omega arith) (λ i k. let s : a + 1 + i ≡ a + suc i = omega arith in ap e s ∙ h (suc i) (omega arith)) in
    λ t. under name (first t) ∷ rest t

matrix-named : (name : List ℕ) (rs : List (ℕ × (ℕ → Exact24))) (m : MatrixView K24) → AreRowsOf rs m → named_by name m ≡ map (λ (r : ℕ × (ℕ → Exact24)). under name r.1) rs
matrix-named name rs m h = vectors-named k24_laws name (entry k24_laws exact24 m) rs 0 m.rows h.count (λ i l. let z : 0 + i ≡ i = omega arith in ap (entry k24_laws exact24 m) z ∙ h.each i l)

-- ---- one orbit

module _ (q : SupercellGroup) (h : List ℕ) (o : OrbitView) where
  abbrev lists-of : (ws : List (ℕ → Exact24)) (ms : List (MatrixView K24)) → Each (AreIrrepRows q h o) ws ms → List (List (ℕ × (ℕ → Exact24)))
  lists-of [] ms e = []
  lists-of (w ∷ ws) [] e = []
  lists-of (w ∷ ws) (m ∷ ms) e = e.0.rows ∷ lists-of ws ms e.1

  lists-along : (ws : List (ℕ → Exact24)) (ms : List (MatrixView K24)) (e : Each (AreIrrepRows q h o) ws ms) → AreRowsAlong (displacements q o) ws h (lists-of ws ms e)
  lists-along [] ms e = tt
  lists-along (w ∷ ws) [] e = absurd e
  lists-along (w ∷ ws) (m ∷ ms) e = (e.0.modes, lists-along ws ms e.1)

  lists-named : (irreps : List IrrepText) (ws : List (ℕ → Exact24)) (ms : List (MatrixView K24)) (e : Each (AreIrrepRows q h o) ws ms) → length irreps ≡ length ws
      → named_matrices irreps ms ≡ named_rows irreps (lists-of ws ms e)
  lists-named [] ws ms e l = refl
  lists-named (i ∷ irreps) [] ms e l = absurd (omega arith)
  lists-named (i ∷ irreps) (w ∷ ws) [] e l = absurd e
  lists-named (i ∷ irreps) (w ∷ ws) (m ∷ ms) e l = λ t. matrix-named i.name e.0.rows m e.0.held t ++ lists-named irreps ws ms e.1 (omega arith) t

  orbit-fit : {Z : Type 0} (irreps : List IrrepText) (ws : List (ℕ → Exact24)) (ms : Vec (MatrixView K24) Z) → length irreps ≡ length ws → AreOrbitRows q h ws o ms → AreFit irreps o ms
  orbit-fit irreps ws ms l e = record {
    count = l ∙ each-length (AreIrrepRows q h o) ws ms.items e;
    widths = each-second (AreIrrepRows q h o) (λ m. m.cols ≡ length o.places * 3) ws ms.items (λ w m r. r.width) e;
  }

-- ---- all orbits

module _ {Z : Type 0} (q : SupercellGroup) (h : List ℕ) (irreps : List IrrepText) (ws : List (ℕ → Exact24)) (l : length irreps ≡ length ws) where
  all-fit : (orbits : List OrbitView) (all : List (Vec (MatrixView K24) Z)) → Each (AreOrbitRows q h ws) orbits all → Each (AreFit irreps) orbits all
  all-fit [] [] e = tt
  all-fit [] (m ∷ all) e = e
  all-fit (o ∷ orbits) [] e = e
  all-fit (o ∷ orbits) (m ∷ all) e = (orbit-fit q h o irreps ws m l e.0, all-fit orbits all e.1)

  all-told : (orbits : List OrbitView) (all : List (Vec (MatrixView K24) Z)) → Each (AreOrbitRows q h ws) orbits all → Each (IsToldAlong q irreps ws h) orbits (along_in irreps orbits all)
  all-told [] all e = tt
  all-told (o ∷ orbits) [] e = absurd e
  all-told (o ∷ orbits) (m ∷ all) e = (
    record {
      rows = lists-of q h o ws m.items e.0;
      along = lists-along q h o ws m.items e.0;
      label_is = refl;
      places_are = refl;
      modes_are = lists-named q h o irreps ws m.items e.0 l;
      counts_are = refl;
    },
    all-told orbits all e.1,
  )

-- ---- the step

pub weights-length : (d : Divided) (ws : List (ℕ → Exact24)) → AreWeightsOf d.quotient d.file.irreps ws → length d.file.irreps ≡ length ws
weights-length d ws h = each-length _ d.file.irreps ws h

pub told-along : {Z : Type 0} (d : Divided) (q : SupercellGroup) (h : List ℕ) (orbits : List OrbitView) (all : List (Vec (MatrixView K24) Z)) (ws : List (ℕ → Exact24)) → q ≡ d.quotient → AreOrbitsHeld d orbits
    → AreWeightsOf d.quotient d.file.irreps ws → Each (AreOrbitRows q h ws) orbits all → AreToldAlong h d (along_in d.file.irreps orbits all) × Each (AreFit d.file.irreps) orbits all
told-along d q h orbits all ws e o w r =
    let P : SupercellGroup → Type 0 = λ s. Each (AreOrbitRows s h ws) orbits all in
    let k = subst P e r in
    let l = weights-length d ws w in
    ((placed_in d orbits, o.0, (ws, w, all-told d.quotient h d.file.irreps ws l orbits all k)), all-fit d.quotient h d.file.irreps ws l orbits all k)

wide-of : (d : Divided) (h : List ℕ) (orbits : List OrbitView) (ws : List (ℕ → Exact24)) (k : ℕ) (o : OrbitView) → AreOrbitsHeld d orbits → AreWeightsOf d.quotient d.file.irreps ws → Contains orbits o
    → IsWideOnOrbit d.quotient h ws o k → AreWideAllAlong h d k
wide-of d h orbits ws k o held w c (v, n, a) = (placed_in d orbits, held.0, (ws, w, (o, v, c, n, a.0, a.1)))

pub wide-along : (d : Divided) (q : SupercellGroup) (h : List ℕ) (orbits : List OrbitView) (ws : List (ℕ → Exact24)) (r : Refusal) → q ≡ d.quotient → AreOrbitsHeld d orbits → AreWeightsOf d.quotient d.file.irreps ws
    → OrWide RefusesNothing (IsWideOnSome q h ws) orbits r → OrWide RefusesAtoms (AreWideAllAlong h) d r
wide-along d q h orbits ws r e o w (inl x) = absurd x
wide-along d q h orbits ws r e o w (inr (k, (u, c, x), s)) =
    let P : SupercellGroup → Type 0 = λ g. IsWideOnOrbit g h ws u k in
    inr (k, wide-of d h orbits ws k u o w c (subst P e x), s)

-- the answer at all orbits
pub answers-along : {Z Y : Type 0} (d : Divided) (q : SupercellGroup) (h : List ℕ) (orbits : List OrbitView) (ws : List (ℕ → Exact24)) → q ≡ d.quotient → AreOrbitsHeld d orbits
    → AreWeightsOf d.quotient d.file.irreps ws → (st : Step (Vec (Vec (MatrixView K24) Z) Y))
    → Answers (OrWide RefusesNothing (IsWideOnSome q h ws) orbits) (λ (all : Vec (Vec (MatrixView K24) Z) Y). Each (AreOrbitRows q h ws) orbits all.items) st
    → Answers (OrWide RefusesAtoms (AreWideAllAlong h) d) (λ (all : Vec (Vec (MatrixView K24) Z) Y). AreToldAlong h d (along_in d.file.irreps orbits all.items) × Each (AreFit d.file.irreps) orbits all.items) st
answers-along d q h orbits ws e o w (step.Passed all) x = told-along d q h orbits all.items ws e o w x
answers-along d q h orbits ws e o w (step.Refused r) x = wide-along d q h orbits ws r e o w x
