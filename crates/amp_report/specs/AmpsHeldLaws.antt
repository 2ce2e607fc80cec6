-- What the program holds of modes and amplitudes, as the definitions name it. The space of the atoms of an orbit is a
-- variable, with how many numbers an atom has, and so are the numbers whose amplitudes are found.
--
-- told-length: something is told of each orbit
-- modes-held, answers-modes: the modes of all orbits
-- count, size-at, some-at: modes have so many numbers, and are those of an orbit
-- rows-wide, rows-told, rows-held: amplitudes of all orbits
-- rows-more, rows-wide-some: those of one orbit more
use Rattle.std.proofs.Common.{◌≡◌, refl, sym, ap, ◌∙◌, subst, inl, inr, ◌⊎◌, ℕ, zero, suc, ◌+◌, ◌*◌, List, [], ◌∷◌, ◌++◌, length, length-append, map, arith, Some, slice_get, option_map}
use Rattle.std.proofs.lemmas.Option.{slice_get-map, slice_get_within, none-some, same_Some}
use Rattle.cyclo24.specs.declared.k24.K24.{K24}
use Rattle.cyclo24.specs.ExactK24.{Exact24, k24, k24_laws}
use Rattle.cyclo24.specs.K24.{exact24}
use Rattle.iso_text.specs.declared.sections.IrrepText.{IrrepText}
use Rattle.lin_alg.specs.Rows.{vector}
use Rattle.super_group.specs.Quotient.{SupercellGroup}
use Rattle.wyckoff.specs.Orbit.{OrbitView}
use Rattle.mode_project.specs.Amplitudes.{AreAmplitudes, IsWideAmplitudes}
use Rattle.mode_project.specs.AtomSpace.{AtomSpace, size_of}
use Rattle.mode_project.specs.ModesView.{ModesView, irrep_modes_in, mode_in}
use Rattle.mode_project.specs.OrbitAmplitudes.{AreModesOfSome}
use Rattle.report_steps.specs.Contexts.{Divided}
use Rattle.report_steps.specs.EachLaws.{each-map, each-length}
use Rattle.report_steps.specs.IrrepSteps.{Each}
use Rattle.report_steps.specs.Steps.{Answers, OrWide}
use Rattle.report_steps.specs.declared.step.Step.{Step}
use Rattle.report_steps.specs.declared.step.Step.TheVariants as step
use Rattle.std.specs.declared.vec.Vec.{Vec}
use Rattle.mode_report.specs.Atoms.{RefusesAtoms}
use Rattle.mode_report.specs.Held.{AreOrbitsHeld, AreModesBy, HasSizeBy, IsWideSomeBy, RefusesNothing}
use Rattle.mode_report.specs.IrrepWeights.{AreWeightsOf}
use Rattle.mode_report.specs.ModesFound.{AreWideAllBy}
use Rattle.mode_report.specs.ModesHeldLaws.{exact-length, sizes-are, found-wide}
use Rattle.amp_report.specs.AmpListLaws.{there, last-or-before, each-there, each-by}
use Rattle.amp_report.specs.AmpsFound.{IsBasisBy, AreWideNumbers, HaveAmplitudesBy}
use Rattle.amp_report.specs.AmpsReport.{OrbitAmplitudes}
use Rattle.amp_report.specs.Held.{basis_in, moded_in, AreModesHeldBy, IsWideRowBy, IsWideSomeRowBy, IsRowBy, AreRowsBy, HasRow, told_of, told_in}

-- ---- orbits

pub told-length : (irreps : List IrrepText) (orbits : List OrbitView) (all : List ModesView) (rows : List (List K24)) → length orbits ≡ length all → length all ≡ length rows → length (told_in irreps orbits all rows) ≡ length all
told-length irreps [] [] rows e f = refl
told-length irreps [] (m ∷ all) rows e f = absurd (omega arith)
told-length irreps (o ∷ orbits) [] rows e f = refl
told-length irreps (o ∷ orbits) (m ∷ all) [] e f = absurd (omega arith)
told-length irreps (o ∷ orbits) (m ∷ all) (a ∷ rows) e f = ap suc (told-length irreps orbits all rows (omega arith) (omega arith))

-- ---- modes

module _ (space : SupercellGroup → OrbitView → AtomSpace) (family numbers : ℕ) where
  module _ (sized : (q : SupercellGroup) (o : OrbitView) → size_of (space q o) ≡ length o.places * numbers) where
    pub modes-held : (d : Divided) (q : SupercellGroup) (orbits : List OrbitView) (all : List ModesView) (ws : List (ℕ → Exact24)) → q ≡ d.quotient → AreOrbitsHeld d orbits → AreWeightsOf d.quotient d.file.irreps ws
        → Each (AreModesBy space q ws) orbits all → AreModesHeldBy space numbers d orbits all
    modes-held d q orbits all ws e o w h =
        let P : SupercellGroup → Type 0 = λ s. Each (AreModesBy space s ws) orbits all in
        let k = subst P e h in (
          record {
            divided_is = refl;
            orbits = o.0;
            weights = ws;
            weights_are = w;
            bases = each-map (AreModesBy space d.quotient ws) (IsBasisBy space d.quotient ws) basis_in orbits all (λ u m r. r.modes) k;
          },
          sizes-are space family numbers sized d.quotient ws orbits all k,
        )

    pub answers-modes : {Z : Type 0} (d : Divided) (q : SupercellGroup) (orbits : List OrbitView) (ws : List (ℕ → Exact24)) → q ≡ d.quotient → AreOrbitsHeld d orbits → AreWeightsOf d.quotient d.file.irreps ws
        → (st : Step (Vec ModesView Z)) → Answers (OrWide RefusesNothing (IsWideSomeBy space family q ws) orbits) (λ (all : Vec ModesView Z). Each (AreModesBy space q ws) orbits all.items) st
        → Answers (OrWide RefusesAtoms (AreWideAllBy space family) d) (λ (all : Vec ModesView Z). AreModesHeldBy space numbers d orbits all.items) st
    answers-modes d q orbits ws e o w (step.Passed all) h = modes-held d q orbits all.items ws e o w h
    answers-modes d q orbits ws e o w (step.Refused r) h = found-wide space family numbers d q orbits ws r e o w h

-- ---- amplitudes

module _ (space : SupercellGroup → OrbitView → AtomSpace) (numbers : ℕ) (d : Divided) (orbits : List OrbitView) (all : List ModesView) (h : AreModesHeldBy space numbers d orbits all) where
  pub count : length orbits ≡ length all
  count = each-length (HasSizeBy numbers) orbits all h.1

  -- the orbit of modes
  orbit-of : (n : ℕ) (m : ModesView) → slice_get all n ≡ Some m → (o : OrbitView) × (slice_get orbits n ≡ Some o)
  orbit-of n m s = let l = slice_get_within all n m s in let c = count in there orbits n (omega (arith, l, c))

  basis-at : (n : ℕ) (m : ModesView) → slice_get all n ≡ Some m → slice_get (map basis_in all) n ≡ Some (basis_in m)
  basis-at n m s = slice_get-map basis_in all n ∙ ap (option_map basis_in) s

  pub rows-wide : (family : ℕ) (v : ℕ → ℕ → Exact24) (k : ℕ) → IsWideSomeRowBy family all v k → AreWideNumbers numbers family (moded_in d orbits all) v k
  rows-wide family v k (n, m, s, w) =
      let o = orbit-of n m s in
      let P : ℕ → Type 0 = λ c. IsWideAmplitudes k24 c (irrep_modes_in m) m.sites (v n) in
      (n, (o.0, (basis_in m, record { orbit = o.1; basis = basis-at n m s }, subst P (each-there (HasSizeBy numbers) orbits all n o.0 m h.1 o.1 s) w.0, w.1)))

  -- the numbers and modes of orbit n
  pub size-at : (n : ℕ) (m : ModesView) → slice_get all n ≡ Some m → (o : OrbitView) × (slice_get orbits n ≡ Some o) × (m.size ≡ length o.places * numbers)
  size-at n m s = let o = orbit-of n m s in (o.0, o.1, each-there (HasSizeBy numbers) orbits all n o.0 m h.1 o.1 s)

  pub some-at : (sized : (q : SupercellGroup) (o : OrbitView) → size_of (space q o) ≡ length o.places * numbers) (n : ℕ) (m : ModesView) → slice_get all n ≡ Some m → AreModesOfSome m
  some-at sized n m s =
      let o = orbit-of n m s in record {
        space = space d.quotient o.0;
        weights = h.0.weights;
        modes = each-there (IsBasisBy space d.quotient h.0.weights) orbits (map basis_in all) n o.0 (basis_in m) h.0.bases o.1 (basis-at n m s);
        size = sized d.quotient o.0 ∙ sym (each-there (HasSizeBy numbers) orbits all n o.0 m h.1 o.1 s);
      }

  -- what is told of orbit n
  told-there : (irreps : List IrrepText) (os : List OrbitView) (ms : List ModesView) (rows : List (List K24)) (n : ℕ) (t : OrbitAmplitudes) → slice_get (told_in irreps os ms rows) n ≡ Some t
      → (o : OrbitView) × (m : ModesView) × (a : List K24) × (slice_get os n ≡ Some o) × (slice_get ms n ≡ Some m) × (slice_get rows n ≡ Some a) × (t ≡ told_of irreps o m a)
  told-there irreps [] ms rows n t s = absurd (none-some t s)
  told-there irreps (o ∷ os) [] rows n t s = absurd (none-some t s)
  told-there irreps (o ∷ os) (m ∷ ms) [] n t s = absurd (none-some t s)
  told-there irreps (o ∷ os) (m ∷ ms) (a ∷ rows) zero t s = (o, m, a, refl, refl, refl, sym (same_Some _ t s))
  told-there irreps (o ∷ os) (m ∷ ms) (a ∷ rows) (suc n) t s = told-there irreps os ms rows n t s

  pub rows-told : (v : ℕ → ℕ → Exact24) (rows : List (List K24)) → AreRowsBy all v (length all) rows → HaveAmplitudesBy numbers (moded_in d orbits all) v (told_in d.file.irreps orbits all rows)
  rows-told v rows x = record {
    count = told-length d.file.irreps orbits all rows count (sym x.count) ∙ sym count;
    each = λ n t s.
        let w = told-there d.file.irreps orbits all rows n t s in
        let o = w.0 in
        let m = w.1 in
        let a = w.2 in
        let r = x.each n m a w.4 w.5 in
        let P : ℕ → Type 0 = λ c. AreAmplitudes k24_laws c (mode_in m) m.size (v n) (vector k24_laws exact24 a) in
        let Q : ℕ → Type 0 = λ c. AreAmplitudes k24_laws (length (irrep_modes_in m) + length m.sites) (mode_in m) c (v n) (vector k24_laws exact24 a) in
        record {
          orbit = o;
          basis = basis_in m;
          is = record { orbit = w.3; basis = basis-at n m w.4 };
          amplitudes = vector k24_laws exact24 a;
          are = subst Q (each-there (HasSizeBy numbers) orbits all n o m h.1 w.3 w.4) (subst P (ap (λ c. c + length m.sites) (sym (exact-length m.rows))) r.are);
          label_is = ap (λ (y : OrbitAmplitudes). y.label) w.6;
          amplitudes_are = ap (λ (y : OrbitAmplitudes). y.amplitudes) w.6;
        };
  }

  pub rows-held : (v : ℕ → ℕ → Exact24) (rows : List (List K24)) → AreRowsBy all v (length all) rows → (length orbits ≡ length all) × Each HasRow all rows
  rows-held v rows x = (count, each-by HasRow all rows x.count (λ n m a s t. (x.each n m a s t).count))

-- ---- one row more

pub rows-more : (all : List ModesView) (v : ℕ → ℕ → Exact24) (n : ℕ) (rows : List (List K24)) (m : ModesView) (a : List K24) → slice_get all n ≡ Some m → AreRowsBy all v n rows → IsRowBy v n m a
    → AreRowsBy all v (n + 1) (rows ++ a ∷ [])
rows-more all v n rows m a s h r = record { count = longer rows a n h.count; each = λ i k b t u. at i k b t (last-or-before rows a i b u) }
  where
    longer : {X : Type 0} (xs : List X) (x : X) (n : ℕ) → length xs ≡ n → length (xs ++ x ∷ []) ≡ n + 1
    longer xs x n e = length-append xs (x ∷ []) ∙ ap (λ k. k + 1) e

    at : (i : ℕ) (k : ModesView) (b : List K24) → slice_get all i ≡ Some k → (slice_get rows i ≡ Some b) ⊎ ((i ≡ length rows) × (b ≡ a)) → IsRowBy v i k b
    at i k b t (inl u) = h.each i k b t u
    at i k b t (inr (e, f)) =
        let g : i ≡ n = e ∙ h.count in
        let same : m ≡ k = same_Some m k (sym s ∙ ap (slice_get all) (sym g) ∙ t) in
        let P : ℕ → Type 0 = λ j. IsRowBy v j k b in
        let Q : ModesView → Type 0 = λ z. IsRowBy v n z b in
        let R : List K24 → Type 0 = λ z. IsRowBy v n m z in
        subst P (sym g) (subst Q same (subst R (sym f) r))

pub rows-wide-some : (family : ℕ) (all : List ModesView) (v : ℕ → ℕ → Exact24) (n : ℕ) (m : ModesView) (k : ℕ) → slice_get all n ≡ Some m → IsWideRowBy family v n m k → IsWideSomeRowBy family all v k
rows-wide-some family all v n m k s w = (n, m, s, w)
