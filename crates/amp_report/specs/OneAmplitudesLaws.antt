-- What is told of the amplitudes of the numbers of the atoms of a file is one, but for the tables of the orbits. The space of
-- the atoms of an orbit is a variable, and so are the numbers.
--
-- HaveOneList, HaveBases, HaveOneIn, one-list: the laws of bases and amplitudes
-- told-count: how many modes are told
-- amplitudes-one: what is told of amplitudes is one
use Rattle.std.proofs.Common.{◌≡◌, refl, sym, ap, ◌∙◌, subst, ℕ, suc, ◌+◌, ◌*◌, ◌<◌, ℤ, List, [], ◌∷◌, length, get_or, ext_get_or, arith}
use Rattle.std.proofs.lemmas.List.{length-map}
use Rattle.std.proofs.lemmas.Option.{same_Some, slice_get-get_or}
use Rattle.std.specs.Prelude.{codes}
use Rattle.cyclo24.specs.ExactK24.{Exact24, k24_laws}
use Rattle.iso_text.specs.declared.sections.IrrepText.{IrrepText}
use Rattle.lin_alg.specs.Equations.{unit_vector}
use Rattle.super_group.specs.Quotient.{SupercellGroup}
use Rattle.wyckoff.specs.Orbit.{OrbitView}
use Rattle.mode_project.specs.Amplitudes.{AreAmplitudes, IsModeBasis}
use Rattle.mode_project.specs.AtomSpace.{AtomSpace, size_of}
use Rattle.mode_project.specs.Modes.{AreModes, all_modes, vector_at}
use Rattle.report_steps.specs.Contexts.{Divided}
use Rattle.report_steps.specs.IrrepSteps.{Each}
use Rattle.mode_report.specs.AllModes.{told_modes}
use Rattle.amp_report.specs.AmpListLaws.{each-there}
use Rattle.amp_report.specs.AmpsFound.{Moded, IsBasisBy, named_amplitudes, IsToldBy, HaveAmplitudesBy}
use Rattle.amp_report.specs.AmpsReport.{OrbitAmplitudes}
use Rattle.amp_report.specs.OneModesLaws.{AreOrbitsAlike}

-- the law of amplitudes
abbrev pub HaveOneList : Type 0
HaveOneList =
    (s : AtomSpace) (ws : List (ℕ → Exact24)) (ms : List (ℕ × (ℕ → Exact24))) (sites : List ℕ) → AreModes k24_laws s ws ms sites → (v a b : ℕ → Exact24)
    → AreAmplitudes k24_laws (length ms + length sites) (vector_at k24_laws (all_modes k24_laws ms sites)) (size_of s) v a
    → AreAmplitudes k24_laws (length ms + length sites) (vector_at k24_laws (all_modes k24_laws ms sites)) (size_of s) v b → (m : ℕ) → m < length ms + length sites → a m ≡ b m

-- the laws of bases
abbrev pub HaveBases : Type 0
HaveBases = (s : AtomSpace) (ws : List (ℕ → Exact24)) (ms : List (ℕ × (ℕ → Exact24))) (sites : List ℕ) → AreModes k24_laws s ws ms sites → IsModeBasis k24_laws (size_of s) ms sites

abbrev pub HaveOneIn : Type 0
HaveOneIn =
    (d : ℕ) (ms : List (ℕ × (ℕ → Exact24))) (sites : List ℕ) (v a b : ℕ → Exact24) → IsModeBasis k24_laws d ms sites → AreAmplitudes k24_laws d (vector_at k24_laws (all_modes k24_laws ms sites)) d v a
    → AreAmplitudes k24_laws d (vector_at k24_laws (all_modes k24_laws ms sites)) d v b → (m : ℕ) → m < d → a m ≡ b m

pub one-list : HaveBases → HaveOneIn → HaveOneList
one-list bases one s ws ms sites h v a b x y m l =
    let basis = bases s ws ms sites h in
    let e : length ms + length sites ≡ size_of s = basis.count in
    let P : (ℕ → Exact24) → ℕ → Type 0 = λ z n. AreAmplitudes k24_laws n (vector_at k24_laws (all_modes k24_laws ms sites)) (size_of s) v z in
    one (size_of s) ms sites v a b basis (subst (P a) e x) (subst (P b) e y) m (subst (λ n. m < n) e l)

-- how many modes there are
pub told-count : (irreps : List IrrepText) (ms : List (ℕ × (ℕ → Exact24))) (sites : List ℕ) → length (told_modes irreps ms sites) ≡ length ms + length sites
told-count irreps [] sites =
    let g : ℕ → List ℕ × (ℕ → Exact24) = λ c. (codes "site", unit_vector k24_laws c) in
    let z : length sites ≡ 0 + length sites = omega arith in
    length-map sites g ∙ z
told-count irreps (m ∷ ms) sites = let e : suc (length ms + length sites) ≡ suc (length ms) + length sites = omega arith in ap suc (told-count irreps ms sites) ∙ e

-- ---- names with amplitudes

named-same : (a b : ℕ → Exact24) (m : ℕ) (xs : List (List ℕ × (ℕ → Exact24))) → ((j : ℕ) → j < m + length xs → a j ≡ b j) → named_amplitudes a m xs ≡ named_amplitudes b m xs
named-same a b m [] h = refl
named-same a b m (x ∷ xs) h =
    let first = h m (omega arith) in
    let rest = named-same a b (suc m) xs (λ j l. h j (omega (arith, l))) in
    λ i. (x.0, first i) ∷ rest i

-- ---- what is told of amplitudes

module _ (space : SupercellGroup → OrbitView → AtomSpace) (numbers : ℕ) (sized : (q : SupercellGroup) (o : OrbitView) → size_of (space q o) ≡ length o.places * numbers) (d : Divided)
    (os us : List OrbitView) (bs : List (List (ℕ × (ℕ → Exact24)) × List ℕ)) (a : AreOrbitsAlike os us) (only : HaveOneList) (ws : List (ℕ → Exact24)) (e : Each (IsBasisBy space d.quotient ws) os bs)
    (v : ℕ → ℕ → Exact24) where
  abbrev moded_of : List OrbitView → Moded
  moded_of orbits = record { divided = d; orbits = orbits; bases = bs }

  told-one : (n : ℕ) (t u : OrbitAmplitudes) → IsToldBy numbers (moded_of os) v n t → IsToldBy numbers (moded_of us) v n u → t ≡ u
  told-one n t u h k =
      let w = a.each n h.orbit h.is.orbit in
      let s : w.orbit ≡ k.orbit = same_Some w.orbit k.orbit (sym w.at ∙ k.is.orbit) in
      let c : h.basis ≡ k.basis = same_Some h.basis k.basis (sym h.is.basis ∙ k.is.basis) in
      let label : t.label ≡ u.label = h.label_is ∙ w.label ∙ ap (λ (o : OrbitView). o.label) s ∙ sym k.label_is in
      let places : h.orbit.places ≡ k.orbit.places = w.places ∙ ap (λ (o : OrbitView). o.places) s in
      let A : List (ℕ × (ℕ → Exact24)) × List ℕ → List (List ℤ) → Type 0 =
      λ z ps. AreAmplitudes k24_laws (length z.0 + length z.1) (vector_at k24_laws (all_modes k24_laws z.0 z.1)) (length ps * numbers) (v n) k.amplitudes in
      let are : A h.basis h.orbit.places = subst (λ z. A z h.orbit.places) (sym c) (subst (A k.basis) (sym places) k.are) in
      let modes = each-there (IsBasisBy space d.quotient ws) os bs n h.orbit h.basis e h.is.orbit h.is.basis in
      let size : length h.orbit.places * numbers ≡ size_of (space d.quotient h.orbit) = sym (sized d.quotient h.orbit) in
      let S : (ℕ → Exact24) → ℕ → Type 0 =
      λ z c. AreAmplitudes k24_laws (length h.basis.0 + length h.basis.1) (vector_at k24_laws (all_modes k24_laws h.basis.0 h.basis.1)) c (v n) z in
      let same = only (space d.quotient h.orbit) ws h.basis.0 h.basis.1 modes (v n) h.amplitudes k.amplitudes (subst (S h.amplitudes) size h.are) (subst (S k.amplitudes) size are) in
      let told : List (ℕ × (ℕ → Exact24)) × List ℕ → List (List ℕ × (ℕ → Exact24)) = λ z. told_modes d.file.irreps z.0 z.1 in
      let count = told-count d.file.irreps h.basis.0 h.basis.1 in
      let amps : t.amplitudes ≡ u.amplitudes =
      h.amplitudes_are ∙ named-same h.amplitudes k.amplitudes 0 (told h.basis) (λ j l. same j (omega (arith, l, count))) ∙ ap (λ z. named_amplitudes k.amplitudes 0 (told z)) c ∙ sym k.amplitudes_are in
      λ i. record { label = label i; amplitudes = amps i }

  pub amplitudes-one : (all other : List OrbitAmplitudes) → HaveAmplitudesBy numbers (moded_of os) v all → HaveAmplitudesBy numbers (moded_of us) v other → all ≡ other
  amplitudes-one all other h k =
      let z : OrbitAmplitudes = record { label = []; amplitudes = [] } in
      let count : length all ≡ length other = h.count ∙ sym a.count ∙ sym k.count in
      ext_get_or z all other count
      (λ n l. told-one n (get_or all n z) (get_or other n z) (h.each n (get_or all n z) (slice_get-get_or all n z l)) (k.each n (get_or other n z) (slice_get-get_or other n z (omega (arith, l, count)))))
