-- The displacements of all atoms are one.
use Rattle.std.proofs.Common.{◌≡◌, sym, ap, ◌∙◌, subst, ℕ, ◌<◌, ℤ, pos, ◌<ℤ◌, List, [], length, Some, get_or, slice_get, ext_get_or}
use Rattle.std.proofs.lemmas.Option.{slice_get-get_or}
use Rattle.space_ops.specs.Matrix.{Vector}
use Rattle.space_ops.specs.Op.{vector_of, shift_of}
use Rattle.super_group.specs.Quotient.{IsQuotient}
use Rattle.wyckoff.specs.Orbit.{OrbitView}
use Rattle.distort_match.specs.Matches.{Matching, Matches, MatchesAtom}
use Rattle.distort_match.specs.Outcomes.{IsAccepted, AreShiftsOf, IsShiftOf, shift_at}

-- the laws of matches
abbrev pub HaveOneDisplacement : Type 0
HaveOneDisplacement = (m : Matching) (n t o i : ℕ) (v w : Vector ℤ) → IsQuotient m.group → m.tolerance <ℤ pos 3000000 → Matches m n t o i v → Matches m n t o i w → v ≡ w

abbrev pub HaveOnePlace : Type 0
HaveOnePlace = (m : Matching) (n t k u o i : ℕ) → IsAccepted m → MatchesAtom m n t o i → MatchesAtom m k u o i → (n ≡ k) × (t ≡ u)

module _ (one : HaveOneDisplacement) (once : HaveOnePlace) (m : Matching) (q : IsQuotient m.group) (small : m.tolerance <ℤ pos 3000000) where
  shift-one : (o i : ℕ) (v w : List ℤ) → IsAccepted m → IsShiftOf m o i v → IsShiftOf m o i w → v ≡ w
  shift-one o i v w a (n, t, h, e) (k, u, g, f) =
      let s = once m n t k u o i a (vector_of v, h) (vector_of w, g) in
      let P : ℕ → Type 0 = λ j. Matches m j t o i (vector_of v) in
      let Q : ℕ → Type 0 = λ j. Matches m k j o i (vector_of v) in
      e ∙ ap shift_of (one m k u o i (vector_of v) (vector_of w) q small (subst Q s.1 (subst P s.0 h)) g) ∙ sym f

  pub shifts-one : (x y : List (List (List ℤ))) → AreShiftsOf m x → AreShiftsOf m y → x ≡ y
  shifts-one x y h k = ext_get_or [] x y (h.orbits ∙ sym k.orbits) (λ o l. orbit-one o (subst (λ j. o < j) h.orbits l))
    where
      orbit-one : (o : ℕ) → o < length m.orbits → get_or x o [] ≡ get_or y o []
      orbit-one o l =
          let d : OrbitView = record { label = []; line = 0; places = []; order = 0; translations = 0; turns = []; shifts = [] } in
          let orbit = get_or m.orbits o d in
          let s : slice_get m.orbits o ≡ Some orbit = slice_get-get_or m.orbits o d l in
          let a = h.atoms o orbit s in
          ext_get_or [] (get_or x o []) (get_or y o []) (a ∙ sym (k.atoms o orbit s))
          (λ i z. let w : i < length orbit.places = subst (λ j. i < j) a z in shift-one o i (shift_at x o i) (shift_at y o i) h.accepted (h.each o i orbit s w) (k.each o i orbit s w))
