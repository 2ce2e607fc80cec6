-- The atoms that lines name.
use Rattle.std.proofs.Common.{◌≡◌, sym, ap, ◌∙◌, subst, refl, ℕ, zero, suc, ◌<◌, ◌+◌, ◌⊎◌, inl, inr, ℤ, List, [], ◌∷◌, ◌++◌, length, map, Option, Some, None, option_map, slice_get, arith}
use Rattle.std.proofs.lemmas.Bool.{cases_lt}
use Rattle.std.proofs.lemmas.List.{length_push}
use Rattle.std.proofs.lemmas.Option.{slice_get-map, slice_get_cases, slice_get_within, none-some, same_Some}
use Rattle.space_ops.specs.Matrix.{Vector}
use Rattle.space_ops.specs.Op.{vector_of}
use Rattle.wyckoff.specs.Orbit.{OrbitView}
use Rattle.wyckoff.specs.Places.{place_at}
use Rattle.extra_modes.specs.declared.amount_lines.AmountLine.{AmountLine}
use Rattle.extra_modes.specs.declared.named_atoms.AtomNumber.{AtomNumber}
use Rattle.extra_modes.specs.Amounts.{LabelledPlaces, labelled, Naming, IsInPlace, HasAtom, Names, IsAccepted, IsUnmatched, IsAmbiguous}
use Rattle.extra_modes.specs.GatherParts.{IsPlaceFound, IsAtomFoundIn, AreApart, AreNamed}

-- below n + 1: below n, or n
pub below_or : (i n : ℕ) → i < n + 1 → (i < n) ⊎ (i ≡ n)
below_or i n l = elim (cases_lt i n) [ inl m ↦ inl m | inr m ↦ inr (omega (arith, l, m)) ]

pub labelled_at : (orbits : List OrbitView) (o : ℕ) (orbit : OrbitView) → slice_get orbits o ≡ Some orbit → slice_get (map labelled orbits) o ≡ Some (labelled orbit)
labelled_at orbits o orbit e = slice_get-map labelled orbits o ∙ ap (option_map labelled) e

module _ (d : List ℕ) (label : List ℕ) (x : Vector ℤ) (orbits : List OrbitView) (o : ℕ) (orbit : OrbitView) (is : slice_get orbits o ≡ Some orbit) where
  same_orbit : (i : ℕ) (u : HasAtom d (map labelled orbits) label x o i) → u.orbit ≡ labelled orbit
  same_orbit i u = same_Some u.orbit (labelled orbit) (sym u.is_orbit ∙ labelled_at orbits o orbit is)

  -- the orbit has the label
  pub orbit_found : orbit.label ≡ label → (found : Option ℕ) → IsPlaceFound d x orbit.places found → IsAtomFoundIn d (map labelled orbits) label x o found
  orbit_found l None h = λ i u.
      h i (subst (λ (w : LabelledPlaces). i < length w.places) (same_orbit i u) u.below)
      (subst (λ (w : LabelledPlaces). IsInPlace d x (place_at w.places i)) (same_orbit i u) u.place_is)
  orbit_found l (Some i) h = record { orbit = labelled orbit; is_orbit = labelled_at orbits o orbit is; below = h.0; label_is = l; place_is = h.1 }

  -- or it hasn't
  pub orbit_other : (orbit.label ≡ label → ⊥) → (i : ℕ) → HasAtom d (map labelled orbits) label x o i → ⊥
  orbit_other n i u = n (sym (ap (λ (w : LabelledPlaces). w.label) (same_orbit i u)) ∙ u.label_is)

pub slice_get_push : {X : Type 0} (xs : List X) (x : X) (k : ℕ) (y : X) → slice_get (xs ++ x ∷ []) k ≡ Some y → (slice_get xs k ≡ Some y) ⊎ ((k ≡ length xs) × (x ≡ y))
slice_get_push [] x zero y e = inr (refl, same_Some x y e)
slice_get_push [] x (suc k) y e = absurd (none-some y e)
slice_get_push (w ∷ xs) x zero y e = inl e
slice_get_push (w ∷ xs) x (suc k) y e = elim (slice_get_push xs x k y e) [ inl f ↦ inl f | inr f ↦ inr (ap suc f.0, f.1) ]

-- a line names one atom
pub one_name : (g : Naming) → AreApart g.d g.orbits → (k o i p j : ℕ) → Names g k o i → Names g k p j → (o ≡ p) × (i ≡ j)
one_name g apart k o i p j u w =
    apart u.line.label (vector_of u.line.place) o i p j u.atom
    (subst (λ (l : AmountLine). HasAtom g.d g.orbits l.label (vector_of l.place) p j) (same_Some w.line u.line (sym w.is_line ∙ u.is_line)) w.atom)

same_number : (a b : AtomNumber) → a.orbit ≡ b.orbit → a.atom ≡ b.atom → a ≡ b
same_number a b e f = λ i. record { orbit = e i; atom = f i }

module _ (g : Naming) (apart : AreApart g.d g.orbits) (n : ℕ) (line : AmountLine) (is : slice_get g.lines n ≡ Some line) (atoms : List AtomNumber) (h : AreNamed g n atoms) where
  same_line : (o i : ℕ) (w : Names g n o i) → w.line ≡ line
  same_line o i w = same_Some w.line line (sym w.is_line ∙ is)

  -- line n names no atom
  pub line_unmatched : ((o i : ℕ) → HasAtom g.d g.orbits line.label (vector_of line.place) o i → ⊥) → IsUnmatched g line.line
  line_unmatched none = record {
    n = n;
    accepted = h.accepted;
    text = line;
    is_text = is;
    none = λ o i w. none o i (subst (λ (l : AmountLine). HasAtom g.d g.orbits l.label (vector_of l.place) o i) (same_line o i w) w.atom);
    line_is = refl;
  }

  module _ (a : AtomNumber) (found : HasAtom g.d g.orbits line.label (vector_of line.place) a.orbit a.atom) where
    abbrev names_it : Names g n a.orbit a.atom
    names_it = record { line = line; is_line = is; atom = found }

    -- an earlier line names that atom
    pub line_ambiguous : (k : ℕ) → slice_get atoms k ≡ Some a → IsAmbiguous g line.line
    line_ambiguous k e = record {
      n = n;
      accepted = h.accepted;
      o = a.orbit;
      i = a.atom;
      named = names_it;
      taken = (k, let l = slice_get_within atoms k a e in let c = h.count in omega (arith, l, c), h.names k a e);
      line_is = refl;
    }

    line_accepted : ((k : ℕ) → slice_get atoms k ≡ Some a → ⊥) → IsAccepted g n
    line_accepted new = record {
      names = (a.orbit, a.atom, names_it);
      new = λ o i w (k, l, v). elim ((slice_get_cases atoms k).1) [
        | inl f ↦
            let b : AtomNumber = f.0 in
            let e = one_name g apart n a.orbit a.atom o i names_it w in
            let q = one_name g apart k b.orbit b.atom o i (h.names k b f.2) v in
            new k (f.2 ∙ ap Some (same_number b a (q.0 ∙ sym e.0) (q.1 ∙ sym e.1)))
        | inr f ↦ let m = f.0 in let c = h.count in absurd (omega (arith, l, m, c))
      ];
    }

    -- the line is accepted
    pub line_named : ((k : ℕ) → slice_get atoms k ≡ Some a → ⊥) → AreNamed g (n + 1) (atoms ++ a ∷ [])
    line_named new = record {
      count = length_push atoms a ∙ ap (λ m. m + 1) h.count;
      accepted = λ k l. elim (below_or k n l) [ inl m ↦ h.accepted k m | inr e ↦ subst (IsAccepted g) (sym e) (line_accepted new) ];
      names = λ k b e. elim (slice_get_push atoms a k b e) [
        | inl f ↦ h.names k b f
        | inr f ↦ subst (λ m. Names g m b.orbit b.atom) (sym (f.0 ∙ h.count)) (subst (λ (c : AtomNumber). Names g n c.orbit c.atom) f.1 names_it)
      ];
    }
