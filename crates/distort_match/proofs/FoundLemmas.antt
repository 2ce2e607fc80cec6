-- What is found in two places, at one atom, in an orbit and in all orbits.
use Rattle.std.proofs.Common.{◌≡◌, refl, sym, ap, ◌∙◌, subst, ℕ, ◌<◌, ◌+◌, inl, inr, ◌⊎◌, ℤ, List, length, Option, Some, None, slice_get, arith}
use Rattle.std.proofs.lemmas.Bool.{cases_lt}
use Rattle.space_ops.specs.Matrix.{Vector}
use Rattle.space_ops.specs.Op.{vector_of}
use Rattle.wyckoff.specs.Orbit.{OrbitView}
use Rattle.wyckoff.specs.Places.{place_at}
use Rattle.distort_match.specs.declared.found.Found.{Found}
use Rattle.distort_match.specs.declared.found.Found.TheVariants.{Nothing, One, Many}
use Rattle.distort_match.specs.Matches.{IsDisplacement}
use Rattle.distort_match.specs.FoundParts.{IsDisplacementFound, IsOnly, AreTwo, IsFound, both_of, found_of, IsAtomBelow, IsAtomIn, IsAtomOf}

module _ (P R : ℕ → ℕ → Vector ℤ → Type 0) (to : (o i : ℕ) (v : Vector ℤ) → P o i v → R o i v) where
  two_to : AreTwo P → AreTwo R
  two_to h = record {
    orbit = h.orbit;
    atom = h.atom;
    orbit' = h.orbit';
    atom' = h.atom';
    shift = h.shift;
    shift' = h.shift';
    first = to h.orbit h.atom h.shift h.first;
    second = to h.orbit' h.atom' h.shift' h.second;
    apart = h.apart;
  }

  -- the same atoms
  pub found_same : ((o i : ℕ) (v : Vector ℤ) → R o i v → P o i v) → (f : Found) → IsFound P f → IsFound R f
  found_same from Nothing h = λ o i v r. h o i v (from o i v r)
  found_same from (One o i v) h = record { is = to o i (vector_of v) h.is; shaped = h.shaped; only = λ p j w r. h.only p j w (from p j w r) }
  found_same from Many h = two_to h

module _ (P Q R : ℕ → ℕ → Vector ℤ → Type 0) (left : (o i : ℕ) (v : Vector ℤ) → P o i v → R o i v) (right : (o i : ℕ) (v : Vector ℤ) → Q o i v → R o i v)
    (split : (o i : ℕ) (v : Vector ℤ) → R o i v → P o i v ⊎ Q o i v)
    (apart : (o i p j : ℕ) (v w : Vector ℤ) → P o i v → Q p j w → (o ≡ p) × (i ≡ j) → ⊥) where
  only_left : (o i : ℕ) (v : List ℤ) → IsOnly P o i v → ((p j : ℕ) (w : Vector ℤ) → Q p j w → ⊥) → IsOnly R o i v
  only_left o i v h none = record {
    is = left o i (vector_of v) h.is;
    shaped = h.shaped;
    only = λ p j w r. elim (split p j w r) [ inl a ↦ h.only p j w a | inr b ↦ absurd (none p j w b) ];
  }

  only_right : (o i : ℕ) (v : List ℤ) → ((p j : ℕ) (w : Vector ℤ) → P p j w → ⊥) → IsOnly Q o i v → IsOnly R o i v
  only_right o i v none h = record {
    is = right o i (vector_of v) h.is;
    shaped = h.shaped;
    only = λ p j w r. elim (split p j w r) [ inl a ↦ absurd (none p j w a) | inr b ↦ h.only p j w b ];
  }

  -- what is found in two places
  pub both_found : (f g : Found) → IsFound P f → IsFound Q g → IsFound R (both_of f g)
  both_found Nothing Nothing h k = λ o i v r. elim (split o i v r) [ inl a ↦ h o i v a | inr b ↦ k o i v b ]
  both_found Nothing (One o i v) h k = only_right o i v h k
  both_found Nothing Many h k = two_to Q R right k
  both_found (One o i v) Nothing h k = only_left o i v h k
  both_found (One o i v) (One p j w) h k = record {
    orbit = o;
    atom = i;
    orbit' = p;
    atom' = j;
    shift = vector_of v;
    shift' = vector_of w;
    first = left o i (vector_of v) h.is;
    second = right p j (vector_of w) k.is;
    apart = apart o i p j (vector_of v) (vector_of w) h.is k.is;
  }
  both_found (One o i v) Many h k = two_to Q R right k
  both_found Many g h k = two_to P R left h

-- below n + 1: below n, or n
below_or : (i n : ℕ) → i < n + 1 → (i < n) ⊎ (i ≡ n)
below_or i n l = elim (cases_lt i n) [ inl m ↦ inl m | inr m ↦ inr (omega (arith, l, m)) ]

module _ (d : List ℕ) (tolerance : ℤ) (x : Vector ℤ) where
  module _ (o : ℕ) (places : List (List ℤ)) where
    -- atom n alone
    IsAtom : ℕ → ℕ → ℕ → Vector ℤ → Type 0
    IsAtom n p i v = (p ≡ o) × (i ≡ n) × IsDisplacement d tolerance x (place_at places i) v

    at_atom : (n : ℕ) (shift : Option (List ℤ)) → IsDisplacementFound d tolerance x (place_at places n) shift → IsFound (IsAtom n) (found_of o n shift)
    unfolding IsAtom
    at_atom n None h = λ p i v k. h v (subst (λ j. IsDisplacement d tolerance x (place_at places j) v) k.1 k.2)
    at_atom n (Some v) h = record { is = (refl, refl, h.0); shaped = h.1; only = λ p i w k. (k.0, k.1) }

    pub no_atoms : IsFound (IsAtomBelow d tolerance x o places 0) Nothing
    no_atoms p i v k = omega (arith, k.1)

    -- one atom more
    pub atom_more : (n : ℕ) (shift : Option (List ℤ)) (f : Found) → IsDisplacementFound d tolerance x (place_at places n) shift → IsFound (IsAtomBelow d tolerance x o places n) f
        → IsFound (IsAtomBelow d tolerance x o places (n + 1)) (both_of f (found_of o n shift))
    unfolding IsAtom
    atom_more n shift f h k =
        both_found (IsAtomBelow d tolerance x o places n) (IsAtom n) (IsAtomBelow d tolerance x o places (n + 1)) (λ p i v a. (a.0, omega (arith, a.1), a.2)) (λ p i v a. (a.0, omega (arith, a.1), a.2))
        (λ p i v r. elim (below_or i n r.1) [ inl l ↦ inl (r.0, l, r.2) | inr e ↦ inr (r.0, e, r.2) ])
        (λ p i q j v w a b e. omega (arith, a.1, b.1, e.1)) f (found_of o n shift) k (at_atom n shift h)

  module _ (label : List ℕ) (orbits : List OrbitView) where
    same_orbit : (o : ℕ) (u v : OrbitView) → slice_get orbits o ≡ Some u → slice_get orbits o ≡ Some v → u ≡ v
    same_orbit o u v e f = some_same (sym e ∙ f)
      where
        some_same : Some u ≡ Some v → u ≡ v
        some_same h = ap (λ w. elim w [ None ↦ u | Some y ↦ y ]) h

    -- orbit o has the label
    pub orbit_labelled : (o : ℕ) (orbit : OrbitView) → slice_get orbits o ≡ Some orbit → orbit.label ≡ label → (f : Found)
        → IsFound (IsAtomBelow d tolerance x o orbit.places (length orbit.places)) f → IsFound (IsAtomIn d tolerance x label orbits o) f
    orbit_labelled o orbit e l f h =
        found_same (IsAtomBelow d tolerance x o orbit.places (length orbit.places)) (IsAtomIn d tolerance x label orbits o)
        (λ p i v a. (a.0, record { orbit = orbit; is_orbit = ap (slice_get orbits) a.0 ∙ e; below = a.1; label_is = l; displaces = a.2 }))
        (λ p i v b.
        let s : b.1.orbit ≡ orbit = same_orbit o b.1.orbit orbit (ap (slice_get orbits) (sym b.0) ∙ b.1.is_orbit) e in
        (b.0, subst (λ (w : OrbitView). i < length w.places) s b.1.below, subst (λ (w : OrbitView). IsDisplacement d tolerance x (place_at w.places i) v) s b.1.displaces)) f h

    -- or it hasn't
    pub orbit_unlabelled : (o : ℕ) (orbit : OrbitView) → slice_get orbits o ≡ Some orbit → (orbit.label ≡ label → ⊥) → IsFound (IsAtomIn d tolerance x label orbits o) Nothing
    orbit_unlabelled o orbit e n p i v b =
        n (ap (λ (w : OrbitView). w.label) (sym (same_orbit o b.1.orbit orbit (ap (slice_get orbits) (sym b.0) ∙ b.1.is_orbit) e)) ∙ b.1.label_is)

    pub no_orbits : IsFound (IsAtomOf d tolerance x label orbits 0) Nothing
    no_orbits p i v k = omega (arith, k.0)

    -- one orbit more
    pub orbit_more : (n : ℕ) (f g : Found) → IsFound (IsAtomOf d tolerance x label orbits n) f → IsFound (IsAtomIn d tolerance x label orbits n) g
        → IsFound (IsAtomOf d tolerance x label orbits (n + 1)) (both_of f g)
    orbit_more n f g h k =
        both_found (IsAtomOf d tolerance x label orbits n) (IsAtomIn d tolerance x label orbits n) (IsAtomOf d tolerance x label orbits (n + 1)) (λ p i v a. (omega (arith, a.0), a.1))
        (λ p i v a. (omega (arith, a.0), a.1)) (λ p i v r. elim (below_or p n r.0) [ inl l ↦ inl (l, r.1) | inr e ↦ inr (e, r.1) ])
        (λ p i q j v w a b e. omega (arith, a.0, b.0, e.0)) f g h k
