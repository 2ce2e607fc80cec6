-- The displacements of the atoms from their marks, or the first atom without one.
use Rattle.std.proofs.Common.{◌≡◌, refl, sym, ap, ◌∙◌, subst, ℕ, ◌<◌, ◌≤◌, ◌+◌, inl, inr, ℤ, List, [], ◌∷◌, ◌++◌, length, Option, Some, None, get_or, slice_get, IfSome, arith}
use Rattle.std.proofs.lemmas.Bool.{cases_lt}
use Rattle.std.proofs.lemmas.List.{length_push, get_or_push, get_or_append_left, get_or_past}
use Rattle.std.proofs.lemmas.Option.{slice_get_within}
use Rattle.space_ops.specs.Op.{vector_of}
use Rattle.wyckoff.specs.Orbit.{OrbitView}
use Rattle.distort_match.specs.declared.errors.MatchError.{MatchError}
use Rattle.distort_match.specs.declared.errors.MatchError.TheVariants.{Unmatched, Ambiguous, MissingAtom, BadCell, OffGrid, NoMemory}
use Rattle.distort_match.specs.ListedCells.{IsBadCell}
use Rattle.distort_match.specs.Matches.{Matching}
use Rattle.distort_match.specs.Outcomes.{IsEarlier, shift_at, AreShiftsOf, IsMatched, IsMissing}
use Rattle.distort_match.specs.MarkParts.{mark_at, AreMarksFor, AreMarked, AreAllMarked, AreAllShifts, IsFirstMissing, IsOrbitCause, IsMissingCause}
use Rattle.distort_match.proofs.StepLemmas.{none_some}
use Rattle.distort_match.proofs.UniqueLemmas.{some_same}

abbrev Marks : Type 0
Marks = List (List (Option (List ℤ)))

module _ (m : Matching) where
  -- before the first place
  pub no_marks_made : (marks : Marks) → IfSome m.cell (λ c. IsBadCell m.group c → ⊥) → ((o i : ℕ) → mark_at marks o i ≡ None) → AreMarked m 0 0 marks
  no_marks_made marks good none = record {
    accepted = record { cell = good; on_grid = λ k line l e. absurd (omega (arith, l)); matched = λ k u e p. absurd (never k u e) };
    marked = λ o i v e. absurd (none_some v (sym (none o i) ∙ e));
    free = λ o i e k u f g. never k u f;
  }
    where
      never : (k u : ℕ) → IsEarlier k u 0 0 → ⊥
      never k u (inl l) = omega (arith, l)
      never k u (inr e) = omega (arith, e.1)

  module _ (marks : Marks) (a : AreMarked m (length m.listed) 0 marks) where
    pub all_shifts : (shifts : List (List (List ℤ))) → AreAllShifts m.orbits marks shifts → AreShiftsOf m shifts
    all_shifts shifts s = record {
      accepted = a.accepted;
      orbits = s.count;
      atoms = λ o orbit e. (s.each o orbit e).count;
      each = λ o i orbit e l. let b = a.marked o i (shift_at shifts o i) ((s.each o orbit e).each i l) in (b.0, b.1, b.3, b.4);
    }

    matched : (o i : ℕ) (v : List ℤ) → mark_at marks o i ≡ Some v → IsMatched m o i
    matched o i v e = let b = a.marked o i v e in (b.0, b.1, (vector_of v, b.3))

    pub first_missing : (label : List ℕ) (place : List ℤ) → IsFirstMissing m.orbits marks label place → IsMissing m label place
    first_missing label place h = record {
      accepted = a.accepted;
      o = h.o;
      i = h.free.i;
      orbit = h.orbit;
      is_orbit = h.is_orbit;
      below = h.free.below;
      missing = λ g. a.free h.o h.free.i h.free.free g.0 g.1 (inl (slice_get_within m.listed g.0 g.2.1.place.line g.2.1.place.is_line)) g.2;
      first = λ p j earlier e s l. before p j earlier e s l;
      label_is = h.free.label_is;
      place_is = h.free.place_is;
    }
      where
        before : (p j : ℕ) (earlier : OrbitView) → IsEarlier p j h.o h.free.i → slice_get m.orbits p ≡ Some earlier → j < length earlier.places → IsMatched m p j
        before p j earlier (inl q) s l = let b = h.first p j earlier q s l in matched p j b.0 b.1
        before p j earlier (inr e) s l = let b = h.free.first j e.1 in matched p j b.0 (ap (λ k. mark_at marks k j) e.0 ∙ b.1)

-- one atom more
pub row_more : (marks : List (Option (List ℤ))) (n : ℕ) (shifts : List (List ℤ)) (v : List ℤ) → AreAllMarked marks n shifts → get_or marks n None ≡ Some v
    → AreAllMarked marks (n + 1) (shifts ++ v ∷ [])
row_more marks n shifts v h e = record {
  count = let l : length (shifts ++ v ∷ []) ≡ length shifts + 1 = length_push shifts v in omega (arith, l, h.count);
  each = λ i l. elim (cases_lt i n) [
    | inl k ↦ h.each i k ∙ ap Some (sym (get_or_append_left shifts (v ∷ []) [] i (inside i k)))
    | inr k ↦ ap (λ j. get_or marks j None) (last i l k) ∙ e ∙ ap Some (sym (get_or_push shifts v [] i (h.count ∙ sym (last i l k))))
  ];
}
  where
    inside : (i : ℕ) → i < n → i < length shifts
    inside i k = let c = h.count in omega (arith, k, c)

    last : (i : ℕ) → i < n + 1 → n ≤ i → i ≡ n
    last i l k = omega (arith, l, k)

pub none_marked : (marks : List (Option (List ℤ))) → AreAllMarked marks 0 []
none_marked marks = record { count = refl; each = λ i l. absurd (omega (arith, l)) }

-- the displacements of the first n orbits
pub record AreShiftsBefore (orbits : List OrbitView) (marks : Marks) (n : ℕ) (shifts : List (List (List ℤ))) : Type 0 where
  pub count : length shifts ≡ n
  pub each : (o : ℕ) (orbit : OrbitView) → o < n → slice_get orbits o ≡ Some orbit → AreAllMarked (get_or marks o []) (length orbit.places) (get_or shifts o [])

pub none_before : (orbits : List OrbitView) (marks : Marks) → AreShiftsBefore orbits marks 0 []
none_before orbits marks = record { count = refl; each = λ o orbit l e. absurd (omega (arith, l)) }

-- one orbit more
pub orbit_before : (orbits : List OrbitView) (marks : Marks) (n : ℕ) (shifts : List (List (List ℤ))) (orbit : OrbitView) (row : List (List ℤ)) → AreShiftsBefore orbits marks n shifts
    → slice_get orbits n ≡ Some orbit → AreAllMarked (get_or marks n []) (length orbit.places) row → AreShiftsBefore orbits marks (n + 1) (shifts ++ row ∷ [])
orbit_before orbits marks n shifts orbit row h e r = record {
  count = let l : length (shifts ++ row ∷ []) ≡ length shifts + 1 = length_push shifts row in omega (arith, l, h.count);
  each = λ o other l f. elim (cases_lt o n) [
    | inl k ↦ subst (λ u. AreAllMarked (get_or marks o []) (length other.places) u) (sym (get_or_append_left shifts (row ∷ []) [] o (inside o k))) (h.each o other k f)
    | inr k ↦
        let s : o ≡ n = last o l k in
        let w : orbit ≡ other = some_same orbit other (sym e ∙ ap (slice_get orbits) (sym s) ∙ f) in
        subst (λ u. AreAllMarked (get_or marks o []) (length other.places) u) (sym (get_or_push shifts row [] o (h.count ∙ sym s)))
        (subst (λ (v : OrbitView). AreAllMarked (get_or marks o []) (length v.places) row) w (subst (λ p. AreAllMarked (get_or marks p []) (length orbit.places) row) (sym s) r))
  ];
}
  where
    inside : (i : ℕ) → i < n → i < length shifts
    inside i k = let c = h.count in omega (arith, k, c)

    last : (i : ℕ) → i < n + 1 → n ≤ i → i ≡ n
    last i l k = omega (arith, l, k)

pub all_before : (orbits : List OrbitView) (marks : Marks) (shifts : List (List (List ℤ))) → AreShiftsBefore orbits marks (length orbits) shifts → AreAllShifts orbits marks shifts
all_before orbits marks shifts h = record { count = h.count; each = λ o orbit e. h.each o orbit (slice_get_within orbits o orbit e) e }

-- no displacements for the first n orbits
pub record AreFreeBefore (orbits : List OrbitView) (n : ℕ) (marks : Marks) : Type 0 where
  pub count : length marks ≡ n
  pub atoms : (o : ℕ) (orbit : OrbitView) → o < n → slice_get orbits o ≡ Some orbit → length (get_or marks o []) ≡ length orbit.places
  pub free : (o i : ℕ) → mark_at marks o i ≡ None

abbrev Nothing : Option (List ℤ)
Nothing = None

nothing_at : (i : ℕ) → get_or [] i Nothing ≡ Nothing
nothing_at i = get_or_past [] i Nothing (omega arith)

pub none_free : (orbits : List OrbitView) → AreFreeBefore orbits 0 []
none_free orbits = record { count = refl; atoms = λ o orbit l e. absurd (omega (arith, l)); free = λ o i. ap (λ r. get_or r i None) (get_or_past [] o [] (omega arith)) ∙ nothing_at i }

pub orbit_free : (orbits : List OrbitView) (n : ℕ) (marks : Marks) (orbit : OrbitView) (row : List (Option (List ℤ))) → AreFreeBefore orbits n marks → slice_get orbits n ≡ Some orbit
    → length row ≡ length orbit.places → ((i : ℕ) → get_or row i None ≡ None) → AreFreeBefore orbits (n + 1) (marks ++ row ∷ [])
orbit_free orbits n marks orbit row h e r f = record {
  count = let l : length (marks ++ row ∷ []) ≡ length marks + 1 = length_push marks row in omega (arith, l, h.count);
  atoms = λ o other l g. elim (cases_lt o n) [
    | inl k ↦ ap length (get_or_append_left marks (row ∷ []) [] o (inside o k)) ∙ h.atoms o other k g
    | inr k ↦
        let s : o ≡ n = last o l k in
        ap length (get_or_push marks row [] o (h.count ∙ sym s)) ∙ r ∙ ap (λ (v : OrbitView). length v.places) (some_same orbit other (sym e ∙ ap (slice_get orbits) (sym s) ∙ g))
  ];
  free = λ o i. elim (cases_lt o n) [
    | inl k ↦ ap (λ u. get_or u i None) (get_or_append_left marks (row ∷ []) [] o (inside o k)) ∙ h.free o i
    | inr k ↦ elim (cases_lt n o) [
      | inl l ↦
          ap (λ u. get_or u i None) (get_or_past (marks ++ row ∷ []) o [] (let q : length (marks ++ row ∷ []) ≡ length marks + 1 = length_push marks row in let c = h.count in omega (arith, q, c, l))) ∙ nothing_at i
      | inr l ↦ ap (λ u. get_or u i None) (get_or_push marks row [] o (let c = h.count in omega (arith, c, k, l))) ∙ f i
    ]
  ];
}
  where
    inside : (i : ℕ) → i < n → i < length marks
    inside i k = let c = h.count in omega (arith, k, c)

    last : (i : ℕ) → i < n + 1 → n ≤ i → i ≡ n
    last i l k = omega (arith, l, k)

pub all_free : (orbits : List OrbitView) (marks : Marks) → AreFreeBefore orbits (length orbits) marks → AreMarksFor orbits marks
all_free orbits marks h = record { count = h.count; atoms = λ o orbit e. h.atoms o orbit (slice_get_within orbits o orbit e) e }

-- one atom more without a displacement
pub mark_free : (marks : List (Option (List ℤ))) → ((i : ℕ) → get_or marks i None ≡ None) → (i : ℕ) → get_or (marks ++ None ∷ []) i None ≡ None
mark_free marks h i = elim (cases_lt i (length marks)) [
  | inl l ↦ get_or_append_left marks (None ∷ []) None i l ∙ h i
  | inr l ↦ elim (cases_lt (length marks) i) [
    | inl k ↦ get_or_past (marks ++ None ∷ []) i None (let q : length (marks ++ None ∷ []) ≡ length marks + 1 = length_push marks None in omega (arith, q, k))
    | inr k ↦ get_or_push marks None None i (omega (arith, l, k))
  ]
]

-- the first orbit with an atom that has none
pub missing_cause : (orbits : List OrbitView) (marks : Marks) (n : ℕ) (shifts : List (List (List ℤ))) (orbit : OrbitView) (error : MatchError) → AreShiftsBefore orbits marks n shifts
    → slice_get orbits n ≡ Some orbit → IsOrbitCause orbit (get_or marks n []) error → IsMissingCause orbits marks error
missing_cause orbits marks n shifts orbit (MissingAtom label place) h e k = record {
  o = n;
  orbit = orbit;
  is_orbit = e;
  free = k;
  first = λ p i earlier l f b. (get_or (get_or shifts p []) i [], (h.each p earlier l f).each i b);
}
missing_cause orbits marks n shifts orbit NoMemory h e k = tt
missing_cause orbits marks n shifts orbit (Unmatched l) h e k = absurd k
missing_cause orbits marks n shifts orbit (Ambiguous l) h e k = absurd k
missing_cause orbits marks n shifts orbit (BadCell l) h e k = absurd k
missing_cause orbits marks n shifts orbit (OffGrid l) h e k = absurd k
