-- The numbers that lines give.
use Rattle.std.proofs.Common.{◌≡◌, sym, ap, ◌∙◌, subst, ℕ, ◌<◌, ◌+◌, ◌⊎◌, inl, inr, ℤ, List, [], length, map, option_map, Some, get_or, set, slice_get, arith}
use Rattle.std.proofs.lemmas.Bool.{cases_order}
use Rattle.std.proofs.lemmas.List.{length-map, length-set, get_or-map, get_or-set_same, get_or-set_other}
use Rattle.std.proofs.lemmas.Option.{slice_get-map, slice_get_within, slice_get-get_or, get_or_from_slice_get, same_Some}
use Rattle.space_ops.specs.Op.{vector_of}
use Rattle.wyckoff.specs.Orbit.{OrbitView}
use Rattle.extra_modes.specs.declared.amount_lines.AmountLine.{AmountLine}
use Rattle.extra_modes.specs.declared.named_atoms.AtomNumber.{AtomNumber}
use Rattle.extra_modes.specs.Amounts.{LabelledPlaces, labelled, Naming, HasAtom, Names, AmountsView, IsAmountOf, AreAmounts, nothing}
use Rattle.extra_modes.specs.GatherParts.{AreApart, AreNamed, numbers_at, set_numbers, no_numbers, AreRowsFor, IsGiven, AreGiven}
use Rattle.extra_modes.specs.NamedAtomLaws.{map-behind}
use Rattle.extra_modes.proofs.NamedLemmas.{below_or, one_name}

abbrev Rows : Type 0
Rows = List (List (List ℤ))

-- nothing is given
module _ (d : List ℕ) (orbits : List OrbitView) (lines : List AmountLine) where
  abbrev g0 : Naming
  g0 = record { d = d; orbits = map labelled orbits; lines = lines }

  none_row : (o : ℕ) (w : OrbitView) → slice_get orbits o ≡ Some w → get_or (no_numbers orbits) o [] ≡ map (λ place. nothing) w.places
  none_row o w e =
      let f : OrbitView → List (List ℤ) = λ v. map (λ place. nothing) v.places in
      get_or_from_slice_get (no_numbers orbits) o (f w) [] (slice_get-map f orbits o ∙ ap (option_map f) e)

  none_shape : AreRowsFor (map labelled orbits) (no_numbers orbits)
  none_shape = record {
    count = length-map orbits (λ (o : OrbitView). map (λ place. nothing) o.places) ∙ sym (length-map orbits labelled);
    atoms = λ o orbit e.
        let w = map-behind labelled orbits o orbit e in
        ap length (none_row o w.0 w.1) ∙ length-map w.0.places (λ place. nothing) ∙ ap (λ (l : LabelledPlaces). length l.places) w.2;
  }

  pub none_given : AreGiven g0 0 (no_numbers orbits)
  none_given = record {
    shape = none_shape;
    given = λ o i orbit e l.
        let w = map-behind labelled orbits o orbit e in
        let m : i < length w.0.places = subst (λ (v : LabelledPlaces). i < length v.places) (sym w.2) l in
        inr (λ k b n. omega (arith, b), ap (λ r. get_or r i []) (none_row o w.0 w.1) ∙ get_or-map (λ place. nothing) w.0.places i [] [] m);
  }

module _ (g : Naming) (apart : AreApart g.d g.orbits) where
  -- all lines have given
  pub all_given : (each : ℕ) (rows : Rows) (atoms : List AtomNumber) → AreNamed g (length g.lines) atoms → AreGiven g (length g.lines) rows → (v : AmountsView) → v.each ≡ each → v.atoms ≡ rows
      → AreAmounts g each v
  all_given each rows atoms h a v e f = record {
    accepted = h.accepted;
    each_is = e;
    orbits = ap length f ∙ a.shape.count;
    atoms = λ o orbit s. ap (λ (r : Rows). length (get_or r o [])) f ∙ a.shape.atoms o orbit s;
    amounts = λ o i orbit s l. subst (λ (r : Rows). IsAmountOf g o i (numbers_at r o i)) (sym f) (amount o i (numbers_at rows o i) (a.given o i orbit s l));
  }
    where
      amount : (o i : ℕ) (x : List ℤ) → IsGiven g (length g.lines) o i x → IsAmountOf g o i x
      amount o i x (inl (k, w, l, q)) = inl (k, w, q)
      amount o i x (inr (none, q)) = inr (λ k w. none k (slice_get_within g.lines k w.line w.is_line) w, q)

  module _ (n : ℕ) (line : AmountLine) (is : slice_get g.lines n ≡ Some line) (a : AtomNumber) (names : Names g n a.orbit a.atom) (rows : Rows) (h : AreGiven g n rows) where
    pub orbit_inside : a.orbit < length rows
    orbit_inside =
        let l : a.orbit < length g.orbits = slice_get_within g.orbits a.orbit names.atom.orbit names.atom.is_orbit in
        let c = h.shape.count in
        omega (arith, l, c)

    pub atom_inside : a.atom < length (get_or rows a.orbit [])
    atom_inside =
        let l : a.atom < length names.atom.orbit.places = names.atom.below in
        let c : length (get_or rows a.orbit []) ≡ length names.atom.orbit.places = h.shape.atoms a.orbit names.atom.orbit names.atom.is_orbit in
        omega (arith, l, c)

    abbrev row : List (List ℤ)
    row = get_or rows a.orbit []

    abbrev rows' : Rows
    rows' = set_numbers rows a.orbit a.atom line.numbers

    row_itself : get_or rows' a.orbit [] ≡ set row a.atom line.numbers
    row_itself = get_or-set_same rows a.orbit (set row a.atom line.numbers) [] orbit_inside

    row_other : (o : ℕ) → (o ≡ a.orbit → ⊥) → get_or rows' o [] ≡ get_or rows o []
    row_other o f = get_or-set_other rows a.orbit o (set row a.atom line.numbers) [] f

    unequal : (i j : ℕ) → (i < j) ⊎ (j < i) → i ≡ j → ⊥
    unequal i j (inl l) e = omega (arith, l, e)
    unequal i j (inr l) e = omega (arith, l, e)

    more_shape : AreRowsFor g.orbits rows'
    more_shape = record {
      count = length-set rows a.orbit (set row a.atom line.numbers) ∙ h.shape.count;
      atoms = λ o orbit e. elim (cases_order o a.orbit) [
        | inl f ↦
            ap (λ p. length (get_or rows' p [])) f ∙ ap length row_itself ∙ length-set row a.atom line.numbers ∙ ap (λ p. length (get_or rows p [])) (sym f) ∙ h.shape.atoms o orbit e
        | inr f ↦ ap length (row_other o (unequal o a.orbit f)) ∙ h.shape.atoms o orbit e
      ];
    }

    -- the atom itself, or one that keeps its numbers
    itself_or : (o i : ℕ) → ((o ≡ a.orbit) × (i ≡ a.atom)) ⊎ ((numbers_at rows' o i ≡ numbers_at rows o i) × ((o ≡ a.orbit) × (i ≡ a.atom) → ⊥))
    itself_or o i = elim (cases_order o a.orbit) [
      | inl e ↦ elim (cases_order i a.atom) [
        | inl f ↦ inl (e, f)
        | inr f ↦
            inr (
              ap (λ p. numbers_at rows' p i) e ∙ ap (λ r. get_or r i []) row_itself ∙ get_or-set_other row a.atom i line.numbers [] (unequal i a.atom f)
                  ∙ ap (λ p. numbers_at rows p i) (sym e),
              λ q. unequal i a.atom f q.1,
            )
      ]
      | inr f ↦ inr (ap (λ r. get_or r i []) (row_other o (unequal o a.orbit f)), λ q. unequal o a.orbit f q.0)
    ]

    kept : (o i : ℕ) → ((o ≡ a.orbit) × (i ≡ a.atom) → ⊥) → (x y : List ℤ) → y ≡ x → IsGiven g n o i x → IsGiven g (n + 1) o i y
    kept o i f x y q (inl (k, w, l, e)) = inl (k, w, omega (arith, l), q ∙ e)
    kept o i f x y q (inr (none, e)) =
        inr (
          λ k l w. elim (below_or k n l) [
            | inl m ↦ none k m w
            | inr s ↦ f (one_name g apart n o i a.orbit a.atom (subst (λ p. Names g p o i) s w) names)
          ],
          q ∙ e,
        )

    found : HasAtom g.d g.orbits line.label (vector_of line.place) a.orbit a.atom
    found =
        subst (λ (l : AmountLine). HasAtom g.d g.orbits l.label (vector_of l.place) a.orbit a.atom) (same_Some names.line line (sym names.is_line ∙ is)) names.atom

    -- line n gives its numbers
    pub line_given : AreGiven g (n + 1) rows'
    line_given = record {
      shape = more_shape;
      given = λ o i orbit e l. elim (itself_or o i) [
        | inl f ↦
            inl (
              n,
              record { line = line; is_line = is; atom = subst (λ p. HasAtom g.d g.orbits line.label (vector_of line.place) p i) (sym f.0) (subst (HasAtom g.d g.orbits line.label (vector_of line.place) a.orbit) (sym f.1) found) },
              omega arith,
              ap (λ p. numbers_at rows' p i) f.0 ∙ ap (λ r. get_or r i []) row_itself ∙ ap (λ j. get_or (set row a.atom line.numbers) j []) f.1
                  ∙ get_or-set_same row a.atom line.numbers [] atom_inside,
            )
        | inr f ↦ kept o i f.1 (numbers_at rows o i) (numbers_at rows' o i) f.0 (h.given o i orbit e l)
      ];
    }

-- the atom of each line
pub all_names : (g : Naming) (atoms : List AtomNumber) → AreNamed g (length g.lines) atoms → (n : ℕ) → n < length g.lines
    → let a : AtomNumber = get_or atoms n (record { orbit = 0; atom = 0 }) in Names g n a.orbit a.atom
all_names g atoms h n l =
    let c = h.count in
    h.names n (get_or atoms n (record { orbit = 0; atom = 0 })) (slice_get-get_or atoms n (record { orbit = 0; atom = 0 }) (omega (arith, l, c)))
