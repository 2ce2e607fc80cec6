-- The places of the lines, taken one after the other.
use Rattle.std.proofs.Common.{◌≡◌, refl, sym, ap, ◌∙◌, subst, ℕ, ◌<◌, ◌≤◌, ◌+◌, inl, inr, ◌⊎◌, ℤ, List, [], length, Option, Some, None, get_or, set, slice_get, arith}
use Rattle.std.proofs.lemmas.Bool.{cases_order, cases_lt}
use Rattle.std.proofs.lemmas.List.{get_or-set_same, get_or-set_other}
use Rattle.std.proofs.lemmas.Option.{slice_get_within}
use Rattle.iso_text.specs.declared.sections.AtomText.{AtomText}
use Rattle.space_ops.specs.Matrix.{Vector}
use Rattle.space_ops.specs.Op.{vector_of, shift_of}
use Rattle.wyckoff.specs.Places.{place_at}
use Rattle.distort_match.specs.Matches.{Matching, IsOnGrid, ListedPlace, IsDisplacement, Matches, MatchesAtom}
use Rattle.distort_match.specs.Outcomes.{IsEarlier, MatchesOne, IsUnmatched, IsAmbiguous}
use Rattle.distort_match.specs.FoundParts.{AreTwo, IsAtomOf}
use Rattle.distort_match.specs.MarkParts.{mark_at, AreMarksFor, IsPlaced, IsTakenMark, AreMarked}
use Rattle.distort_match.proofs.UniqueLemmas.{some_same, place_line, place-unique}

abbrev Marks : Type 0
Marks = List (List (Option (List ℤ)))

earlier_more : (k u n t : ℕ) → IsEarlier k u n t → IsEarlier k u n (t + 1)
earlier_more k u n t (inl l) = inl l
earlier_more k u n t (inr e) = inr (e.0, omega (arith, e.1))

earlier_or : (k u n t : ℕ) → IsEarlier k u n (t + 1) → IsEarlier k u n t ⊎ ((k ≡ n) × (u ≡ t))
earlier_or k u n t (inl l) = inl (inl l)
earlier_or k u n t (inr e) = elim (cases_lt u t) [ inl l ↦ inl (inr (e.0, l)) | inr l ↦ inr (e.0, omega (arith, l, e.1)) ]

earlier_line : (k u n t : ℕ) → IsEarlier k u (n + 1) 0 → (k < n) ⊎ (k ≡ n)
earlier_line k u n t (inl l) = elim (cases_lt k n) [ inl m ↦ inl m | inr m ↦ inr (omega (arith, l, m)) ]
earlier_line k u n t (inr e) = absurd (omega (arith, e.1))

pub none_some : {A : Type 0} → (a : A) → None ≡ Some a → ⊥
none_some a e = let f : Option _ → Type 0 = λ o. elim o [ None ↦ Unit {0} | Some y ↦ ⊥ ] in subst f e tt

module _ (m : Matching) (n t : ℕ) where
  -- no place has this number
  pub number_skipped : (marks : Marks) → (ListedPlace m n t → ⊥) → AreMarked m n t marks → AreMarked m n (t + 1) marks
  number_skipped marks none a = record {
    accepted = record {
      cell = a.accepted.cell;
      on_grid = a.accepted.on_grid;
      matched = λ k u e p. elim (earlier_or k u n t e) [
        | inl f ↦ a.accepted.matched k u f p
        | inr f ↦ absurd (none (subst (λ j. ListedPlace m n j) f.1 (subst (λ j. ListedPlace m j u) f.0 p)))
      ];
    };
    marked = λ o i v e. let h = a.marked o i v e in (h.0, h.1, earlier_more h.0 h.1 n t h.2, h.3, h.4);
    free = λ o i e k u f g. elim (earlier_or k u n t f) [
      | inl h ↦ a.free o i e k u h g
      | inr h ↦ none (subst (λ j. ListedPlace m n j) h.1 (subst (λ j. ListedPlace m j u) h.0 g.1.place))
    ];
  }

  -- all places of a line are taken
  pub line_taken : (marks : Marks) → ((u : ℕ) → ListedPlace m n u → u < t) → ((line : AtomText) → slice_get m.listed n ≡ Some line → IsOnGrid m.cell line)
      → AreMarked m n t marks → AreMarked m (n + 1) 0 marks
  line_taken marks all grid a = record {
    accepted = record {
      cell = a.accepted.cell;
      on_grid = λ k line l e. elim (cases_lt k n) [ inl f ↦ a.accepted.on_grid k line f e | inr f ↦ grid line (ap (slice_get m.listed) (sym (same k l f)) ∙ e) ];
      matched = λ k u e p. elim (earlier_line k u n t e) [
        | inl f ↦ a.accepted.matched k u (inl f) p
        | inr f ↦ a.accepted.matched k u (inr (f, all u (subst (λ j. ListedPlace m j u) f p))) p
      ];
    };
    marked = λ o i v e. let h = a.marked o i v e in (h.0, h.1, inl (before h.0 h.1 h.2), h.3, h.4);
    free = λ o i e k u f g. elim (earlier_line k u n t f) [
      | inl h ↦ a.free o i e k u (inl h) g
      | inr h ↦ a.free o i e k u (inr (h, all u (subst (λ j. ListedPlace m j u) h g.1.place))) g
    ];
  }
    where
      same : (k : ℕ) → k < n + 1 → n ≤ k → k ≡ n
      same k l f = omega (arith, l, f)

      before : (k u : ℕ) → IsEarlier k u n t → k < n + 1
      before k u (inl l) = omega (arith, l)
      before k u (inr e) = omega (arith, e.0)

  module _ (p : ListedPlace m n t) where
    abbrev P : ℕ → ℕ → Vector ℤ → Type 0
    P = IsAtomOf m.group.d m.tolerance p.x p.line.label m.orbits (length m.orbits)

    atom_matches : (o i : ℕ) (v : Vector ℤ) → P o i v → Matches m n t o i v
    atom_matches o i v h = record { place = p; orbit = h.1.orbit; is_orbit = h.1.is_orbit; below = h.1.below; label = h.1.label_is; displaces = h.1.displaces }

    match_atom : (o i : ℕ) (v : Vector ℤ) → Matches m n t o i v → P o i v
    match_atom o i v h = (
      slice_get_within m.orbits o h.orbit h.is_orbit,
      record {
        orbit = h.orbit;
        is_orbit = h.is_orbit;
        below = h.below;
        label_is = h.label ∙ ap (λ (l : AtomText). l.label) (place_line m n t h.place p);
        displaces = subst (λ (x : Vector ℤ). IsDisplacement m.group.d m.tolerance x (place_at h.orbit.places i) v) (place-unique m n t h.place p) h.displaces;
      },
    )

    -- why the place is refused
    pub place_unmatched : (marks : Marks) → AreMarked m n t marks → ((o i : ℕ) (v : Vector ℤ) → P o i v → ⊥) → IsUnmatched m p.line.line
    place_unmatched marks a none = record { n = n; t = t; accepted = a.accepted; place = p; none = λ o i h. none o i h.0 (match_atom o i h.0 h.1); line_is = refl }

    pub place_twice : (marks : Marks) → AreMarked m n t marks → AreTwo P → IsAmbiguous m p.line.line
    place_twice marks a h = record {
      n = n;
      t = t;
      accepted = a.accepted;
      place = p;
      ambiguous =
          inl (record {
            orbit = h.orbit;
            atom = h.atom;
            orbit' = h.orbit';
            atom' = h.atom';
            first = (h.shift, atom_matches h.orbit h.atom h.shift h.first);
            second = (h.shift', atom_matches h.orbit' h.atom' h.shift' h.second);
            apart = h.apart;
          });
      line_is = refl;
    }

    pub place_taken : (marks : Marks) → AreMarked m n t marks → IsTakenMark P marks → IsAmbiguous m p.line.line
    place_taken marks a h =
        let b = a.marked h.o h.i h.w h.taken in
        record {
          n = n;
          t = t;
          accepted = a.accepted;
          place = p;
          ambiguous = inr (h.o, h.i, (h.v, atom_matches h.o h.i h.v h.is), (b.0, b.1, b.2, (vector_of h.w, b.3)));
          line_is = refl;
        }

    -- the atom that it matches is marked
    module _ (marks marks' : Marks) (held : AreMarksFor m.orbits marks) (a : AreMarked m n t marks) (h : IsPlaced P marks marks') where
      abbrev row : List (Option (List ℤ))
      row = get_or marks h.o []

      orbit_below : h.o < length marks
      orbit_below = let l : h.o < length m.orbits = h.only.is.0 in omega (arith, l, held.count)

      atom_below : h.i < length row
      atom_below =
          let l : h.i < length h.only.is.1.orbit.places = h.only.is.1.below in
          let e : length row ≡ length h.only.is.1.orbit.places = held.atoms h.o h.only.is.1.orbit h.only.is.1.is_orbit in
          omega (arith, l, e)

      marked_itself : mark_at marks' h.o h.i ≡ Some h.v
      marked_itself =
          ap (λ (x : Marks). mark_at x h.o h.i) h.is ∙ ap (λ r. get_or r h.i None) (get_or-set_same marks h.o (set row h.i (Some h.v)) [] orbit_below)
          ∙ get_or-set_same row h.i (Some h.v) None atom_below

      other_atom : (i : ℕ) → (i ≡ h.i → ⊥) → mark_at marks' h.o i ≡ mark_at marks h.o i
      other_atom i f =
          ap (λ (x : Marks). mark_at x h.o i) h.is ∙ ap (λ r. get_or r i None) (get_or-set_same marks h.o (set row h.i (Some h.v)) [] orbit_below)
          ∙ get_or-set_other row h.i i (Some h.v) None f

      other_orbit : (o i : ℕ) → (o ≡ h.o → ⊥) → mark_at marks' o i ≡ mark_at marks o i
      other_orbit o i f =
          ap (λ (x : Marks). mark_at x o i) h.is ∙ ap (λ r. get_or r i None) (get_or-set_other marks h.o o (set row h.i (Some h.v)) [] f)

      unequal : (i j : ℕ) → (i < j) ⊎ (j < i) → i ≡ j → ⊥
      unequal i j (inl l) e = omega (arith, l, e)
      unequal i j (inr l) e = omega (arith, l, e)

      -- the atom itself, or one whose mark is kept
      itself_or : (o i : ℕ) → ((o ≡ h.o) × (i ≡ h.i)) ⊎ ((mark_at marks' o i ≡ mark_at marks o i) × ((o ≡ h.o) × (i ≡ h.i) → ⊥))
      itself_or o i = elim (cases_order o h.o) [
        | inl e ↦ elim (cases_order i h.i) [
          | inl f ↦ inl (e, f)
          | inr f ↦ inr (subst (λ p. mark_at marks' p i ≡ mark_at marks p i) (sym e) (other_atom i (unequal i h.i f)), λ g. unequal i h.i f g.1)
        ]
        | inr f ↦ inr (other_orbit o i (unequal o h.o f), λ g. unequal o h.o f g.0)
      ]

      one : MatchesOne m n t
      one = record {
        orbit = h.o;
        atom = h.i;
        matches = (vector_of h.v, atom_matches h.o h.i (vector_of h.v) h.only.is);
        only = λ o i g. h.only.only o i g.0 (match_atom o i g.0 g.1);
        new = λ g. a.free h.o h.i h.free g.0 g.1 g.2 g.3;
      }

      now : IsEarlier n t n (t + 1)
      now = inr (refl, omega arith)

      pub place_added : AreMarked m n (t + 1) marks'
      place_added = record {
        accepted = record {
          cell = a.accepted.cell;
          on_grid = a.accepted.on_grid;
          matched = λ k u e q. elim (earlier_or k u n t e) [
            | inl f ↦ a.accepted.matched k u f q
            | inr f ↦ subst (λ j. MatchesOne m j u) (sym f.0) (subst (λ j. MatchesOne m n j) (sym f.1) one)
          ];
        };
        marked = λ o i v e. elim (itself_or o i) [
          | inl f ↦
              let w : h.v ≡ v = some_same h.v v (sym marked_itself ∙ ap (λ p. mark_at marks' p h.i) (sym f.0) ∙ ap (mark_at marks' o) (sym f.1) ∙ e) in (
                n,
                t,
                now,
                subst (λ (v : List ℤ). Matches m n t o i (vector_of v)) w (subst (λ j. Matches m n t o j (vector_of h.v)) (sym f.1) (subst (λ p. Matches m n t p h.i (vector_of h.v)) (sym f.0) (atom_matches h.o h.i (vector_of h.v) h.only.is))),
                subst (λ (v : List ℤ). v ≡ shift_of (vector_of v)) w h.only.shaped,
              )
          | inr f ↦ let b = a.marked o i v (sym f.0 ∙ e) in (b.0, b.1, earlier_more b.0 b.1 n t b.2, b.3, b.4)
        ];
        free = λ o i e k u f g. elim (itself_or o i) [
          | inl b ↦ none_some h.v (sym e ∙ ap (mark_at marks' o) b.1 ∙ ap (λ p. mark_at marks' p h.i) b.0 ∙ marked_itself)
          | inr b ↦ elim (earlier_or k u n t f) [
            | inl l ↦ a.free o i (sym b.0 ∙ e) k u l g
            | inr l ↦
                let q : MatchesAtom m n t o i = subst (λ j. MatchesAtom m n j o i) l.1 (subst (λ j. MatchesAtom m j u o i) l.0 g) in
                b.1 (h.only.only o i q.0 (match_atom o i q.0 q.1))
          ]
        ];
      }
