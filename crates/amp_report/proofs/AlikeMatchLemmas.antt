-- Orbits with the same labels and places are matched alike.
use Rattle.std.proofs.Common.{◌≡◌, sym, ◌∙◌, subst, ◌⊎◌, inl, inr, ℕ, ◌<◌, ℤ, List, length, Option, slice_index_or, []}
use Rattle.iso_text.specs.declared.sections.AtomText.{AtomText}
use Rattle.iso_text.specs.declared.sections.CellText.{CellText}
use Rattle.space_ops.specs.Matrix.{Vector}
use Rattle.space_ops.specs.Op.{vector_of}
use Rattle.super_group.specs.Quotient.{SupercellGroup}
use Rattle.wyckoff.specs.Orbit.{OrbitView}
use Rattle.wyckoff.specs.Places.{place_at}
use Rattle.distort_match.specs.Matches.{Matching, ListedPlace, IsDisplacement, Matches, MatchesAtom}
use Rattle.distort_match.specs.Outcomes.{IsTaken, MatchesOne, IsAcceptedTo, AreShiftsOf, MatchesTwo, MatchesTaken, IsMatched, IsMatchCause, IsUnmatched, IsAmbiguous, IsOffGrid, IsMissing, shift_at}
use Rattle.distort_match.specs.declared.errors.MatchError.{MatchError}
use Rattle.amp_report.specs.OneModesLaws.{AreOrbitsAlike}
use Rattle.distort_match.specs.declared.errors.MatchError.TheVariants.{Unmatched, Ambiguous, MissingAtom, BadCell, OffGrid, NoMemory}

module _ (group : SupercellGroup) (listed : List AtomText) (tolerance : ℤ) (cell : Option CellText) where
  abbrev pub matching_with : List OrbitView → Matching
  matching_with os = record { group = group; orbits = os; listed = listed; tolerance = tolerance; cell = cell }

  -- ---- one way

  module _ (os us : List OrbitView) where
    abbrev place-alike : (n t : ℕ) → ListedPlace (matching_with os) n t → ListedPlace (matching_with us) n t
    place-alike n t p = record { line = p.line; is_line = p.is_line; x = p.x; is = p.is }

    module _ (a : AreOrbitsAlike os us) where
      match-alike : (n t o i : ℕ) (v : Vector ℤ) → Matches (matching_with os) n t o i v → Matches (matching_with us) n t o i v
      match-alike n t o i v h =
          let w = a.each o h.orbit h.is_orbit in
          let L : List (List ℤ) → Type 0 = λ ps. i < length ps in
          let D : List (List ℤ) → Type 0 = λ ps. IsDisplacement group.d tolerance h.place.x (place_at ps i) v in
          record {
            place = place-alike n t h.place;
            orbit = w.orbit;
            is_orbit = w.at;
            below = subst L w.places h.below;
            label = sym w.label ∙ h.label;
            displaces = subst D w.places h.displaces;
          }

      atom-alike : (n t o i : ℕ) → MatchesAtom (matching_with os) n t o i → MatchesAtom (matching_with us) n t o i
      atom-alike n t o i (v, h) = (v, match-alike n t o i v h)

      taken-alike : (n t o i : ℕ) → IsTaken (matching_with os) n t o i → IsTaken (matching_with us) n t o i
      taken-alike n t o i (k, u, e, h) = (k, u, e, atom-alike k u o i h)

      matched-alike : (o i : ℕ) → IsMatched (matching_with os) o i → IsMatched (matching_with us) o i
      matched-alike o i (n, t, h) = (n, t, atom-alike n t o i h)

      more-alike : (n t : ℕ) → MatchesTwo (matching_with os) n t ⊎ MatchesTaken (matching_with os) n t → MatchesTwo (matching_with us) n t ⊎ MatchesTaken (matching_with us) n t
      more-alike n t (inl h) =
          inl (record { orbit = h.orbit; atom = h.atom; orbit' = h.orbit'; atom' = h.atom'; first = atom-alike n t h.orbit h.atom h.first; second = atom-alike n t h.orbit' h.atom' h.second; apart = h.apart })
      more-alike n t (inr (o, i, h, k)) = inr (o, i, atom-alike n t o i h, taken-alike n t o i k)

  -- ---- both ways

  module _ (os us : List OrbitView) (a : AreOrbitsAlike os us) (b : AreOrbitsAlike us os) where
    one-alike : (n t : ℕ) → MatchesOne (matching_with os) n t → MatchesOne (matching_with us) n t
    one-alike n t h = record {
      orbit = h.orbit;
      atom = h.atom;
      matches = atom-alike os us a n t h.orbit h.atom h.matches;
      only = λ o i k. h.only o i (atom-alike us os b n t o i k);
      new = λ k. h.new (taken-alike us os b n t h.orbit h.atom k);
    }

    accepted-alike : (n t : ℕ) → IsAcceptedTo (matching_with os) n t → IsAcceptedTo (matching_with us) n t
    accepted-alike n t h = record { cell = h.cell; on_grid = h.on_grid; matched = λ k u e p. one-alike k u (h.matched k u e (place-alike us os k u p)) }

    unmatched-alike : (line : ℕ) → IsUnmatched (matching_with os) line → IsUnmatched (matching_with us) line
    unmatched-alike line h = record {
      n = h.n;
      t = h.t;
      accepted = accepted-alike h.n h.t h.accepted;
      place = place-alike os us h.n h.t h.place;
      none = λ o i k. h.none o i (atom-alike us os b h.n h.t o i k);
      line_is = h.line_is;
    }

    ambiguous-alike : (line : ℕ) → IsAmbiguous (matching_with os) line → IsAmbiguous (matching_with us) line
    ambiguous-alike line h = record {
      n = h.n;
      t = h.t;
      accepted = accepted-alike h.n h.t h.accepted;
      place = place-alike os us h.n h.t h.place;
      ambiguous = more-alike os us a h.n h.t h.ambiguous;
      line_is = h.line_is;
    }

    off-alike : (line : ℕ) → IsOffGrid (matching_with os) line → IsOffGrid (matching_with us) line
    off-alike line h = record {
      n = h.n;
      accepted = accepted-alike h.n 0 h.accepted;
      listed = h.listed;
      is_listed = h.is_listed;
      off_grid = h.off_grid;
      line_is = h.line_is;
    }

    missing-alike : (label : List ℕ) (place : List ℤ) → IsMissing (matching_with os) label place → IsMissing (matching_with us) label place
    missing-alike label place h =
        let w = a.each h.o h.orbit h.is_orbit in
        let L : List (List ℤ) → Type 0 = λ ps. h.i < length ps in
        let Q : List (List ℤ) → Type 0 = λ ps. place ≡ slice_index_or ps h.i [] in
        record {
          accepted = accepted-alike (length listed) 0 h.accepted;
          o = h.o;
          i = h.i;
          orbit = w.orbit;
          is_orbit = w.at;
          below = subst L w.places h.below;
          missing = λ k. h.missing (matched-alike us os b h.o h.i k);
          first = λ p j earlier e s l.
              let x = b.each p earlier s in
              let M : List (List ℤ) → Type 0 = λ ps. j < length ps in
              matched-alike os us a p j (h.first p j x.orbit e x.at (subst M x.places l));
          label_is = h.label_is ∙ w.label;
          place_is = subst Q w.places h.place_is;
        }

    pub cause-alike : (e : MatchError) → IsMatchCause (matching_with os) e → IsMatchCause (matching_with us) e
    cause-alike (Unmatched line) h = unmatched-alike line h
    cause-alike (Ambiguous line) h = ambiguous-alike line h
    cause-alike (MissingAtom label place) h = missing-alike label place h
    cause-alike (BadCell line) h = h
    cause-alike (OffGrid line) h = off-alike line h
    cause-alike NoMemory h = h

    pub shifts-alike : (shifts : List (List (List ℤ))) → AreShiftsOf (matching_with os) shifts → AreShiftsOf (matching_with us) shifts
    shifts-alike shifts h = record {
      accepted = accepted-alike (length listed) 0 h.accepted;
      orbits = h.orbits ∙ sym a.count;
      atoms = λ o u s. let x = b.each o u s in let P : List (List ℤ) → Type 0 = λ ps. length (slice_index_or shifts o []) ≡ length ps in subst P (sym x.places) (h.atoms o x.orbit x.at);
      each = λ o i u s l.
          let x = b.each o u s in
          let L : List (List ℤ) → Type 0 = λ ps. i < length ps in
          let k = h.each o i x.orbit x.at (subst L x.places l) in
          (k.0, k.1, match-alike os us a k.0 k.1 o i (vector_of (shift_at shifts o i)) k.2, k.3);
    }
