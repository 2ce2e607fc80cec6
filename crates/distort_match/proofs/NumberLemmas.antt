-- The places of a line by their numbers, in the frame.
use Rattle.std.proofs.Common.{◌≡◌, refl, sym, ap, ◌∙◌, subst, ℕ, ◌+◌, inl, inr, ◌⊎◌, ℤ, neg_ℤ, ◌+ℤ◌, List, length, Option, Some, None, slice_get, arith}
use Rattle.std.proofs.lemmas.Int.{ints}
use Rattle.std.proofs.lemmas.Option.{slice_get_within}
use Rattle.algebra.specs.Whole.{whole}
use Rattle.iso_text.specs.declared.sections.AtomText.{AtomText}
use Rattle.space_ops.specs.Matrix.{Vector, vector_sum}
use Rattle.space_ops.specs.MatrixLaws.{same_vector}
use Rattle.space_ops.specs.Op.{vector_of, matrix_of}
use Rattle.space_ops.specs.Words.{vector_difference}
use Rattle.wyckoff.specs.Orbit.{OrbitView}
use Rattle.distort_match.specs.declared.errors.MatchError.{MatchError}
use Rattle.distort_match.specs.declared.errors.MatchError.TheVariants.{Unmatched, Ambiguous, MissingAtom, BadCell, OffGrid, NoMemory}
use Rattle.distort_match.specs.declared.frame.Frame.{Frame}
use Rattle.distort_match.specs.Matches.{Matching, ListedPlace}
use Rattle.distort_match.specs.Outcomes.{IsOffGrid, IsUnmatched, IsAmbiguous, IsMatchCause}
use Rattle.distort_match.specs.FoundParts.{AreTwo, IsAtomOf}
use Rattle.distort_match.specs.MarkParts.{AreMarksFor, IsPlaced, IsTakenMark, IsPlaceCause, AreMarked}
use Rattle.distort_match.specs.FrameParts.{IsCarriedBy, IsMatchingIn, IsNumberTaken, IsNumberCause}
use Rattle.distort_match.proofs.StepLemmas.{none_some, number_skipped, line_taken, place_unmatched, place_twice, place_taken, place_added}
use Rattle.distort_match.proofs.UniqueLemmas.{some_same}

abbrev Marks : Type 0
Marks = List (List (Option (List ℤ)))

less_again : (a b : Vector ℤ) → vector_difference (vector_sum whole a b) b ≡ a
less_again a b = same_vector (vector_difference (vector_sum whole a b) b) a (back a.x b.x) (back a.y b.y) (back a.z b.z) where
  back : (a b : ℤ) → (a +ℤ b) +ℤ neg_ℤ b ≡ a
  back a b = omega (arith, ints)

module _ (d : List ℕ) (orbits : List OrbitView) (listed : List AtomText) (tolerance : ℤ) (frame : Frame) (m : Matching) (w : IsMatchingIn d orbits listed tolerance frame m)
    (n : ℕ) (line : AtomText) (at : slice_get listed n ≡ Some line) where
  at_line : slice_get m.listed n ≡ Some line
  at_line = ap (λ (ls : List AtomText). slice_get ls n) w.listed_are ∙ at

  abbrev Carried : Vector ℤ → Type 0
  Carried x = IsCarriedBy (matrix_of frame.rows) (vector_of frame.origin) (vector_of line.place) x

  -- off the grid
  pub line_off : (marks : Marks) → ((x : Vector ℤ) → Carried x → ⊥) → AreMarked m n 0 marks → IsOffGrid m line.line
  line_off marks none a = record {
    n = n;
    accepted = a.accepted;
    listed = line;
    is_listed = at_line;
    off_grid = λ g. let h = (w.frame_is.on_grid line).0 g in none h.0 h.1;
    line_is = refl;
  }

  module _ (x : List ℤ) (k : Carried (vector_of x)) where
    -- all places of the line are taken
    pub numbers_taken : (marks : Marks) → AreMarked m n (length frame.shifts.items) marks → AreMarked m (n + 1) 0 marks
    numbers_taken marks a =
        line_taken m n (length frame.shifts.items) marks (λ u p. let h = (w.frame_is.places p.line u p.x).0 p.is in slice_get_within frame.shifts.items u (Some h.0) h.1)
        (λ other e. (w.frame_is.on_grid other).1 (vector_of x, subst (λ (l : AtomText). IsCarriedBy (matrix_of frame.rows) (vector_of frame.origin) (vector_of l.place) (vector_of x)) (some_same line other (sym at_line ∙ e)) k)) a

    module _ (t : ℕ) where
      no_number : slice_get frame.shifts.items t ≡ Some None → ListedPlace m n t → ⊥
      no_number e p = let h = (w.frame_is.places p.line t p.x).0 p.is in none_some h.0 (some_same None (Some h.0) (sym e ∙ h.1))

      number_place : (u : List ℤ) → slice_get frame.shifts.items t ≡ Some (Some u) → ListedPlace m n t
      number_place u e = record {
        line = line;
        is_line = at_line;
        x = vector_sum whole (vector_of x) (vector_of u);
        is = (w.frame_is.places line t (vector_sum whole (vector_of x) (vector_of u))).1 (u, e, subst Carried (sym (less_again (vector_of x) (vector_of u))) k);
      }

      abbrev Found : List ℤ → ℕ → ℕ → Vector ℤ → Type 0
      Found u = IsAtomOf m.group.d m.tolerance (vector_sum whole (vector_of x) (vector_of u)) line.label m.orbits (length m.orbits)

      -- place number t is taken
      pub number_taken : (shift : Option (List ℤ)) → slice_get frame.shifts.items t ≡ Some shift → (marks marks' : Marks) → IsNumberTaken d tolerance orbits line.label x shift marks marks'
          → AreMarksFor orbits marks → AreMarked m n t marks → AreMarked m n (t + 1) marks'
      unfolding number_place
      number_taken None e marks marks' h held a = subst (AreMarked m n (t + 1)) (sym h) (number_skipped m n t marks (no_number e) a)
      number_taken (Some u) e marks marks' h held a =
          place_added m n t (number_place u e) marks marks' (subst (λ (os : List OrbitView). AreMarksFor os marks) (sym w.orbits_are) held) a
          (subst (λ (A : Type 0). A)
          (λ i. IsPlaced (IsAtomOf (sym w.d_is i) (sym w.tolerance_is i) (vector_sum whole (vector_of x) (vector_of u)) line.label (sym w.orbits_are i) (length (sym w.orbits_are i))) marks marks') h)

      -- or refused
      pub number_refused : (shift : Option (List ℤ)) → slice_get frame.shifts.items t ≡ Some shift → (marks : Marks) (error : MatchError)
          → IsNumberCause d tolerance orbits line.label x shift marks line.line error → AreMarked m n t marks → IsMatchCause m error
      unfolding number_place
      number_refused None e marks error h a = absurd h
      number_refused (Some u) e marks error h a =
          by_error error
          (subst (λ (A : Type 0). A)
          (λ i. IsPlaceCause (IsAtomOf (sym w.d_is i) (sym w.tolerance_is i) (vector_sum whole (vector_of x) (vector_of u)) line.label (sym w.orbits_are i) (length (sym w.orbits_are i))) marks line.line error) h)
        where
          p : ListedPlace m n t
          p = number_place u e

          ambiguous : AreTwo (Found u) ⊎ IsTakenMark (Found u) marks → IsAmbiguous m line.line
          ambiguous (inl g) = place_twice m n t p marks a g
          ambiguous (inr g) = place_taken m n t p marks a g

          by_error : (error : MatchError) → IsPlaceCause (Found u) marks line.line error → IsMatchCause m error
          by_error (Unmatched l) g = subst (IsUnmatched m) (sym g.0) (place_unmatched m n t p marks a g.1)
          by_error (Ambiguous l) g = subst (IsAmbiguous m) (sym g.0) (ambiguous g.1)
          by_error (MissingAtom l v) g = absurd g
          by_error (BadCell l) g = absurd g
          by_error (OffGrid l) g = absurd g
          by_error NoMemory g = absurd g
