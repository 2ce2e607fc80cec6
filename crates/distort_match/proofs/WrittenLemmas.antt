-- The frame of written places: twelve twelfths a column, no origin, and no shift but zero.
use Rattle.std.proofs.Common.{◌≡◌, refl, sym, ap, ◌∙◌, subst, ℕ, zero, suc, ℤ, pos, neg_ℤ, ◌+ℤ◌, ◌*ℤ◌, List, [], ◌∷◌, Option, Some, None, slice_get, arith}
use Rattle.std.proofs.lemmas.Int.{ints}
use Rattle.std.specs.List.{All}
use Rattle.std.specs.Prelude.{◌↔◌, MatchOption, ⊤}
use Rattle.algebra.specs.Whole.{whole}
use Rattle.iso_text.specs.declared.sections.AtomText.{AtomText}
use Rattle.space_ops.specs.Matrix.{Vector, image_under}
use Rattle.space_ops.specs.MatrixLaws.{same_vector}
use Rattle.space_ops.specs.Op.{vector_of, matrix_of, IsShiftWithin, IsRotationWithin}
use Rattle.space_ops.specs.Words.{vector_difference}
use Rattle.super_group.specs.Quotient.{SupercellGroup}
use Rattle.distort_match.specs.declared.frame.Frame.{Frame}
use Rattle.distort_match.specs.Matches.{IsPlace}
use Rattle.distort_match.specs.FrameParts.{IsCarriedBy, IsPlaceIn, IsFrameOf}
use Rattle.distort_match.proofs.UniqueLemmas.{some_same}
use Rattle.distort_match.proofs.StepLemmas.{none_some}

abbrev pub zeros : List ℤ
zeros = pos 0 ∷ pos 0 ∷ pos 0 ∷ []

abbrev pub twelves : List (List ℤ)
twelves = (pos 12 ∷ pos 0 ∷ pos 0 ∷ []) ∷ (pos 0 ∷ pos 12 ∷ pos 0 ∷ []) ∷ (pos 0 ∷ pos 0 ∷ pos 12 ∷ []) ∷ []

abbrev Carried : Vector ℤ → Vector ℤ → Type 0
Carried y x = IsCarriedBy (matrix_of twelves) (vector_of zeros) y x

along_x : (x a b c : ℤ) → pos 12 *ℤ (x +ℤ neg_ℤ (pos 0)) ≡ (pos 12 *ℤ a +ℤ pos 0 *ℤ b) +ℤ pos 0 *ℤ c → x ≡ a
along_x x a b c e = omega (arith, ints, e)

along_y : (x a b c : ℤ) → pos 12 *ℤ (x +ℤ neg_ℤ (pos 0)) ≡ (pos 0 *ℤ a +ℤ pos 12 *ℤ b) +ℤ pos 0 *ℤ c → x ≡ b
along_y x a b c e = omega (arith, ints, e)

along_z : (x a b c : ℤ) → pos 12 *ℤ (x +ℤ neg_ℤ (pos 0)) ≡ (pos 0 *ℤ a +ℤ pos 0 *ℤ b) +ℤ pos 12 *ℤ c → x ≡ c
along_z x a b c e = omega (arith, ints, e)

back_x : (a b c : ℤ) → pos 12 *ℤ (a +ℤ neg_ℤ (pos 0)) ≡ (pos 12 *ℤ a +ℤ pos 0 *ℤ b) +ℤ pos 0 *ℤ c
back_x a b c = omega (arith, ints)

back_y : (a b c : ℤ) → pos 12 *ℤ (b +ℤ neg_ℤ (pos 0)) ≡ (pos 0 *ℤ a +ℤ pos 12 *ℤ b) +ℤ pos 0 *ℤ c
back_y a b c = omega (arith, ints)

back_z : (a b c : ℤ) → pos 12 *ℤ (c +ℤ neg_ℤ (pos 0)) ≡ (pos 0 *ℤ a +ℤ pos 0 *ℤ b) +ℤ pos 12 *ℤ c
back_z a b c = omega (arith, ints)

pub written_itself : (y : Vector ℤ) → Carried y y
written_itself y = same_vector _ (image_under whole (matrix_of twelves) y) (back_x y.x y.y y.z) (back_y y.x y.y y.z) (back_z y.x y.y y.z)

written_only : (y x : Vector ℤ) → Carried y x → x ≡ y
written_only y x k =
    same_vector x y (along_x x.x y.x y.y y.z (ap (λ (v : Vector ℤ). v.x) k)) (along_y x.y y.x y.y y.z (ap (λ (v : Vector ℤ). v.y) k)) (along_z x.z y.x y.y y.z (ap (λ (v : Vector ℤ). v.z) k))

less_nothing : (x : Vector ℤ) → vector_difference x (vector_of zeros) ≡ x
less_nothing x = same_vector (vector_difference x (vector_of zeros)) x (less x.x) (less x.y) (less x.z) where
  less : (a : ℤ) → a +ℤ neg_ℤ (pos 0) ≡ a
  less a = omega (arith, ints)

abbrev pub shifts : List (Option (List ℤ))
shifts = Some zeros ∷ []

-- the one place is the written one
pub written_places : (s : SupercellGroup) (line : AtomText) (t : ℕ) (x : Vector ℤ)
    → IsPlace s None line t x ↔ ((u : List ℤ) × (slice_get shifts t ≡ Some (Some u)) × Carried (vector_of line.place) (vector_difference x (vector_of u)))
written_places s line t x = (to, from t) where
  y : Vector ℤ
  y = vector_of line.place

  to : (t ≡ 0) × (x ≡ y) → (u : List ℤ) × (slice_get shifts t ≡ Some (Some u)) × Carried y (vector_difference x (vector_of u))
  to p = (zeros, ap (slice_get shifts) p.0, subst (Carried y) (sym (less_nothing x ∙ p.1)) (written_itself y))

  from : (t : ℕ) → (u : List ℤ) × (slice_get shifts t ≡ Some (Some u)) × Carried y (vector_difference x (vector_of u)) → (t ≡ 0) × (x ≡ y)
  from zero (u, e, k) =
      let z : zeros ≡ u = some_same zeros u (some_same (Some zeros) (Some u) e) in
      (refl, sym (less_nothing x) ∙ written_only y (vector_difference x (vector_of zeros)) (subst (λ (v : List ℤ). Carried y (vector_difference x (vector_of v))) (sym z) k))
  from (suc t) (u, e, k) = absurd (none_some (Some u) e)

module _ (s : SupercellGroup) (frame : Frame) (rows : frame.rows ≡ twelves) (origin : frame.origin ≡ zeros) (shifts_are : frame.shifts.items ≡ shifts) where
  abbrev In : List (List ℤ) → List ℤ → AtomText → Vector ℤ → Type 0
  In r o line x = IsCarriedBy (matrix_of r) (vector_of o) (vector_of line.place) x

  carried_to : (line : AtomText) (x : Vector ℤ) → In twelves zeros line x → In frame.rows frame.origin line x
  carried_to line x k = subst (λ (A : Type 0). A) (λ i. In (sym rows i) (sym origin i) line x) k

  carried_from : (line : AtomText) (x : Vector ℤ) → In frame.rows frame.origin line x → In twelves zeros line x
  carried_from line x k = subst (λ (A : Type 0). A) (λ i. In (rows i) (origin i) line x) k

  places_in : (line : AtomText) (t : ℕ) (x : Vector ℤ) → IsPlace s None line t x ↔ IsPlaceIn frame (vector_of line.place) t x
  places_in line t x = (
    λ p. let h = (written_places s line t x).0 p in (h.0, ap (λ ss. slice_get ss t) shifts_are ∙ h.1, carried_to line (vector_difference x (vector_of h.0)) h.2),
    λ p. (written_places s line t x).1 (p.0, ap (λ ss. slice_get ss t) (sym shifts_are) ∙ p.1, carried_from line (vector_difference x (vector_of p.0)) p.2),
  )

  near_shift : All (λ shift. MatchOption shift ⊤ (IsShiftWithin 144000000)) shifts
  near_shift zero d l = ((omega (arith, ints), omega (arith, ints)), (omega (arith, ints), omega (arith, ints)), (omega (arith, ints), omega (arith, ints)))
  near_shift (suc k) d l = absurd (omega (arith, l))

  pub written_frame_of : IsFrameOf s None frame
  written_frame_of = record {
    good = tt;
    near_rows = subst (IsRotationWithin 288) (sym rows) (search arith);
    near_origin = subst (IsShiftWithin 1200000000) (sym origin) (search arith);
    near_shifts = subst (All (λ shift. MatchOption shift ⊤ (IsShiftWithin 144000000))) (sym shifts_are) near_shift;
    on_grid = λ line. (λ g. (vector_of line.place, carried_to line (vector_of line.place) (written_itself (vector_of line.place))), λ g. tt);
    places = places_in;
  }
