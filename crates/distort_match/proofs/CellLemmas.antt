-- The cell of the listed places, and its frame.
use Rattle.std.proofs.Common.{◌≡◌, refl, sym, ap, ◌∙◌, subst, ℕ, zero, suc, ◌<◌, ◌+◌, inl, inr, ℤ, pos, unsigned_abs, List, [], ◌∷◌, ◌++◌, length, Option, Some, None, get_or, arith}
use Rattle.std.proofs.lemmas.Bool.{cases_lt}
use Rattle.std.proofs.lemmas.List.{get_or_push, get_or_append_left}
use Rattle.std.proofs.lemmas.Option.{slice_get_within, slice_get-get_or}
use Rattle.std.specs.List.{All}
use Rattle.std.specs.Prelude.{◌↔◌, MatchOption, ⊤}
use Rattle.algebra.specs.ListLaws.{length-more, each-more}
use Rattle.algebra.specs.MultipleLaws.{no_size}
use Rattle.algebra.specs.Whole.{whole}
use Rattle.iso_text.specs.Ranges.{IsCell}
use Rattle.iso_text.specs.declared.sections.AtomText.{AtomText}
use Rattle.iso_text.specs.declared.sections.CellText.{CellText}
use Rattle.space_ops.specs.Matrix.{Matrix, Vector, determinant}
use Rattle.space_ops.specs.MatrixLaws.{same_vector}
use Rattle.space_ops.specs.Op.{vector_of, shift_of, matrix_of, IsShiftWithin, IsRotationWithin}
use Rattle.space_ops.specs.WithinLaws.{shift_more}
use Rattle.space_ops.specs.Words.{vector_difference, IsLatticeVector}
use Rattle.super_group.specs.Quotient.{SupercellGroup, translation_at}
use Rattle.wyckoff.specs.Places.{in_units}
use Rattle.distort_match.specs.declared.cells.CellParts.{CellParts}
use Rattle.distort_match.specs.declared.frame.Frame.{Frame}
use Rattle.distort_match.specs.ListedCells.{cell_matrix, cell_column, supercell_edge, IsCombination, IsCarried, IsBadCell}
use Rattle.distort_match.specs.Matches.{IsPlace}
use Rattle.distort_match.specs.CellPieces.{column_of, IsMultipleUnder, AreCellParts, IsBadParts, IsShiftUnder, AreShiftsUnder}
use Rattle.distort_match.specs.FrameParts.{IsCarriedBy, IsPlaceIn, IsFrameOf}
use Rattle.distort_match.proofs.CombinationLemmas.{combination_multiple, multiple_combination}
use Rattle.distort_match.proofs.UniqueLemmas.{some_same}
use Rattle.distort_match.proofs.StepLemmas.{none_some}

module _ (cell : CellText) (parts : CellParts) (h : AreCellParts cell parts) where
  abbrev det : ℤ
  det = determinant whole (cell_matrix cell)

  size_zero : parts.size ≡ 0 → det ≡ pos 0
  size_zero e = no_size det (sym h.size ∙ e)

  zero_size : det ≡ pos 0 → parts.size ≡ 0
  zero_size e = h.size ∙ ap unsigned_abs e

  abbrev Under : Vector ℤ → Type 0
  Under t = IsMultipleUnder parts.size (matrix_of parts.adjugate) t

  -- Cramer's rule
  under_combination : (parts.size ≡ 0 → ⊥) → (t : Vector ℤ) → Under t → IsCombination cell t
  under_combination n t g =
      let u = multiple_combination (cell_matrix cell) (λ e. n (zero_size e)) t (subst (λ (A : Type 0). A) (λ i. IsMultipleUnder (h.size i) (h.adjugate_is i) t) g) in
      record { times = u.0; is = u.1 }

  combination_under : (t : Vector ℤ) → IsCombination cell t → Under t
  combination_under t g = subst (λ (A : Type 0). A) (λ i. IsMultipleUnder (sym h.size i) (sym h.adjugate_is i) t) (combination_multiple (cell_matrix cell) t g.times g.is)

  column_is : (j : ℕ) → j < 3 → vector_of (column_of parts.rows j) ≡ cell_column cell j
  column_is zero l = same_vector _ (cell_column cell 0) (ap (λ (a : Matrix ℤ). a.r00) h.rows) (ap (λ (a : Matrix ℤ). a.r10) h.rows) (ap (λ (a : Matrix ℤ). a.r20) h.rows)
  column_is (suc zero) l = same_vector _ (cell_column cell 1) (ap (λ (a : Matrix ℤ). a.r01) h.rows) (ap (λ (a : Matrix ℤ). a.r11) h.rows) (ap (λ (a : Matrix ℤ). a.r21) h.rows)
  column_is (suc (suc zero)) l = same_vector _ (cell_column cell 2) (ap (λ (a : Matrix ℤ). a.r02) h.rows) (ap (λ (a : Matrix ℤ). a.r12) h.rows) (ap (λ (a : Matrix ℤ). a.r22) h.rows)
  column_is (suc (suc (suc j))) l = absurd (omega (arith, l))

  module _ (s : SupercellGroup) where
    pub bad_cell : IsBadParts s parts → IsBadCell s cell
    bad_cell (inl e) = inl (size_zero e)
    bad_cell (inr (inl g)) = inr (inl (g.0, g.1, λ k. g.2 (subst (IsLatticeVector s.parent.lattice) (sym (column_is g.0 g.1)) k)))
    bad_cell (inr (inr g)) = inr (inr (g.0, g.1, λ k. g.2 (combination_under (supercell_edge s.d g.0) k)))

    pub good_cell : (IsBadParts s parts → ⊥) → IsBadCell s cell → ⊥
    good_cell n (inl e) = n (inl (zero_size e))
    good_cell n (inr (inl g)) = n (inr (inl (g.0, g.1, λ k. g.2 (subst (IsLatticeVector s.parent.lattice) (column_is g.0 g.1) k))))
    good_cell n (inr (inr g)) = n (inr (inr (g.0, g.1, λ k. g.2 (under_combination (λ e. n (inl e)) (supercell_edge s.d g.0) k))))

    -- the frame of a cell that isn't bad
    module _ (good : IsBadParts s parts → ⊥) (frame : Frame) (rows : frame.rows ≡ parts.rows) (origin : frame.origin ≡ cell.origin)
        (shifts : AreShiftsUnder parts.size parts.adjugate s.translations (length s.translations) frame.shifts.items) where
      abbrev Carried : AtomText → Vector ℤ → Type 0
      Carried line x = IsCarriedBy (matrix_of frame.rows) (vector_of frame.origin) (vector_of line.place) x

      same_rows : matrix_of frame.rows ≡ cell_matrix cell
      same_rows = ap matrix_of rows ∙ h.rows

      carried_to : (line : AtomText) (x : Vector ℤ) → IsCarried cell (vector_of line.place) x → Carried line x
      carried_to line x k = subst (λ (A : Type 0). A) (λ i. IsCarriedBy (sym same_rows i) (vector_of (sym origin i)) (vector_of line.place) x) k

      carried_from : (line : AtomText) (x : Vector ℤ) → Carried line x → IsCarried cell (vector_of line.place) x
      carried_from line x k = subst (λ (A : Type 0). A) (λ i. IsCarriedBy (same_rows i) (vector_of (origin i)) (vector_of line.place) x) k

      abbrev shift_of_number : ℕ → Option (List ℤ)
      shift_of_number t = get_or frame.shifts.items t None

      has_shift : (t : Vector ℤ) (found : Option (List ℤ)) → IsCombination cell t → IsShiftUnder parts.size parts.adjugate t found → (u : List ℤ) × (found ≡ Some u) × (u ≡ shift_of (in_units t))
      has_shift t None c n = absurd (n (combination_under t c))
      has_shift t (Some u) c k = (u, refl, k.1)

      shift_has : (t : Vector ℤ) (found : Option (List ℤ)) (u : List ℤ) → IsShiftUnder parts.size parts.adjugate t found → found ≡ Some u → IsCombination cell t × (u ≡ shift_of (in_units t))
      shift_has t None u n e = absurd (none_some u e)
      shift_has t (Some v) u k e = (under_combination (λ z. good (inl z)) t k.0, sym (some_same v u e) ∙ k.1)

      cell_places : (line : AtomText) (t : ℕ) (x : Vector ℤ) → IsPlace s (Some cell) line t x ↔ IsPlaceIn frame (vector_of line.place) t x
      cell_places line t x = (
        λ p.
            let l : t < length frame.shifts.items = subst (λ n. t < n) (sym shifts.count) p.0 in
            let u = has_shift (translation_at s.translations t) (shift_of_number t) p.1 (shifts.each t p.0) in (
              u.0,
              slice_get-get_or frame.shifts.items t None l ∙ ap Some u.1,
              carried_to line (vector_difference x (vector_of u.0)) (subst (λ (v : List ℤ). IsCarried cell (vector_of line.place) (vector_difference x (vector_of v))) (sym u.2) p.2),
            ),
        λ p.
            let l : t < length frame.shifts.items = slice_get_within frame.shifts.items t (Some p.0) p.1 in
            let m : t < length s.translations = subst (λ n. t < n) shifts.count l in
            let e : shift_of_number t ≡ Some p.0 = some_same (shift_of_number t) (Some p.0) (sym (slice_get-get_or frame.shifts.items t None l) ∙ p.1) in
            let k = shift_has (translation_at s.translations t) (shift_of_number t) p.0 (shifts.each t m) e in
            (m, k.0, subst (λ (v : List ℤ). IsCarried cell (vector_of line.place) (vector_difference x (vector_of v))) k.1 (carried_from line (vector_difference x (vector_of p.0)) p.2)),
      )

      pub cell_frame_of : IsCell cell → All (λ shift. MatchOption shift ⊤ (IsShiftWithin 144000000)) frame.shifts.items → IsFrameOf s (Some cell) frame
      cell_frame_of c near = record {
        good = good_cell good;
        near_rows = subst (λ (r : List (List ℤ)). IsRotationWithin 288 r) (sym rows) h.near_rows;
        near_origin = subst (IsShiftWithin 1200000000) (sym origin) (shift_more 1199999988 1200000000 cell.origin (omega arith) (c.origin.each 0 (pos 0) (below 0 (omega arith)), c.origin.each 1 (pos 0) (below 1 (omega arith)), c.origin.each 2 (pos 0) (below 2 (omega arith))));
        near_shifts = near;
        on_grid = λ line. (λ g. (g.0, carried_to line g.0 g.1), λ g. (g.0, carried_from line g.0 g.1));
        places = cell_places;
      }
        where
          below : (i : ℕ) → i < 3 → i < length cell.origin
          below i l = subst (λ n. i < n) (sym c.origin.count) l

-- the translations in units, one after the other
module _ (size : ℕ) (adjugate ts : List (List ℤ)) where
  abbrev Near : Option (List ℤ) → Type 0
  Near shift = MatchOption shift ⊤ (IsShiftWithin 144000000)

  pub no_shifts : AreShiftsUnder size adjugate ts 0 [] × All (λ shift. MatchOption shift ⊤ (IsShiftWithin 144000000)) []
  no_shifts = (record { count = refl; each = λ t l. absurd (omega (arith, l)) }, λ k d l. absurd (omega (arith, l)))

  pub one_shift_more : (n : ℕ) (shifts : List (Option (List ℤ))) (found : Option (List ℤ)) → AreShiftsUnder size adjugate ts n shifts × All (λ shift. MatchOption shift ⊤ (IsShiftWithin 144000000)) shifts
      → IsShiftUnder size adjugate (translation_at ts n) found → MatchOption found ⊤ (IsShiftWithin 144000000)
      → AreShiftsUnder size adjugate ts (n + 1) (shifts ++ found ∷ []) × All (λ shift. MatchOption shift ⊤ (IsShiftWithin 144000000)) (shifts ++ found ∷ [])
  one_shift_more n shifts found h k near = (
    record {
      count = let l : length (shifts ++ found ∷ []) ≡ length shifts + 1 = length-more shifts found in omega (arith, l, h.0.count);
      each = λ t l. elim (cases_lt t n) [
        | inl m ↦ subst (IsShiftUnder size adjugate (translation_at ts t)) (sym (get_or_append_left shifts (found ∷ []) None t (inside t m))) (h.0.each t m)
        | inr m ↦
            let s : n ≡ t = omega (arith, l, m) in
            subst (λ j. IsShiftUnder size adjugate (translation_at ts j) (get_or (shifts ++ found ∷ []) j None)) s
            (subst (IsShiftUnder size adjugate (translation_at ts n)) (sym (get_or_push shifts found None n h.0.count)) k)
      ];
    },
    λ i d l. each-more Near shifts found d (λ j m. h.1 j d m) near i l,
  )
    where
      inside : (i : ℕ) → i < n → i < length shifts
      inside i m = let c = h.0.count in omega (arith, m, c)
