-- The rotations that turn translations, and their bounds.
use Rattle.std.proofs.Common.{◌≡◌, sym, ap, ◌∙◌, subst, ℕ, ◌<◌, ◌≤◌, ◌/◌, ℤ, ◌*ℤ◌, unsigned_abs, FitsSigned, w8, w32, List, [], length, arith}
use Rattle.std.proofs.lemmas.Int.{ints, to_z-of_z, fits_signed_from_abs}
use Rattle.std.specs.Prelude.{slice_index_or}
use Rattle.algebra.specs.Whole.{whole}
use Rattle.algebra.specs.PassedLaws.{passed}
use Rattle.space_ops.specs.declared.op.Op.{Op}
use Rattle.space_ops.specs.Matrix.{Vector, image_under}
use Rattle.space_ops.specs.Seitz.{Seitz, seitz_inverse, inverse_matrix}
use Rattle.space_ops.specs.Op.{matrix_of, vector_of, shift_of, identity_op, IsWithin, IsShiftWithin}
use Rattle.space_ops.specs.WithinLaws.{abs_of_within, within_product}
use Rattle.space_ops.specs.Words.{op_at, IsLatticeVector}
use Rattle.kstar.specs.Star.{WaveStar}
use Rattle.kstar.specs.WaveVector.{phase_of}
use Rattle.super_group.specs.Supercell.{multiplier, IsBelowEdge, IsInside}
use Rattle.super_group.specs.SupercellLaws.{member-inverse}
use Rattle.super_group.specs.Quotient.{SupercellGroup, element_of, number_of, translation_at}
use Rattle.super_group.specs.QuotientLaws.{element-number, element-parts, number-inverse, places-below}
use Rattle.induce.specs.declared.arms.ArmNumber.{ArmNumber}
use Rattle.induce.specs.Induced.{representative, part_phase, IsStarOn}
use Rattle.induce.specs.InducedLaws.{rep-member}
use Rattle.induce.specs.Arms.{no_arm, AreArmNumbers}
use Rattle.induce.proofs.ArmLemmas.{back_below}
use Rattle.induce.proofs.TableLemmas.{turned-lattice, turned-phase}

-- a product that was passed by value is within the product of the bounds
pub term_within : (a x r : ℤ) → FitsSigned w8 a → FitsSigned w32 x → FitsSigned w32 r → r ≡ passed w8 a → IsWithin 3 a → IsWithin 144 x → IsWithin 432 (passed w32 (passed w32 r *ℤ passed w32 x))
term_within a x r f g k e h l =
    let w : IsWithin 432 (a *ℤ x) = within_product 3 144 a x h l in
    let b : unsigned_abs (a *ℤ x) ≤ 432 = abs_of_within 432 (a *ℤ x) w in
    let p : passed w32 r *ℤ passed w32 x ≡ a *ℤ x = (λ i. (to_z-of_z w32 r k ∙ e ∙ to_z-of_z w8 a f) i *ℤ to_z-of_z w32 x g i) in
    subst (IsWithin 432) (sym (ap (passed w32) p ∙ to_z-of_z w32 (a *ℤ x) (fits_signed_from_abs w32 (a *ℤ x) (omega arith)))) w

edge_within : (d : List ℕ) (i : ℕ) → multiplier d i ≤ 12 → (x : ℤ) → IsBelowEdge d i x → IsWithin 144 x
edge_within d i l x h = (omega (arith, ints, h.0, h.1), omega (arith, ints, h.0, h.1))

inside_within : (d : List ℕ) → ((i : ℕ) → i < 3 → multiplier d i ≤ 12) → (v : Vector ℤ) → IsInside d v → IsShiftWithin 144 (shift_of v)
inside_within d few v h = (
  edge_within d 0 (few 0 (omega arith)) v.x h.0,
  edge_within d 1 (few 1 (omega arith)) v.y h.1,
  edge_within d 2 (few 2 (omega arith)) v.z h.2,
)

module _ (q : SupercellGroup) (s : WaveStar) (h : IsStarOn q s) where
  -- a translation of the supercell
  pub translation_within : (t : ℕ) → t < length q.translations → (v : List ℤ) → v ≡ slice_index_or q.translations t [] → IsShiftWithin 144 v
  translation_within t l v e =
      subst (IsShiftWithin 144) (sym (e ∙ h.quotient.translations.shaped t l)) (inside_within q.d h.quotient.supercell.few (translation_at q.translations t) (h.quotient.translations.inside t l))

  module _ (arms : List ArmNumber) (a : AreArmNumbers q s arms) (j : ℕ) (l : j < length s.by) (n : ℕ) (e : n ≡ length q.translations) where
    abbrev back : ℕ
    back = (slice_index_or arms j no_arm).back

    -- the rotation of the inverse of a representative
    pub turn_below : back / n < length q.parent.ops
    turn_below = subst (λ m. back / m < length q.parent.ops) (sym e) (places-below q h.quotient back (back_below q h.quotient s h.star arms a j l)).0

    turn_is : (op : Op) → op ≡ slice_index_or q.parent.ops (back / n) identity_op → matrix_of op.rot ≡ inverse_matrix whole (representative q.parent s j).rot
    turn_is op f =
        let r = representative q.parent s j in
        let m = rep-member q.parent h.quotient.parent s.row s h.star j l in
        let k : back ≡ number_of q (seitz_inverse whole r) = a.back j l ∙ number-inverse q h.quotient r m in
        ap (λ (o : Op). matrix_of o.rot) f ∙ ap (λ i. (op_at q.parent.ops (back / i)).rot) e ∙ ap (λ (g : Seitz ℤ). g.rot) (sym (element-parts q h.quotient back))
        ∙ ap (λ i. (element_of q i).rot) k ∙ (element-number q h.quotient (seitz_inverse whole r) (member-inverse q h.quotient r m)).rotation

    module _ (op : Op) (f : op ≡ slice_index_or q.parent.ops (back / n) identity_op) (t : ℕ) (lt : t < length q.translations) (v : List ℤ) (g : v ≡ slice_index_or q.translations t [])
        (x : List ℤ) (k : x ≡ shift_of (image_under whole (matrix_of op.rot) (vector_of v))) where
      turned_is : vector_of x ≡ image_under whole (inverse_matrix whole (representative q.parent s j).rot) (translation_at q.translations t)
      turned_is = ap vector_of k ∙ (λ i. image_under whole (turn_is op f i) (vector_of (g i)))

      pub turned_lattice : IsLatticeVector q.parent.lattice (vector_of x)
      turned_lattice = subst (IsLatticeVector q.parent.lattice) (sym turned_is) (turned-lattice q s h (translation_at q.translations t) j (h.quotient.translations.in_lattice t lt) l)

      pub turned_phase : phase_of s.row (vector_of x) ≡ part_phase q.parent s (element_of q t) j j
      turned_phase = ap (phase_of s.row) turned_is ∙ turned-phase q s h t j lt l
