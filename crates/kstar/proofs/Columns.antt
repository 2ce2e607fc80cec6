-- Columns of rotations, and operations of a group.
use Rattle.std.proofs.Common.{◌≡◌, subst, FitsSigned, w8, ◌∙◌, ℕ, ◌<◌, ap, sym, ℤ, List, [], ◌∷◌, length, arith}
use Rattle.std.proofs.lemmas.Int.{ints, to_z-of_z}
use Rattle.space_ops.specs.declared.op.Op.{Op}
use Rattle.algebra.specs.Whole.{whole}
use Rattle.space_ops.specs.Seitz.{Seitz, inverse_matrix}
use Rattle.space_ops.specs.Op.{IsWithin, IsShiftWithin, IsSmallMatrix, seitz_of, inverse_of}
use Rattle.space_ops.specs.OpLaws.{seitz_of-inverse_of}
use Rattle.space_ops.specs.Words.{op_at}
use Rattle.space_ops.specs.Group.{Parent, IsParentGroup}
use Rattle.space_ops.specs.GroupLaws.{parent-inverse}
use Rattle.algebra.specs.PassedLaws.{passed}

pub column_is : (r : List ℤ) (x y z : ℤ) → FitsSigned w8 x → FitsSigned w8 y → FitsSigned w8 z → r ≡ passed w8 x ∷ passed w8 y ∷ passed w8 z ∷ [] → r ≡ x ∷ y ∷ z ∷ []
column_is r x y z f g h e = e ∙ (λ i. to_z-of_z w8 x f i ∷ to_z-of_z w8 y g i ∷ to_z-of_z w8 z h i ∷ [])

more : (x : ℤ) → IsWithin 3 x → IsWithin 12 x
more x h = (omega (arith, ints, h.0), omega (arith, ints, h.1))

pub column_near : (r : List ℤ) (x y z : ℤ) → r ≡ x ∷ y ∷ z ∷ [] → IsWithin 3 x → IsWithin 3 y → IsWithin 3 z → IsShiftWithin 12 r
column_near r x y z e h k l = subst (IsShiftWithin 12) (sym e) (more x h, more y k, more z l)

pub inverse_rotation : (o q g : Op) → q ≡ inverse_of o → o ≡ g → (seitz_of q).rot ≡ inverse_matrix whole (seitz_of g).rot
inverse_rotation o q g e f = ap (λ (x : Op). (seitz_of x).rot) (e ∙ ap inverse_of f) ∙ ap (λ (s : Seitz ℤ). s.rot) (seitz_of-inverse_of g)

pub inverse_small : (p : Parent) → IsParentGroup p → (i : ℕ) → i < length p.ops → IsSmallMatrix (inverse_matrix whole (op_at p.ops i).rot)
inverse_small p h i l = let w = parent-inverse p h i l in subst IsSmallMatrix (sym w.same.rotation) (h.small w.place w.below)
