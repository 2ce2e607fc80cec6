-- Laws of members of a listed group.
--
-- member-rotation: a member's rotation is listed under its number
-- rotation_of-listed: a listed rotation has its own number
-- member-rest: what a member has more is a lattice vector
-- member-split: a member is {E|n} after the listed operation of its rotation
-- member-listed: these in one
-- rotation_of-product, rotation_of-inverse, rotation_of-identity: numbers of rotations multiply as the rotations
-- members-closed: members are closed under products and inverses
-- listed-small, listed-near, listed-unimodular: a listed operation may be composed and inverted
use Rattle.std.proofs.Common.{◌≡◌, sym, ap, ◌∙◌, subst, ℕ, ◌<◌, ℤ, length, arith}
use Rattle.std.specs.Prelude.{slice_index_or}
use Rattle.std.proofs.lemmas.Int.{ints}
use Rattle.algebra.specs.Whole.{whole}
use Rattle.algebra.specs.WholeLaws.{whole_ring}
use Rattle.space_ops.specs.declared.op.Op.{Op}
use Rattle.space_ops.specs.Op.{matrix_of, IsShiftWithin, IsSmallRotation, IsUnimodular, identity_op}
use Rattle.space_ops.specs.Matrix.{Vector, matrix_times, image_under, vector_sum, unit_matrix}
use Rattle.space_ops.specs.MatrixLaws.{same_vector, unit-matrix_times}
use Rattle.space_ops.specs.Seitz.{Seitz, seitz_product, seitz_inverse, seitz_identity, inverse_matrix}
use Rattle.space_ops.specs.OpLaws.{same_seitz}
use Rattle.space_ops.specs.Words.{op_at, vector_difference, IsLatticeVector}
use Rattle.space_ops.specs.WordLaws.{translation, word-identity, word-product, word-inverse}
use Rattle.space_ops.specs.LeastShiftLaws.{cell-within}
use Rattle.space_ops.specs.Group.{Parent, IsParentGroup}
use Rattle.space_ops.specs.GroupLaws.{place_of, place_of-is, parent-word, parent-unimodular, word-unimodular, rotation_group}
use Rattle.space_ops.specs.Member.{IsMemberOf, rotation_of, rest_of, IsListedMember, AreMembers}

-- t and what s has more than t
more_again : (s t : Vector ℤ) → s ≡ vector_sum whole (vector_difference s t) (image_under whole (unit_matrix whole) t)
more_again s t = same_vector _ _ (omega (arith, ints)) (omega (arith, ints)) (omega (arith, ints))

module _ (p : Parent) (h : IsParentGroup p) where
  pub member-rotation : (g : Seitz ℤ) → IsMemberOf p g → (rotation_of p g < length p.ops) × ((op_at p.ops (rotation_of p g)).rot ≡ g.rot)
  member-rotation g m = let a = parent-word p h g m in place_of-is p.ops g.rot (a.place, a.below, a.same.rotation)

  pub rotation_of-listed : (g : Seitz ℤ) (r : ℕ) → r < length p.ops → g.rot ≡ (op_at p.ops r).rot → rotation_of p g ≡ r
  rotation_of-listed g r l e = let q = place_of-is p.ops g.rot (r, l, e) in h.list.apart (rotation_of p g) r q.0 l (q.1 ∙ e)

  pub member-rest : (g : Seitz ℤ) → IsMemberOf p g → IsLatticeVector p.lattice (rest_of p g)
  member-rest g m =
      let a = parent-word p h g m in
      subst (λ n. IsLatticeVector p.lattice (vector_difference g.shift (op_at p.ops n).shift)) (sym (rotation_of-listed g a.place a.below a.same.rotation)) a.same.translation

  -- {E|n} after the listed operation
  pub member-split : (g : Seitz ℤ) → IsMemberOf p g → g ≡ seitz_product whole (translation (rest_of p g)) (op_at p.ops (rotation_of p g))
  member-split g m =
      let l = op_at p.ops (rotation_of p g) in
      same_seitz g (seitz_product whole (translation (rest_of p g)) l) (sym (unit-matrix_times whole whole_ring l.rot ∙ (member-rotation g m).1)) (more_again g.shift l.shift)

  pub member-listed : (g : Seitz ℤ) → IsMemberOf p g → IsListedMember p g
  member-listed g m = record { below = (member-rotation g m).0; rotation = (member-rotation g m).1; rest = member-rest g m; split = member-split g m }

  pub rotation_of-product : (g k : Seitz ℤ) → IsMemberOf p g → IsMemberOf p k
      → rotation_of p (seitz_product whole g k) ≡ (rotation_group p.ops).product (rotation_of p g) (rotation_of p k)
  rotation_of-product g k m n = λ i. place_of p.ops (matrix_times whole (sym (member-rotation g m).1 i) (sym (member-rotation k n).1 i))

  pub rotation_of-inverse : (g : Seitz ℤ) → IsMemberOf p g → rotation_of p (seitz_inverse whole g) ≡ (rotation_group p.ops).inverse (rotation_of p g)
  rotation_of-inverse g m = λ i. place_of p.ops (inverse_matrix whole (sym (member-rotation g m).1 i))

  pub rotation_of-identity : rotation_of p (seitz_identity whole) ≡ 0
  rotation_of-identity = rotation_of-listed (seitz_identity whole) 0 h.list.some (ap (λ (g : Seitz ℤ). g.rot) (sym h.list.identity))

  pub members-closed : AreMembers p
  members-closed = record {
    identity = word-identity p.generators p.lattice;
    product = word-product p.generators p.lattice;
    inverse = λ g m. word-inverse p.generators p.lattice h.generators.unimodular g m (word-unimodular p.generators p.lattice h.generators.unimodular g m);
    identity-rotation = rotation_of-identity;
    product-rotation = rotation_of-product;
    inverse-rotation = rotation_of-inverse;
  }

  pub listed-small : (i : ℕ) → i < length p.ops → (o : Op) → o ≡ slice_index_or p.ops i identity_op → IsSmallRotation o.rot
  listed-small i l o e = subst (λ (x : Op). IsSmallRotation x.rot) (sym e) (h.small i l)

  pub listed-near : (i : ℕ) → i < length p.ops → (o : Op) → o ≡ slice_index_or p.ops i identity_op → IsShiftWithin 11 o.shift
  listed-near i l o e =
      subst (λ (x : Op). IsShiftWithin 11 x.shift) (sym e) (cell-within (slice_index_or p.ops i identity_op).shift (h.list.in_cell i l))

  pub listed-unimodular : (i : ℕ) → i < length p.ops → (o : Op) → o ≡ slice_index_or p.ops i identity_op → IsUnimodular (matrix_of o.rot)
  listed-unimodular i l o e = subst (λ (x : Op). IsUnimodular (matrix_of x.rot)) (sym e) (parent-unimodular p h i l)
