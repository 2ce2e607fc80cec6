-- Laws of the little group.
--
-- little-identity, little-product, little-inverse: the little group is a subgroup
-- phase-little: the phase of R t is that of t, for R of the little group
use Rattle.std.proofs.Common.{◌≡◌, sym, ap, ◌∙◌, subst, ℕ, ◌<◌, ℤ, ◌+ℤ◌, neg_ℤ, length}
use Rattle.algebra.specs.Whole.{whole}
use Rattle.space_ops.specs.Matrix.{Vector, image_under}
use Rattle.space_ops.specs.Seitz.{inverse_matrix}
use Rattle.space_ops.specs.OpLaws.{back-matrix}
use Rattle.space_ops.specs.Words.{op_at, vector_difference, IsLatticeVector}
use Rattle.space_ops.specs.Group.{Parent, IsParentGroup}
use Rattle.space_ops.specs.GroupLaws.{parent-keeps, parent-unimodular, rotation_group, rotation_group-lawful}
use Rattle.kstar.specs.Star.{image_at, IsLittle}
use Rattle.algebra.specs.Multiples.{IsMultiple}
use Rattle.kstar.specs.WaveVector.{row_value, row_product, AreEquivalent, HasPhases, phase_of}
use Rattle.kstar.specs.WaveVectorLaws.{row_value-product, row_value-difference, equivalent-refl, equivalent-sym, equivalent-trans, phases-lattice}
use Rattle.kstar.specs.PhaseLaws.{phase_of-equal}
use Rattle.kstar.specs.ImageLaws.{row_product-product, row_product-unit, product-equivalent, image-equivalent, image_at-product, image_at-identity, back-image}

module _ (p : Parent) (h : IsParentGroup p) where
  -- the little group is a subgroup
  pub little-identity : (k : Vector ℤ) → IsLittle p k 0
  little-identity k = subst (λ (l : Vector ℤ). AreEquivalent p.lattice l k) (sym (image_at-identity p h k)) (equivalent-refl p.lattice k)

  pub little-product : (k : Vector ℤ) (a b : ℕ) → a < length p.ops → b < length p.ops → IsLittle p k a → IsLittle p k b → IsLittle p k ((rotation_group p.ops).product a b)
  little-product k a b l m e f =
      subst (λ (x : Vector ℤ). AreEquivalent p.lattice x k) (sym (image_at-product p h k a b l m))
      (equivalent-trans p.lattice (image_at p (image_at p k b) a) (image_at p k a) k (image-equivalent p h (image_at p k b) k a l f) e)

  pub little-inverse : (k : Vector ℤ) (a : ℕ) → a < length p.ops → IsLittle p k a → IsLittle p k ((rotation_group p.ops).inverse a)
  little-inverse k a l e =
      let g = rotation_group-lawful p h in
      let i = (rotation_group p.ops).inverse a in
      equivalent-sym p.lattice k (image_at p k i)
      (subst (λ (x : Vector ℤ). AreEquivalent p.lattice x (image_at p k i)) (back-image p h k a l) (image-equivalent p h (image_at p k a) k i (g.inverse_below a l) e))

  -- the phase of R t is that of t
  pub phase-little : (k t : Vector ℤ) (a : ℕ) → a < length p.ops → HasPhases p.lattice k → IsLatticeVector p.lattice t → IsLittle p k a
      → phase_of k (image_under whole (op_at p.ops a).rot t) ≡ phase_of k t
  phase-little k t a l phases v e =
      let r = (op_at p.ops a).rot in
      let keep = parent-keeps p h a l in
      let f : AreEquivalent p.lattice (row_product (image_at p k a) r) (row_product k r) = product-equivalent p.lattice (image_at p k a) k r keep e in
      let g : row_product (image_at p k a) r ≡ k = row_product-product k (inverse_matrix whole r) r ∙ ap (row_product k) (back-matrix r (parent-unimodular p h a l)) ∙ row_product-unit k in
      let d : AreEquivalent p.lattice (row_product k r) k = equivalent-sym p.lattice k (row_product k r) (subst (λ (x : Vector ℤ). AreEquivalent p.lattice x (row_product k r)) g f) in
      let q : row_value (vector_difference (row_product k r) k) t ≡ row_value k (image_under whole r t) +ℤ neg_ℤ (row_value k t) =
      row_value-difference (row_product k r) k t ∙ ap (λ x. x +ℤ neg_ℤ (row_value k t)) (row_value-product k r t) in
      phase_of-equal k k (image_under whole r t) t (phases-lattice p.lattice k phases (image_under whole r t) (keep t v)) (phases-lattice p.lattice k phases t v)
      (subst (IsMultiple 144) q (d t v))
