-- Laws of the arms of a star, by the numbers of their representatives.
--
-- first-image: each image is equivalent to that of the first operation which gives it
-- arm-some: each image is equivalent to an arm
-- arm-one: arms are pairwise inequivalent
use Rattle.std.proofs.Common.{◌≡◌, sym, subst, ℕ, ℤ, ◌<◌, ◌+◌, List, length, get_or, arith}
use Rattle.space_ops.specs.Matrix.{Vector}
use Rattle.space_ops.specs.Words.{vector_difference}
use Rattle.space_ops.specs.Group.{Parent, IsParentGroup}
use Rattle.kstar.specs.WaveVector.{AreEquivalent}
use Rattle.kstar.specs.WaveVectorLaws.{equivalent-refl, equivalent-sym, equivalent-trans}
use Rattle.algebra.specs.RisingLists.{IsRisingListOf}
use Rattle.kstar.specs.Star.{image_at, IsFirstOfArm}
use Rattle.kstar.specs.DecisionLaws.{whole-decide, first_of_some}

same_number : (i j : ℕ) → (i < j → ⊥) → (j < i → ⊥) → i ≡ j
same_number i j h k = grind arith

module _ (p : Parent) (h : IsParentGroup p) (k : Vector ℤ) where
  -- each image is equivalent to that of the first operation which gives it
  pub first-image : (r : ℕ) → r < length p.ops → (s : ℕ) × (s < length p.ops) × IsFirstOfArm p k s × AreEquivalent p.lattice (image_at p k s) (image_at p k r)
  first-image r l =
      let P = λ (s : ℕ). AreEquivalent p.lattice (image_at p k s) (image_at p k r) in
      let w = first_of_some P (λ s. whole-decide p.lattice (vector_difference (image_at p k s) (image_at p k r))) r (equivalent-refl p.lattice (image_at p k r)) in
      let b : w.0 < r + 1 = w.1 in (
        w.0,
        omega arith,
        (λ t m e. w.2.1 t m (equivalent-trans p.lattice (image_at p k t) (image_at p k w.0) (image_at p k r) e w.2.0)),
        w.2.0,
      )

  module _ (by : List ℕ) (arms : IsRisingListOf (length p.ops) (IsFirstOfArm p k) by) where
    -- each image is equivalent to an arm
    pub arm-some : (r : ℕ) → r < length p.ops → (i : ℕ) × (i < length by) × AreEquivalent p.lattice (image_at p k (get_or by i 0)) (image_at p k r)
    arm-some r l =
        let w = first-image r l in
        let v = arms.every w.0 w.1 w.2 in
        (v.0, v.1, subst (λ s. AreEquivalent p.lattice (image_at p k s) (image_at p k r)) (sym v.2) w.3)

    -- arms are pairwise inequivalent
    pub arm-one : (i j : ℕ) → i < length by → j < length by → AreEquivalent p.lattice (image_at p k (get_or by i 0)) (image_at p k (get_or by j 0)) → i ≡ j
    arm-one i j l m e =
        same_number i j (λ b. arms.has j m (get_or by i 0) (arms.rising i j b m) e)
        (λ b. arms.has i l (get_or by j 0) (arms.rising j i b l) (equivalent-sym p.lattice (image_at p k (get_or by i 0)) (image_at p k (get_or by j 0)) e))
