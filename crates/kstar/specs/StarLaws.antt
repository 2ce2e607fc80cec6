-- Laws of the star of a wave vector.
--
-- star-first: arm 0 is k itself, by operation 0
-- star-inequivalent: the arms are pairwise inequivalent
-- star-cover: each image of k is equivalent to an arm
-- star-orders: the orders of star and little group multiply to the number of rotations
-- star-subgroup: the little group is a subgroup of the group of rotations
use Rattle.std.proofs.Common.{◌≡◌, sym, ap, ◌∙◌, subst, ℕ, zero, suc, ◌<◌, ◌*◌, ℤ, List, length, get_or, arith}
use Rattle.space_ops.specs.Matrix.{Vector}
use Rattle.space_ops.specs.Group.{Parent, IsParentGroup}
use Rattle.space_ops.specs.GroupLaws.{rotation_group, rotation_group-lawful}
use Rattle.kstar.specs.WaveVector.{AreEquivalent}
use Rattle.algebra.specs.RisingLists.{IsRisingListOf}
use Rattle.algebra.specs.RisingListLaws.{listed-below, listed-has, has-listed}
use Rattle.kstar.specs.Star.{IsLittle, image_at, row_in, WaveStar, IsStarOf, HasFirstArm, AreInequivalent, CoverImages}
use Rattle.algebra.specs.Subgroup.{IsSubgroup}
use Rattle.kstar.specs.ImageLaws.{image_at-identity}
use Rattle.kstar.specs.LittleLaws.{little-identity, little-product, little-inverse}
use Rattle.kstar.specs.ArmLaws.{arm-some, arm-one}
use Rattle.kstar.specs.OrderLaws.{little-times_arms}

least-first : (n : ℕ) (P : ℕ → Type 0) (xs : List ℕ) → IsRisingListOf n P xs → (i : ℕ) → i < length xs → get_or xs i 0 ≡ 0 → get_or xs 0 0 ≡ 0
least-first n P xs h zero l e = e
least-first n P xs h (suc i) l e = let b : get_or xs 0 0 < get_or xs (suc i) 0 = h.rising 0 (suc i) (omega arith) l in absurd (omega (arith, b, e))

module _ (p : Parent) (h : IsParentGroup p) (k : Vector ℤ) (s : WaveStar) (star : IsStarOf p k s) where
  pub star-first : HasFirstArm k s
  star-first =
      let w = star.by.every 0 h.list.some (λ r l e. omega arith) in
      let some : 0 < length s.by = let l : w.0 < length s.by = w.1 in omega arith in
      let first : get_or s.by 0 0 ≡ 0 = least-first (length p.ops) _ s.by star.by w.0 w.1 w.2 in
      record { some = some; by = first; row = star.arms.image 0 some ∙ ap (image_at p k) first ∙ image_at-identity p h k }

  pub star-inequivalent : AreInequivalent p.lattice s
  star-inequivalent i j l m e =
      arm-one p h k s.by star.by i j l m
      (subst (λ (x : Vector ℤ). AreEquivalent p.lattice x (image_at p k (get_or s.by j 0))) (star.arms.image i l)
      (subst (λ (x : Vector ℤ). AreEquivalent p.lattice (row_in s.arms i) x) (star.arms.image j m) e))

  pub star-cover : CoverImages p k s
  star-cover r l =
      let w = arm-some p h k s.by star.by r l in
      (w.0, w.1, subst (λ (x : Vector ℤ). AreEquivalent p.lattice x (image_at p k r)) (sym (star.arms.image w.0 w.1)) w.2)

  pub star-orders : length s.by * length s.little ≡ length p.ops
  star-orders = little-times_arms p h k s.by star.by s.little star.little

  pub star-subgroup : IsSubgroup (rotation_group p.ops) s.little
  star-subgroup =
      let n = length p.ops in
      let P = IsLittle p k in
      let g = rotation_group-lawful p h in
      let below = listed-below n P s.little star.little in
      let has = listed-has n P s.little star.little in
      record {
        below = below;
        identity = has-listed n P s.little star.little 0 h.list.some (little-identity p h k);
        product = λ a b c d.
            has-listed n P s.little star.little _ (g.product_below a b (below a c) (below b d)) (little-product p h k a b (below a c) (below b d) (has a c) (has b d));
        inverse = λ a c. has-listed n P s.little star.little _ (g.inverse_below a (below a c)) (little-inverse p h k a (below a c) (has a c));
      }
