-- Laws of the moves of arms.
--
-- move-some, move-one: each operation moves arm i to exactly one arm
-- move-identity: the identity keeps arms
-- move-product: a product moves an arm as its right factor, then its left
-- little-moves, moves-little: r_j^-1 r r_i is in the little group exactly where r moves arm i to arm j
-- arms-moved: these in one
use Rattle.std.proofs.Common.{◌≡◌, sym, ap, ◌∙◌, subst, ℕ, ◌<◌, ℤ, length, get_or}
use Rattle.algebra.specs.NumberedGroupLaws.{product-inverse}
use Rattle.space_ops.specs.Matrix.{Vector}
use Rattle.space_ops.specs.Group.{Parent, IsParentGroup}
use Rattle.space_ops.specs.GroupLaws.{rotation_group, rotation_group-lawful}
use Rattle.kstar.specs.WaveVector.{AreEquivalent}
use Rattle.kstar.specs.WaveVectorLaws.{equivalent-refl, equivalent-sym, equivalent-trans}
use Rattle.kstar.specs.Star.{IsLittle, image_at, row_in, WaveStar, IsStarOf}
use Rattle.kstar.specs.StarLaws.{star-inequivalent, star-cover}
use Rattle.kstar.specs.ImageLaws.{image-equivalent, image_at-product, image_at-identity, back-image}
use Rattle.kstar.specs.Moves.{MovesArm, little_number, AreArmsMoved}

module _ (p : Parent) (h : IsParentGroup p) (k : Vector ℤ) (s : WaveStar) (star : IsStarOf p k s) where
  abbrev Equivalent : Vector ℤ → Vector ℤ → Type 0
  Equivalent = AreEquivalent p.lattice

  abbrev arm : ℕ → Vector ℤ
  arm i = row_in s.arms i

  abbrev by : ℕ → ℕ
  by i = get_or s.by i 0

  abbrev product : ℕ → ℕ → ℕ
  product = (rotation_group p.ops).product

  abbrev inverse : ℕ → ℕ
  inverse = (rotation_group p.ops).inverse

  -- the image of an arm is the image of k under the product with its representative
  arm-image : (r i : ℕ) → r < length p.ops → i < length s.by → image_at p (arm i) r ≡ image_at p k (product r (by i))
  arm-image r i l m = ap (λ (x : Vector ℤ). image_at p x r) (star.arms.image i m) ∙ sym (image_at-product p h k r (by i) l (star.by.below i m))

  pub move-some : (r i : ℕ) → r < length p.ops → i < length s.by → (j : ℕ) × (j < length s.by) × MovesArm p s r i j
  move-some r i l m =
      let c = star-cover p h k s star (product r (by i)) ((rotation_group-lawful p h).product_below r (by i) l (star.by.below i m)) in (
        c.0,
        c.1,
        subst (λ (x : Vector ℤ). Equivalent x (arm c.0)) (sym (arm-image r i l m)) (equivalent-sym p.lattice (arm c.0) (image_at p k (product r (by i))) c.2),
      )

  pub move-one : (r i j l : ℕ) → j < length s.by → l < length s.by → MovesArm p s r i j → MovesArm p s r i l → j ≡ l
  move-one r i j l b c e f =
      star-inequivalent p h k s star j l b c
      (equivalent-trans p.lattice (arm j) (image_at p (arm i) r) (arm l) (equivalent-sym p.lattice (image_at p (arm i) r) (arm j) e) f)

  pub move-identity : (i : ℕ) → MovesArm p s 0 i i
  move-identity i = subst (λ (x : Vector ℤ). Equivalent x (arm i)) (sym (image_at-identity p h (arm i))) (equivalent-refl p.lattice (arm i))

  pub move-product : (a b i j l : ℕ) → a < length p.ops → b < length p.ops → MovesArm p s b i j → MovesArm p s a j l → MovesArm p s (product a b) i l
  move-product a b i j l la lb e f =
      subst (λ (x : Vector ℤ). Equivalent x (arm l)) (sym (image_at-product p h (arm i) a b la lb))
      (equivalent-trans p.lattice (image_at p (image_at p (arm i) b) a) (image_at p (arm j) a) (arm l) (image-equivalent p h (image_at p (arm i) b) (arm j) a la e) f)

  little-image : (r i j : ℕ) → r < length p.ops → i < length s.by → j < length s.by → image_at p k (little_number p s r j i) ≡ image_at p (image_at p (arm i) r) (inverse (by j))
  little-image r i j l m n =
      let g = rotation_group-lawful p h in
      image_at-product p h k (inverse (by j)) (product r (by i)) (g.inverse_below (by j) (star.by.below j n)) (g.product_below r (by i) l (star.by.below i m))
      ∙ ap (λ (x : Vector ℤ). image_at p x (inverse (by j))) (sym (arm-image r i l m))

  -- k R^-1 R = k
  forth-image : (x : Vector ℤ) (a : ℕ) → a < length p.ops → image_at p (image_at p x (inverse a)) a ≡ x
  forth-image x a l =
      let g = rotation_group-lawful p h in
      sym (image_at-product p h x a (inverse a) l (g.inverse_below a l)) ∙ ap (image_at p x) (product-inverse (rotation_group p.ops) g a l) ∙ image_at-identity p h x

  pub little-moves : (r i j : ℕ) → r < length p.ops → i < length s.by → j < length s.by → IsLittle p k (little_number p s r j i) → MovesArm p s r i j
  little-moves r i j l m n e =
      let b = by j in
      let lb = star.by.below j n in
      let y = image_at p (arm i) r in
      let f : Equivalent (image_at p y (inverse b)) k = subst (λ (x : Vector ℤ). Equivalent x k) (little-image r i j l m n) e in
      let d : Equivalent (image_at p (image_at p y (inverse b)) b) (image_at p k b) = image-equivalent p h (image_at p y (inverse b)) k b lb f in
      subst (λ (x : Vector ℤ). Equivalent y x) (sym (star.arms.image j n)) (subst (λ (x : Vector ℤ). Equivalent x (image_at p k b)) (forth-image y b lb) d)

  pub moves-little : (r i j : ℕ) → r < length p.ops → i < length s.by → j < length s.by → MovesArm p s r i j → IsLittle p k (little_number p s r j i)
  moves-little r i j l m n e =
      let b = by j in
      let lb = star.by.below j n in
      let y = image_at p (arm i) r in
      let lc = (rotation_group-lawful p h).inverse_below b lb in
      let f : Equivalent (image_at p y (inverse b)) (image_at p (arm j) (inverse b)) = image-equivalent p h y (arm j) (inverse b) lc e in
      let d : image_at p (arm j) (inverse b) ≡ k = ap (λ (x : Vector ℤ). image_at p x (inverse b)) (star.arms.image j n) ∙ back-image p h k b lb in
      subst (λ (x : Vector ℤ). Equivalent x k) (sym (little-image r i j l m n)) (subst (λ (x : Vector ℤ). Equivalent (image_at p y (inverse b)) x) d f)

  pub arms-moved : AreArmsMoved p k s
  arms-moved = record {
    some = move-some;
    one = move-one;
    identity = move-identity;
    product = move-product;
    little = λ r i j l m n. (little-moves r i j l m n, moves-little r i j l m n);
  }
