-- Laws of images.
--
-- row_product-product, row_product-unit, row_product-difference: rows times matrices
-- image-product: the image under a product
-- image-equivalent: equivalent rows have equivalent images
-- image_at-product, image_at-identity, back-image: images under the operations of a group
use Rattle.std.proofs.Common.{◌≡◌, refl, sym, ap, ◌∙◌, subst, ℕ, ◌<◌, ℤ, length}
use Rattle.space_ops.specs.declared.lattice.Lattice.{Lattice}
use Rattle.algebra.specs.Whole.{whole}
use Rattle.algebra.specs.WholeLaws.{whole_ring}
use Rattle.algebra.specs.Solve.{exps}
use Rattle.algebra.specs.SolveLaws.{solve}
use Rattle.space_ops.specs.Matrix.{Matrix, Vector, matrix_times, image_under, unit_matrix}
use Rattle.space_ops.specs.MatrixLaws.{same_vector, matrix_times-assoc, matrix_times-unit, unit-matrix_times}
use Rattle.space_ops.specs.Seitz.{Seitz, inverse_matrix}
use Rattle.space_ops.specs.Op.{IsUnimodular}
use Rattle.space_ops.specs.OpLaws.{back-matrix, matrix-back, product_unimodular}
use Rattle.space_ops.specs.Words.{op_at, vector_difference, IsLatticeVector}
use Rattle.space_ops.specs.Group.{Parent, IsParentGroup}
use Rattle.space_ops.specs.GroupLaws.{parent-product, parent-inverse, parent-keeps, parent-unimodular, rotation_group, rotation_group-lawful, place_of-is}
use Rattle.kstar.specs.Star.{image_at}
use Rattle.algebra.specs.Multiples.{IsMultiple}
use Rattle.kstar.specs.WaveVector.{row_value, row_product, image_of, AreEquivalent}
use Rattle.kstar.specs.WaveVectorLaws.{row_value-product}
use Rattle.kstar.specs.RowExpressions.{vk, vl, va, vb, env, product_exp, difference_exp}

pub row_product-product : (k : Vector ℤ) (a b : Matrix ℤ) → row_product (row_product k a) b ≡ row_product k (matrix_times whole a b)
row_product-product k a b =
    let v = env k k k k a b in
    let x = product_exp (product_exp vk va) vb in
    let y = product_exp vk (matrix_times exps va vb) in
    same_vector _ _ (solve whole whole_ring v x.x y.x refl) (solve whole whole_ring v x.y y.y refl) (solve whole whole_ring v x.z y.z refl)

pub row_product-unit : (k : Vector ℤ) → row_product k (unit_matrix whole) ≡ k
row_product-unit k =
    let e = unit_matrix whole in
    let v = env k k k k e e in
    let x = product_exp vk (unit_matrix exps) in
    same_vector _ _ (solve whole whole_ring v x.x vk.x refl) (solve whole whole_ring v x.y vk.y refl) (solve whole whole_ring v x.z vk.z refl)

pub row_product-difference : (k l : Vector ℤ) (a : Matrix ℤ) → vector_difference (row_product k a) (row_product l a) ≡ row_product (vector_difference k l) a
row_product-difference k l a =
    let v = env k l k k a a in
    let x = difference_exp (product_exp vk va) (product_exp vl va) in
    let y = product_exp (difference_exp vk vl) va in
    same_vector _ _ (solve whole whole_ring v x.x y.x refl) (solve whole whole_ring v x.y y.y refl) (solve whole whole_ring v x.z y.z refl)

-- the inverse of a product of matrices
inverse-product : (a b : Matrix ℤ) → IsUnimodular a → IsUnimodular b → inverse_matrix whole (matrix_times whole a b) ≡ matrix_times whole (inverse_matrix whole b) (inverse_matrix whole a)
inverse-product a b u v =
    let m = matrix_times whole in
    let i = inverse_matrix whole in
    let c = m a b in
    let e : m c (m (i b) (i a)) ≡ unit_matrix whole =
    matrix_times-assoc whole whole_ring a b (m (i b) (i a)) ∙ ap (m a) (sym (matrix_times-assoc whole whole_ring b (i b) (i a)) ∙ ap (λ x. m x (i a)) (matrix-back b v) ∙ unit-matrix_times whole whole_ring (i a))
    ∙ matrix-back a u in
    sym (matrix_times-unit whole whole_ring (i c)) ∙ ap (m (i c)) (sym e) ∙ sym (matrix_times-assoc whole whole_ring (i c) c (m (i b) (i a)))
    ∙ ap (λ x. m x (m (i b) (i a))) (back-matrix c (product_unimodular a b u v)) ∙ unit-matrix_times whole whole_ring (m (i b) (i a))

-- the image under a product: first b, then a
pub image-product : (k : Vector ℤ) (a b : Matrix ℤ) → IsUnimodular a → IsUnimodular b → image_of k (matrix_times whole a b) ≡ image_of (image_of k b) a
image-product k a b u v = ap (row_product k) (inverse-product a b u v) ∙ sym (row_product-product k (inverse_matrix whole b) (inverse_matrix whole a))

-- a matrix keeps the lattice where its images of lattice vectors are lattice vectors
abbrev pub Keeps : Lattice → Matrix ℤ → Type 0
Keeps lattice a = (t : Vector ℤ) → IsLatticeVector lattice t → IsLatticeVector lattice (image_under whole a t)

pub product-equivalent : (lattice : Lattice) (k l : Vector ℤ) (a : Matrix ℤ) → Keeps lattice a → AreEquivalent lattice k l → AreEquivalent lattice (row_product k a) (row_product l a)
product-equivalent lattice k l a keep e t h =
    subst (IsMultiple 144) (sym (ap (λ (r : Vector ℤ). row_value r t) (row_product-difference k l a) ∙ row_value-product (vector_difference k l) a t)) (e (image_under whole a t) (keep t h))

module _ (p : Parent) (h : IsParentGroup p) where
  pub inverse-keeps : (r : ℕ) → r < length p.ops → Keeps p.lattice (inverse_matrix whole (op_at p.ops r).rot)
  inverse-keeps r l t k =
      let w = parent-inverse p h r l in
      subst (λ (a : Matrix ℤ). IsLatticeVector p.lattice (image_under whole a t)) (sym w.same.rotation) (parent-keeps p h w.place w.below t k)

  -- equivalent rows have equivalent images
  pub image-equivalent : (k l : Vector ℤ) (r : ℕ) → r < length p.ops → AreEquivalent p.lattice k l → AreEquivalent p.lattice (image_at p k r) (image_at p l r)
  image-equivalent k l r b e = product-equivalent p.lattice k l (inverse_matrix whole (op_at p.ops r).rot) (inverse-keeps r b) e

  -- the number of a product of rotations
  abbrev pub product : ℕ → ℕ → ℕ
  product a b = (rotation_group p.ops).product a b

  pub product-rotation : (a b : ℕ) → a < length p.ops → b < length p.ops → (op_at p.ops (product a b)).rot ≡ matrix_times whole (op_at p.ops a).rot (op_at p.ops b).rot
  product-rotation a b l m =
      let w = parent-product p h a b l m in
      (place_of-is p.ops (matrix_times whole (op_at p.ops a).rot (op_at p.ops b).rot) (w.place, w.below, w.same.rotation)).1

  -- the image under a product: first b, then a
  pub image_at-product : (k : Vector ℤ) (a b : ℕ) → a < length p.ops → b < length p.ops → image_at p k (product a b) ≡ image_at p (image_at p k b) a
  image_at-product k a b l m =
      ap (image_of k) (product-rotation a b l m) ∙ image-product k (op_at p.ops a).rot (op_at p.ops b).rot (parent-unimodular p h a l) (parent-unimodular p h b m)

  pub image_at-identity : (k : Vector ℤ) → image_at p k 0 ≡ k
  image_at-identity k =
      let e = unit_matrix whole in
      let i : inverse_matrix whole e ≡ e = sym (matrix_times-unit whole whole_ring (inverse_matrix whole e)) ∙ back-matrix e refl in
      ap (λ (g : Seitz ℤ). image_of k g.rot) h.list.identity ∙ ap (row_product k) i ∙ row_product-unit k

  -- k is the image of its image
  pub back-image : (k : Vector ℤ) (a : ℕ) → a < length p.ops → image_at p (image_at p k a) ((rotation_group p.ops).inverse a) ≡ k
  back-image k a l =
      let g = rotation_group-lawful p h in
      let i = (rotation_group p.ops).inverse a in
      sym (image_at-product k i a (g.inverse_below a l) l) ∙ ap (image_at p k) (g.inverse-product a l) ∙ image_at-identity k
