-- Elements of a quotient as a translation times a listed operation.
--
-- below_order, block-end: the places of the elements of one rotation
-- some_translation, some_rotation, translation_of_order: there is a translation, and a rotation
-- factored: element r T + t is translation t times listed operation r
-- translation-below, block-below: a translation times an element of rotation r is one of rotation r
use Rattle.std.proofs.Common.{◌≡◌, ℕ, ◌+◌, ◌*◌, ◌/◌, ◌<◌, ◌≤◌, sym, ◌∙◌, ap, arith, length, ℤ}
use Rattle.std.proofs.lemmas.Nat.{div-mul-add, div_below}
use Rattle.std.proofs.Math.Nat.{mul-le-mul_left, mul_comm}
use Rattle.algebra.specs.Whole.{whole}
use Rattle.algebra.specs.WholeLaws.{whole_ring}
use Rattle.space_ops.specs.MatrixLaws.{unit-matrix_times}
use Rattle.space_ops.specs.Seitz.{Seitz, seitz_product}
use Rattle.space_ops.specs.Words.{op_at}
use Rattle.super_group.specs.Quotient.{SupercellGroup, IsQuotient, order_of, element_of, number_of, quotient_group}
use Rattle.super_group.specs.QuotientLaws.{row_below, element-parts, element-member, rotation-at, rest-is, product-member, places-below}
use Rattle.super_group.specs.PlaceLaws.{zero-first}
use Rattle.super_group.specs.ElementLaws.{elements-factored}

row_end : (r t q : ℕ) → q < r → q * t + t ≤ r * t
row_end r t q l =
    let n : ℕ = q + 1 in
    let b : n ≤ r = omega (arith, l) in
    let a : t * n ≤ t * r = mul-le-mul_left t b in
    let c : t * n ≡ n * t = mul_comm t n in
    let d : t * r ≡ r * t = mul_comm t r in
    let e : n * t ≡ q * t + t = omega arith in
    omega (arith, a, c, d, e)

module _ (s : SupercellGroup) (h : IsQuotient s) where
  abbrev T : ℕ
  T = length s.translations

  abbrev R : ℕ
  R = length s.parent.ops

  pub below_order : (r t : ℕ) → r < R → t < T → r * T + t < order_of s
  below_order r t l m = row_below R T r t l m

  -- a block of one rotation is inside
  pub block-end : (r : ℕ) → r < R → r * T + T ≤ order_of s
  block-end r l = row_end R T r l

  pub some_translation : 0 < T
  some_translation = (zero-first s.parent.lattice s.d s.translations h.supercell.positive h.translations).0

  pub some_rotation : 0 < R
  some_rotation = h.parent.list.some

  pub translation_of_order : (t : ℕ) → t < T → t < order_of s
  translation_of_order t l = let e : 0 * T + t ≡ t = omega arith in let k = below_order 0 t some_rotation l in omega (arith, k, e)

  -- element r T + t is translation t times listed operation r
  pub factored : (r t : ℕ) → r < R → t < T → (quotient_group s).product t (r * T) ≡ r * T + t
  factored r t lr lt =
      let law = elements-factored s h in
      sym (law.factors r t lr lt ∙ (λ i. (quotient_group s).product (law.translations t lt i) (law.operations r lr i)))

  -- the rotation of a translation
  still : (t : ℕ) → t < T → (op_at s.parent.ops (t / T)).rot ≡ (op_at s.parent.ops 0).rot
  still t l = let e : 0 * T + t ≡ t = omega arith in ap (λ r. (op_at s.parent.ops r).rot) (ap (λ k. k / T) (sym e) ∙ div-mul-add 0 T t l)

  moved : (t : ℕ) (g : Seitz ℤ) → t < T → (seitz_product whole (element_of s t) g).rot ≡ g.rot
  moved t g l =
      ap (λ x. (seitz_product whole x g).rot) (element-parts s h t)
      ∙ (λ i. (seitz_product whole (record { rot = (still t l ∙ ap (λ (x : Seitz ℤ). x.rot) h.parent.list.identity) i; shift = (element_of s t).shift }) g).rot)
      ∙ unit-matrix_times whole whole_ring g.rot

  -- a translation times an element is one of its rotation
  pub translation-below : (t q : ℕ) → t < T → q < order_of s → (quotient_group s).product t q < (q / T) * T + T
  unfolding number_of
  translation-below t q lt lq =
      let g = seitz_product whole (element_of s t) (element_of s q) in
      let r : ℕ = q / T in
      let lr : r < R = (places-below s h q lq).0 in
      let place = rotation-at s h r lr g (moved t (element_of s q) lt ∙ ap (λ (x : Seitz ℤ). x.rot) (element-parts s h q)) in
      let m = product-member s h (element_of s t) (element_of s q) (element-member s h t (translation_of_order t lt)) (element-member s h q lq) in
      let rest = (rest-is s h g m).0 in
      let e = ap (λ k. k * T) place in
      omega (arith, rest, e)

  -- elements of the rotations before r stay there
  pub block-below : (r t k : ℕ) → r ≤ R → t < T → k < r * T → (quotient_group s).product t k < r * T
  block-below r t k lr lt lk =
      let bound : r * T ≤ R * T = bounded r R T lr in
      let lq : k < order_of s = omega (arith, lk, bound) in
      let q : k / T < r = div_below k T r some_translation lk in
      let l = translation-below t k lt lq in
      let m : (k / T) * T + T ≤ r * T = row_end r T (k / T) q in
      omega (arith, l, m)
    where
      bounded : (a b c : ℕ) → a ≤ b → a * c ≤ b * c
      bounded a b c l =
          let x : c * a ≤ c * b = mul-le-mul_left c l in
          let y : c * a ≡ a * c = mul_comm c a in
          let z : c * b ≡ b * c = mul_comm c b in
          omega (arith, x, y, z)
