-- Laws of elements of a quotient by their rotation and translation.
--
-- element-rotation: the rotation of element q = r T + t is rotation r
-- element-same: element q is {E|t} after operation r, modulo the supercell
-- element-identity: element 0 is the identity
-- element-factors: q is the number of {E|t} times that of operation r
-- number-translation, number-operation: the numbers of {E|t} and of operation r
-- elements-factored, numbers-multiplied: these in one
use Rattle.std.proofs.Common.{◌≡◌, sym, ap, ◌∙◌, subst, ℕ, ◌<◌, ◌+◌, ◌*◌, ◌/◌, ◌%◌, ℤ, length, arith}
use Rattle.std.proofs.lemmas.Int.{ints}
use Rattle.std.proofs.lemmas.Nat.{div-mul-add, mod-mul-add}
use Rattle.algebra.specs.Whole.{whole}
use Rattle.algebra.specs.WholeLaws.{whole_ring}
use Rattle.space_ops.specs.Matrix.{Vector, image_under, vector_sum, zero_vector, unit_matrix}
use Rattle.space_ops.specs.MatrixLaws.{same_vector, unit-matrix_times}
use Rattle.space_ops.specs.Seitz.{Seitz, seitz_product, seitz_identity}
use Rattle.space_ops.specs.OpLaws.{same_seitz, seitz_product-identity, identity-seitz_product}
use Rattle.space_ops.specs.Words.{op_at, vector_difference}
use Rattle.space_ops.specs.WordLaws.{translation, word-lattice, word-identity}
use Rattle.space_ops.specs.Member.{rotation_of}
use Rattle.super_group.specs.Supercell.{IsCell, IsInside, IsSameElement, reduced}
use Rattle.super_group.specs.SupercellLaws.{reduced-cell, inside-unique}
use Rattle.super_group.specs.Quotient.{SupercellGroup, IsQuotient, IsMember, translation_at, order_of, element_of, number_of, quotient_group}
use Rattle.super_group.specs.PlaceLaws.{zero-first}
use Rattle.super_group.specs.QuotientLaws.{row_below, rotation-at, element-parts, element-inside, places-below, number-element, number-same, number-product, number-inverse, number-identity, element-number}
use Rattle.super_group.specs.Elements.{translation_element, AreFactored, AreNumbersMultiplied}

-- v + t, as t after {E|v} adds them
turned : (v t : Vector ℤ) → vector_sum whole t v ≡ vector_sum whole v (image_under whole (unit_matrix whole) t)
turned v t = same_vector _ _ (omega (arith, ints)) (omega (arith, ints)) (omega (arith, ints))

module _ (s : SupercellGroup) (h : IsQuotient s) where
  abbrev T : ℕ
  T = length s.translations

  abbrev product : ℕ → ℕ → ℕ
  product = (quotient_group s).product

  abbrev number : Seitz ℤ → ℕ
  number = number_of s

  abbrev operation : ℕ → Seitz ℤ
  operation r = op_at s.parent.ops r

  pub element-rotation : (q : ℕ) → q < order_of s → rotation_of s.parent (element_of s q) ≡ q / T
  element-rotation q l = rotation-at s h (q / T) (places-below s h q l).0 (element_of s q) (ap (λ (g : Seitz ℤ). g.rot) (element-parts s h q))

  pub element-same : (q : ℕ) → IsSameElement s.d (element_of s q) (seitz_product whole (translation_element s (q % T)) (operation (q / T)))
  element-same q =
      let r = operation (q / T) in
      let v = translation_at s.translations (q % T) in
      let y = vector_sum whole r.shift v in
      subst (λ (g : Seitz ℤ). IsSameElement s.d g (seitz_product whole (translation v) r)) (sym (element-parts s h q))
      (record {
        rotation = sym (unit-matrix_times whole whole_ring r.rot);
        translation = subst (λ (w : Vector ℤ). IsCell s.d (vector_difference (reduced s.d y) w)) (turned v r.shift) (reduced-cell s.d h.supercell.positive y);
      })

  first-translation : (0 < T) × (translation_at s.translations 0 ≡ zero_vector whole)
  first-translation = zero-first s.parent.lattice s.d s.translations h.supercell.positive h.translations

  -- the same modulo the supercell, and both inside it
  pub element-identity : element_of s 0 ≡ seitz_identity whole
  element-identity =
      let one = seitz_identity whole in
      let same : IsSameElement s.d (element_of s 0) one =
      subst (λ n. IsSameElement s.d (element_of s n) one) (number-identity s h) (element-number s h one (word-identity s.parent.generators s.parent.lattice)) in
      same_seitz (element_of s 0) one same.rotation
      (inside-unique s.d (element_of s 0).shift (zero_vector whole) (element-inside s h 0)
      (subst (IsInside s.d) first-translation.1 (h.translations.inside 0 first-translation.0)) same.translation)

  translation-member : (t : ℕ) → t < T → IsMember s (translation_element s t)
  translation-member t l = word-lattice s.parent.generators s.parent.lattice (translation_at s.translations t) (h.translations.in_lattice t l)

  -- the number of {E|t} after operation r
  number-at : (r t : ℕ) → r < length s.parent.ops → t < T → number (seitz_product whole (translation_element s t) (operation r)) ≡ r * T + t
  number-at r t l m =
      let q = r * T + t in
      let same : IsSameElement s.d (element_of s q) (seitz_product whole (translation_element s t) (operation r)) =
      subst (λ n. IsSameElement s.d (element_of s q) (seitz_product whole (translation_element s t) (operation n))) (div-mul-add r T t m)
      (subst (λ n. IsSameElement s.d (element_of s q) (seitz_product whole (translation_element s n) (operation (q / T)))) (mod-mul-add r T t m) (element-same q)) in
      sym (number-same s h (element_of s q) (seitz_product whole (translation_element s t) (operation r)) same)
      ∙ number-element s h q (row_below (length s.parent.ops) T r t l m)

  pub element-factors : (r t : ℕ) → r < length s.parent.ops → t < T → r * T + t ≡ product (number (translation_element s t)) (number (operation r))
  element-factors r t l m = sym (number-at r t l m) ∙ sym (number-product s h (translation_element s t) (operation r) (translation-member t m) (h.parent.list.are_words r l))

  pub number-translation : (t : ℕ) → t < T → number (translation_element s t) ≡ t
  number-translation t m =
      let g = translation_element s t in
      ap number (sym (seitz_product-identity g) ∙ ap (seitz_product whole g) (sym h.parent.list.identity)) ∙ number-at 0 t h.parent.list.some m ∙ omega arith

  pub number-operation : (r : ℕ) → r < length s.parent.ops → number (operation r) ≡ r * T
  number-operation r l =
      let g = operation r in
      ap number (sym (identity-seitz_product g) ∙ ap (λ (v : Vector ℤ). seitz_product whole (translation v) g) (sym first-translation.1))
      ∙ number-at r 0 l first-translation.0 ∙ omega arith

  pub elements-factored : AreFactored s
  elements-factored = record {
    identity = element-identity;
    each = λ q l. record { rotation = element-rotation q l; same = element-same q };
    factors = element-factors;
    translations = number-translation;
    operations = number-operation;
  }

  pub numbers-multiplied : AreNumbersMultiplied s
  numbers-multiplied = record {
    identity = number-identity s h;
    product = λ g k m n. sym (number-product s h g k m n);
    inverse = λ g m. sym (number-inverse s h g m);
  }
