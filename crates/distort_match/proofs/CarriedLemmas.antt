-- Places carried by rows in twelfths.
use Rattle.std.proofs.Common.{◌≡◌, sym, ap, ◌∙◌, ℤ, pos, neg_ℤ, ◌+ℤ◌, ◌*ℤ◌, arith}
use Rattle.std.proofs.lemmas.Int.{ints, quot-rem}
use Rattle.std.specs.Int.RustNames.{int_div, int_rem}
use Rattle.algebra.specs.MultipleLaws.{multiple-int_rem}
use Rattle.algebra.specs.Whole.{whole}
use Rattle.space_ops.specs.Matrix.{Matrix, Vector, image_under}
use Rattle.space_ops.specs.MatrixLaws.{same_vector}
use Rattle.distort_match.specs.FrameParts.{IsCarriedBy}

pub twelfth : (c : ℤ) → int_rem c (pos 12) ≡ pos 0 → pos 12 *ℤ int_div c (pos 12) ≡ c
twelfth c e = times (int_div c (pos 12)) c (int_rem c (pos 12)) (quot-rem c (pos 12)) e where
  times : (q c r : ℤ) → q *ℤ pos 12 +ℤ r ≡ c → r ≡ pos 0 → pos 12 *ℤ q ≡ c
  times q c r e f = omega (arith, ints, e, f)

pub no_twelfth : (c x : ℤ) → (int_rem c (pos 12) ≡ pos 0 → ⊥) → pos 12 *ℤ x ≡ c → ⊥
no_twelfth c x n e = n (multiple-int_rem x c 12 (omega arith) (turned x c e)) where
  turned : (x c : ℤ) → pos 12 *ℤ x ≡ c → x *ℤ pos 12 ≡ c
  turned x c e = omega (arith, ints, e)

module _ (rows : Matrix ℤ) (origin y x : Vector ℤ) where
  pub carried_by : pos 12 *ℤ (x.x +ℤ neg_ℤ origin.x) ≡ (image_under whole rows y).x → pos 12 *ℤ (x.y +ℤ neg_ℤ origin.y) ≡ (image_under whole rows y).y
      → pos 12 *ℤ (x.z +ℤ neg_ℤ origin.z) ≡ (image_under whole rows y).z → IsCarriedBy rows origin y x
  carried_by e f g = same_vector _ (image_under whole rows y) e f g

  pub carried_x : IsCarriedBy rows origin y x → pos 12 *ℤ (x.x +ℤ neg_ℤ origin.x) ≡ (image_under whole rows y).x
  carried_x h = ap (λ (v : Vector ℤ). v.x) h

  pub carried_y : IsCarriedBy rows origin y x → pos 12 *ℤ (x.y +ℤ neg_ℤ origin.y) ≡ (image_under whole rows y).y
  carried_y h = ap (λ (v : Vector ℤ). v.y) h

  pub carried_z : IsCarriedBy rows origin y x → pos 12 *ℤ (x.z +ℤ neg_ℤ origin.z) ≡ (image_under whole rows y).z
  carried_z h = ap (λ (v : Vector ℤ). v.z) h

-- numbers that were passed by value
module _ (o o' c c' : ℤ) (e : o ≡ o') (f : c ≡ c') where
  pub none_carried : ((x : ℤ) → pos 12 *ℤ (x +ℤ neg_ℤ o) ≡ c → ⊥) → (x : ℤ) → pos 12 *ℤ (x +ℤ neg_ℤ o') ≡ c' → ⊥
  none_carried n x h = n x ((λ i. pos 12 *ℤ (x +ℤ neg_ℤ (e i))) ∙ h ∙ sym f)

  pub carried_passed : (x x' : ℤ) → x' ≡ x → pos 12 *ℤ (x +ℤ neg_ℤ o) ≡ c → pos 12 *ℤ (x' +ℤ neg_ℤ o') ≡ c'
  carried_passed x x' g h = (λ i. pos 12 *ℤ (g i +ℤ neg_ℤ (sym e i))) ∙ h ∙ f
