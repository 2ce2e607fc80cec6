-- Whole combinations of the columns of a matrix, by Cramer's rule.
use Rattle.std.proofs.Common.{◌≡◌, refl, sym, ap, ◌∙◌, ℕ, zero, suc, ◌*◌, ℤ, pos, negsuc, neg_ℤ, ◌+ℤ◌, ◌*ℤ◌, unsigned_abs, [], ◌∷◌, arith}
use Rattle.std.proofs.lemmas.Int.{ints, unsigned_abs-mul}
use Rattle.algebra.specs.Multiples.{IsMultiple}
use Rattle.algebra.specs.MultipleLaws.{no_size}
use Rattle.algebra.specs.Solve.{Exp, V, exps, at}
use Rattle.algebra.specs.SolveLaws.{solve}
use Rattle.algebra.specs.Whole.{whole}
use Rattle.algebra.specs.WholeLaws.{whole_ring}
use Rattle.space_ops.specs.Matrix.{Matrix, Vector, image_under, determinant, adjugate}
use Rattle.space_ops.specs.MatrixLaws.{same_vector}

-- a factor other than 0 cancels
cancel_factor : (d a b : ℤ) → (d ≡ pos 0 → ⊥) → d *ℤ a ≡ d *ℤ b → a ≡ b
cancel_factor d a b n e =
    same_difference a b
    (no_size (a +ℤ neg_ℤ b)
    (no_product (unsigned_abs d) (unsigned_abs (a +ℤ neg_ℤ b)) (λ z. n (no_size d z)) (sym (unsigned_abs-mul d (a +ℤ neg_ℤ b)) ∙ ap unsigned_abs (less d a b ∙ nothing (d *ℤ a) (d *ℤ b) e))))
  where
    less : (d a b : ℤ) → d *ℤ (a +ℤ neg_ℤ b) ≡ d *ℤ a +ℤ neg_ℤ (d *ℤ b)
    less d a b = solve whole whole_ring (at (pos 0) (d ∷ a ∷ b ∷ [])) (exps.mul (V 0) (exps.add (V 1) (exps.neg (V 2)))) (exps.add (exps.mul (V 0) (V 1)) (exps.neg (exps.mul (V 0) (V 2)))) refl

    nothing : (x y : ℤ) → x ≡ y → x +ℤ neg_ℤ y ≡ pos 0
    nothing x y e = omega (arith, ints, e)

    same_difference : (a b : ℤ) → a +ℤ neg_ℤ b ≡ pos 0 → a ≡ b
    same_difference a b e = omega (arith, ints, e)

    no_product : (m k : ℕ) → (m ≡ 0 → ⊥) → m * k ≡ 0 → k ≡ 0
    no_product zero k n e = absurd (n refl)
    no_product (suc m) zero n e = refl
    no_product (suc m) (suc k) n e = absurd (omega (arith, e))

-- multiples of a number are those of its absolute value
multiple_of_size : (d x : ℤ) → IsMultiple (unsigned_abs d) x → (u : ℤ) × (x ≡ d *ℤ u)
multiple_of_size (pos n) x h = (h.quotient, h.is)
multiple_of_size (negsuc n) x h = (neg_ℤ h.quotient, h.is ∙ opposite (pos (suc n)) h.quotient)
  where
    opposite : (d u : ℤ) → d *ℤ u ≡ neg_ℤ d *ℤ neg_ℤ u
    opposite d u = solve whole whole_ring (at (pos 0) (d ∷ u ∷ [])) (exps.mul (V 0) (V 1)) (exps.mul (exps.neg (V 0)) (exps.neg (V 1))) refl

size_of_multiple : (d x u : ℤ) → x ≡ d *ℤ u → IsMultiple (unsigned_abs d) x
size_of_multiple (pos n) x u e = record { quotient = u; is = e }
size_of_multiple (negsuc n) x u e = record { quotient = neg_ℤ u; is = e ∙ opposite (pos (suc n)) u }
  where
    opposite : (d u : ℤ) → neg_ℤ d *ℤ u ≡ d *ℤ neg_ℤ u
    opposite d u = solve whole whole_ring (at (pos 0) (d ∷ u ∷ [])) (exps.mul (exps.neg (V 0)) (V 1)) (exps.mul (V 0) (exps.neg (V 1))) refl

module _ (a : Matrix ℤ) where
  abbrev values : Vector ℤ → ℕ → ℤ
  values v = at (pos 0) (a.r00 ∷ a.r01 ∷ a.r02 ∷ a.r10 ∷ a.r11 ∷ a.r12 ∷ a.r20 ∷ a.r21 ∷ a.r22 ∷ v.x ∷ v.y ∷ v.z ∷ [])

  -- a times its adjugate, and its adjugate times a, is the determinant
  abbrev letters : Matrix Exp
  letters = record { r00 = V 0; r01 = V 1; r02 = V 2; r10 = V 3; r11 = V 4; r12 = V 5; r20 = V 6; r21 = V 7; r22 = V 8 }

  abbrev column : Vector Exp
  column = record { x = V 9; y = V 10; z = V 11 }

  back_x : (v : Vector ℤ) → (image_under whole (adjugate whole a) (image_under whole a v)).x ≡ determinant whole a *ℤ v.x
  back_x v = solve whole whole_ring (values v) (image_under exps (adjugate exps letters) (image_under exps letters column)).x (exps.mul (determinant exps letters) (V 9)) refl

  back_y : (v : Vector ℤ) → (image_under whole (adjugate whole a) (image_under whole a v)).y ≡ determinant whole a *ℤ v.y
  back_y v = solve whole whole_ring (values v) (image_under exps (adjugate exps letters) (image_under exps letters column)).y (exps.mul (determinant exps letters) (V 10)) refl

  back_z : (v : Vector ℤ) → (image_under whole (adjugate whole a) (image_under whole a v)).z ≡ determinant whole a *ℤ v.z
  back_z v = solve whole whole_ring (values v) (image_under exps (adjugate exps letters) (image_under exps letters column)).z (exps.mul (determinant exps letters) (V 11)) refl

  forth_x : (v : Vector ℤ) → (image_under whole a (image_under whole (adjugate whole a) v)).x ≡ determinant whole a *ℤ v.x
  forth_x v = solve whole whole_ring (values v) (image_under exps letters (image_under exps (adjugate exps letters) column)).x (exps.mul (determinant exps letters) (V 9)) refl

  forth_y : (v : Vector ℤ) → (image_under whole a (image_under whole (adjugate whole a) v)).y ≡ determinant whole a *ℤ v.y
  forth_y v = solve whole whole_ring (values v) (image_under exps letters (image_under exps (adjugate exps letters) column)).y (exps.mul (determinant exps letters) (V 10)) refl

  forth_z : (v : Vector ℤ) → (image_under whole a (image_under whole (adjugate whole a) v)).z ≡ determinant whole a *ℤ v.z
  forth_z v = solve whole whole_ring (values v) (image_under exps letters (image_under exps (adjugate exps letters) column)).z (exps.mul (determinant exps letters) (V 11)) refl

  -- a row of a multiple
  row_of_multiple : (p q r d x y z : ℤ) → (p *ℤ (d *ℤ x) +ℤ q *ℤ (d *ℤ y)) +ℤ r *ℤ (d *ℤ z) ≡ d *ℤ ((p *ℤ x +ℤ q *ℤ y) +ℤ r *ℤ z)
  row_of_multiple p q r d x y z =
      solve whole whole_ring (at (pos 0) (p ∷ q ∷ r ∷ d ∷ x ∷ y ∷ z ∷ []))
      (exps.add (exps.add (exps.mul (V 0) (exps.mul (V 3) (V 4))) (exps.mul (V 1) (exps.mul (V 3) (V 5)))) (exps.mul (V 2) (exps.mul (V 3) (V 6))))
      (exps.mul (V 3) (exps.add (exps.add (exps.mul (V 0) (V 4)) (exps.mul (V 1) (V 5))) (exps.mul (V 2) (V 6)))) refl

  abbrev d : ℤ
  d = determinant whole a

  -- a whole combination has multiples of the determinant under the adjugate
  pub combination_multiple : (t u : Vector ℤ) → t ≡ image_under whole a u
      → IsMultiple (unsigned_abs d) (image_under whole (adjugate whole a) t).x × IsMultiple (unsigned_abs d) (image_under whole (adjugate whole a) t).y × IsMultiple (unsigned_abs d) (image_under whole (adjugate whole a) t).z
  combination_multiple t u e = (
    size_of_multiple d _ u.x (ap (λ (v : Vector ℤ). (image_under whole (adjugate whole a) v).x) e ∙ back_x u),
    size_of_multiple d _ u.y (ap (λ (v : Vector ℤ). (image_under whole (adjugate whole a) v).y) e ∙ back_y u),
    size_of_multiple d _ u.z (ap (λ (v : Vector ℤ). (image_under whole (adjugate whole a) v).z) e ∙ back_z u),
  )

  -- and the other way round
  pub multiple_combination : (d ≡ pos 0 → ⊥) → (t : Vector ℤ)
      → IsMultiple (unsigned_abs d) (image_under whole (adjugate whole a) t).x × IsMultiple (unsigned_abs d) (image_under whole (adjugate whole a) t).y × IsMultiple (unsigned_abs d) (image_under whole (adjugate whole a) t).z
      → (u : Vector ℤ) × (t ≡ image_under whole a u)
  multiple_combination n t h =
      let p = multiple_of_size d _ h.0 in
      let q = multiple_of_size d _ h.1 in
      let r = multiple_of_size d _ h.2 in
      let u : Vector ℤ = record { x = p.0; y = q.0; z = r.0 } in
      let w = image_under whole (adjugate whole a) t in
      let along : (row0 row1 row2 c : ℤ) → (row0 *ℤ w.x +ℤ row1 *ℤ w.y) +ℤ row2 *ℤ w.z ≡ d *ℤ c → c ≡ (row0 *ℤ u.x +ℤ row1 *ℤ u.y) +ℤ row2 *ℤ u.z =
      λ row0 row1 row2 c e.
      cancel_factor d c ((row0 *ℤ u.x +ℤ row1 *ℤ u.y) +ℤ row2 *ℤ u.z) n
      (sym e ∙ (λ i. (row0 *ℤ p.1 i +ℤ row1 *ℤ q.1 i) +ℤ row2 *ℤ r.1 i) ∙ row_of_multiple row0 row1 row2 d u.x u.y u.z) in
      (u, same_vector t (image_under whole a u) (along a.r00 a.r01 a.r02 t.x (forth_x t)) (along a.r10 a.r11 a.r12 t.y (forth_y t)) (along a.r20 a.r21 a.r22 t.z (forth_z t)))
