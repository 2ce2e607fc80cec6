-- Laws of phases.
--
-- phase_of-below: a phase is below 24
-- phase_of-is: 6 times the phase and k.t in twelfths are together a multiple of 144
-- phase_of-unique: no other number below 24 is
-- phase_of-sum: the phase of a sum is the sum of the phases modulo 24
-- phase_of-equal: equal where k.t differs by a whole number
-- phase_of-zero, phase_of-minus: the phase of 0 is 0, that of -t the opposite of that of t
-- phase_of-image: the phase of t under an arm k R^-1 is that of R^-1 t under k
use Rattle.std.proofs.Common.{◌≡◌, refl, sym, ap, ◌∙◌, subst, ℕ, zero, suc, ◌<◌, ◌+◌, ◌-◌, ◌*◌, ◌%◌, ◌/◌, ℤ, pos, negsuc, ◌+ℤ◌, ◌*ℤ◌, neg_ℤ, arith}
use Rattle.std.proofs.lemmas.Int.{ints}
use Rattle.algebra.specs.Whole.{whole}
use Rattle.algebra.specs.WholeLaws.{whole_ring}
use Rattle.algebra.specs.Solve.{exps}
use Rattle.algebra.specs.SolveLaws.{solve}
use Rattle.space_ops.specs.Matrix.{Vector, image_under, vector_sum, minus_vector, zero_vector, unit_matrix}
use Rattle.space_ops.specs.MatrixLaws.{same_vector}
use Rattle.space_ops.specs.Seitz.{inverse_matrix}
use Rattle.space_ops.specs.Words.{op_at}
use Rattle.space_ops.specs.Group.{Parent}
use Rattle.algebra.specs.MultipleLaws.{multiple_minus}
use Rattle.algebra.specs.Multiples.{IsMultiple}
use Rattle.kstar.specs.WaveVector.{row_value, HasPhase, turn_of, phase_of}
use Rattle.kstar.specs.WaveVectorLaws.{row_value-sum, row_value-product}
use Rattle.kstar.specs.Star.{image_at}
use Rattle.kstar.specs.RowExpressions.{vk, vt, env, value_exp}

turn_below : (x : ℤ) → turn_of x < 24
turn_below (pos zero) = omega arith
turn_below (pos (suc n)) = omega arith
turn_below (negsuc n) = omega arith

turn_is : (x q : ℤ) → x ≡ pos 6 *ℤ q → IsMultiple 144 (pos (6 * turn_of x) +ℤ x)
turn_is (pos zero) q e = record { quotient = pos 0; is = omega (arith, ints) }
turn_is (pos (suc n)) (pos q) e = record { quotient = pos (n / 144 + 1); is = omega (arith, ints, e) }
turn_is (pos (suc n)) (negsuc q) e = absurd (omega (arith, ints, e))
turn_is (negsuc n) (pos q) e = absurd (omega (arith, ints, e))
turn_is (negsuc n) (negsuc q) e = record { quotient = neg_ℤ (pos (suc n / 144)); is = omega (arith, ints, e) }

pub phase_of-below : (k t : Vector ℤ) → phase_of k t < 24
unfolding phase_of
phase_of-below k t = turn_below (row_value k t)

pub phase_of-is : (k t : Vector ℤ) → HasPhase k t → IsMultiple 144 (pos (6 * phase_of k t) +ℤ row_value k t)
unfolding phase_of
phase_of-is k t h = turn_is (row_value k t) h.quotient h.is

unique : (p q : ℕ) (x y a b : ℤ) → p < 24 → q < 24 → x ≡ y +ℤ pos 144 *ℤ b → (m n : ℤ) → pos (6 * p) +ℤ x ≡ pos 144 *ℤ m → pos (6 * q) +ℤ y ≡ pos 144 *ℤ n → p ≡ q
unique p q x y a b l k d m n e f = omega (arith, ints, l, k, d, e, f)

-- one phase below 24
pub phase_of-unique : (k t : Vector ℤ) (p : ℕ) → HasPhase k t → p < 24 → IsMultiple 144 (pos (6 * p) +ℤ row_value k t) → p ≡ phase_of k t
phase_of-unique k t p h l m =
    let x = row_value k t in
    let n = phase_of-is k t h in
    unique p (phase_of k t) x x (pos 0) (pos 0) l (phase_of-below k t) (nothing_more x) m.quotient n.quotient m.is n.is
  where
    nothing_more : (x : ℤ) → x ≡ x +ℤ pos 144 *ℤ pos 0
    nothing_more x = omega (arith, ints)

-- equal where k.t differs by a whole number
pub phase_of-equal : (k l s t : Vector ℤ) → HasPhase k s → HasPhase l t → IsMultiple 144 (row_value k s +ℤ neg_ℤ (row_value l t)) → phase_of k s ≡ phase_of l t
phase_of-equal k l s t h g d =
    let m = phase_of-is k s h in
    let n = phase_of-is l t g in
    unique (phase_of k s) (phase_of l t) (row_value k s) (row_value l t) (pos 0) d.quotient (phase_of-below k s) (phase_of-below l t)
    (moved (row_value k s) (row_value l t) d.quotient d.is) m.quotient n.quotient m.is n.is
  where
    moved : (x y q : ℤ) → x +ℤ neg_ℤ y ≡ pos 144 *ℤ q → x ≡ y +ℤ pos 144 *ℤ q
    moved x y q e = omega (arith, ints, e)

summed : (p q r : ℕ) (x y z m n o : ℤ) → r < 24 → z ≡ x +ℤ y → pos (6 * p) +ℤ x ≡ pos 144 *ℤ m → pos (6 * q) +ℤ y ≡ pos 144 *ℤ n → pos (6 * r) +ℤ z ≡ pos 144 *ℤ o
    → r ≡ (p + q) % 24
summed p q r x y z m n o l s e f g = omega (arith, ints, l, s, e, f, g)

multiple_of_sum : (x y z a b : ℤ) → z ≡ x +ℤ y → x ≡ pos 6 *ℤ a → y ≡ pos 6 *ℤ b → z ≡ pos 6 *ℤ (a +ℤ b)
multiple_of_sum x y z a b s e f = omega (arith, ints, s, e, f)

-- additive modulo 24
pub phase_of-sum : (k s t : Vector ℤ) → HasPhase k s → HasPhase k t → phase_of k (vector_sum whole s t) ≡ (phase_of k s + phase_of k t) % 24
phase_of-sum k s t h g =
    let z = row_value k (vector_sum whole s t) in
    let e = row_value-sum k s t in
    let both : HasPhase k (vector_sum whole s t) =
    record { quotient = h.quotient +ℤ g.quotient; is = multiple_of_sum (row_value k s) (row_value k t) z h.quotient g.quotient e h.is g.is } in
    let m = phase_of-is k s h in
    let n = phase_of-is k t g in
    let o = phase_of-is k (vector_sum whole s t) both in
    summed (phase_of k s) (phase_of k t) (phase_of k (vector_sum whole s t)) (row_value k s) (row_value k t) z m.quotient n.quotient o.quotient
    (phase_of-below k (vector_sum whole s t)) e m.is n.is o.is

row_value-zero : (k : Vector ℤ) → row_value k (zero_vector whole) ≡ pos 0
row_value-zero k = let e = unit_matrix whole in solve whole whole_ring (env k k k k e e) (value_exp vk (zero_vector exps)) (exps.num 0) refl

row_value-minus : (k t : Vector ℤ) → row_value k (minus_vector whole t) ≡ neg_ℤ (row_value k t)
row_value-minus k t = let e = unit_matrix whole in solve whole whole_ring (env k k k t e e) (value_exp vk (minus_vector exps vt)) (exps.neg (value_exp vk vt)) refl

pub phase_of-zero : (k : Vector ℤ) → phase_of k (zero_vector whole) ≡ 0
unfolding phase_of
phase_of-zero k = ap turn_of (row_value-zero k)

phase-minus : (k t : Vector ℤ) → HasPhase k t → HasPhase k (minus_vector whole t)
phase-minus k t h = subst (IsMultiple 6) (sym (row_value-minus k t)) (multiple_minus 6 (row_value k t) h)

opposite : (p q : ℕ) → p < 24 → q < 24 → 0 ≡ (p + q) % 24 → q ≡ (24 - p) % 24
opposite p q l m e = omega (arith, l, m, e)

pub phase_of-minus : (k t : Vector ℤ) → HasPhase k t → phase_of k (minus_vector whole t) ≡ (24 - phase_of k t) % 24
phase_of-minus k t h =
    opposite (phase_of k t) (phase_of k (minus_vector whole t)) (phase_of-below k t) (phase_of-below k (minus_vector whole t))
    (sym (phase_of-zero k) ∙ ap (phase_of k) (nothing t) ∙ phase_of-sum k t (minus_vector whole t) h (phase-minus k t h))
  where
    nothing : (t : Vector ℤ) → zero_vector whole ≡ vector_sum whole t (minus_vector whole t)
    nothing t = same_vector _ _ (omega (arith, ints)) (omega (arith, ints)) (omega (arith, ints))

-- the phase under an arm, with every lattice translation
pub phase_of-image : (p : Parent) (k t : Vector ℤ) (r : ℕ) → phase_of (image_at p k r) t ≡ phase_of k (image_under whole (inverse_matrix whole (op_at p.ops r).rot) t)
unfolding phase_of
phase_of-image p k t r = ap turn_of (row_value-product k (inverse_matrix whole (op_at p.ops r).rot) t)
