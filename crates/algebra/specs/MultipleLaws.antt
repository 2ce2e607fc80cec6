-- Laws of whole multiples and of remainders, for every modulus.
--
-- multiple_zero, multiple_sum, multiple_minus, multiple_times: the multiples of a number, sums, opposites and multiples of them
-- rem-multiple, multiple-rem: x is a multiple of n exactly where its remainder is 0
-- rem-within, rem-differs: a remainder is from 0 up to but without n, and differs by a multiple
-- rem-whole: a remainder is the number and so many times n
-- within-unique: numbers from 0 up to but without n that differ by a multiple of n are equal
-- rem-unique: a number has one remainder
-- rem_again: a remainder may be taken before a number is taken from it
-- rem-common: what divides two numbers divides the remainder of one by the other
-- difference_times: (x - q) d = x d - q d
-- no_size: only 0 has the absolute value 0
-- multiple-int_rem: a multiple leaves the remainder 0
use Rattle.std.proofs.Common.{◌≡◌, refl, sym, ap, ◌∙◌, subst, ℕ, zero, suc, ◌<◌, ◌+◌, ◌-◌, ◌*◌, ◌%◌, ◌/◌, ℤ, pos, negsuc, ◌+ℤ◌, ◌*ℤ◌, neg_ℤ, unsigned_abs, [], ◌∷◌, arith}
use Rattle.std.proofs.lemmas.Int.{ints, int_rem_euclid_is, unsigned_abs-mul, quot-rem, rem_below}
use Rattle.std.proofs.Math.IntN.{pos-*ℤ-pos, pos-*ℤ-negsuc}
use Rattle.std.proofs.Math.Nat.{div-add-mod, mod-lt, mul-suc, mul_comm, mul_assoc, mul-mod_right, zero-mul, zero-mod, add-mul-mod_self_left}
use Rattle.std.specs.Int.{int_rem_euclid}
use Rattle.std.specs.Int.RustNames.{int_div, int_rem}
use Rattle.algebra.specs.Multiples.{IsMultiple, IsRemainder, IsWithinModulus}
use Rattle.algebra.specs.Solve.{V, K, exps, at}
use Rattle.algebra.specs.SolveLaws.{solve}
use Rattle.algebra.specs.Whole.{whole}
use Rattle.algebra.specs.WholeLaws.{whole_ring}

pub multiple_zero : (n : ℕ) → IsMultiple n (pos 0)
multiple_zero n = record { quotient = pos 0; is = sym (whole_ring.mul_comm (pos n) (pos 0) ∙ nothing (pos n)) } where
  nothing : (x : ℤ) → pos 0 *ℤ x ≡ pos 0
  nothing x = omega (arith, ints)

pub multiple_sum : (n : ℕ) (x y : ℤ) → IsMultiple n x → IsMultiple n y → IsMultiple n (x +ℤ y)
multiple_sum n x y h k = record {
  quotient = h.quotient +ℤ k.quotient;
  is = (λ i. h.is i +ℤ k.is i) ∙ sym (whole_ring.mul_add (pos n) h.quotient k.quotient);
}

minus_times : (a b : ℤ) → neg_ℤ (a *ℤ b) ≡ a *ℤ neg_ℤ b
minus_times a b = solve whole whole_ring (at (pos 0) (a ∷ b ∷ [])) (exps.neg (exps.mul (V 0) (V 1))) (exps.mul (V 0) (exps.neg (V 1))) refl

pub multiple_minus : (n : ℕ) (x : ℤ) → IsMultiple n x → IsMultiple n (neg_ℤ x)
multiple_minus n x h = record { quotient = neg_ℤ h.quotient; is = ap neg_ℤ h.is ∙ minus_times (pos n) h.quotient }

-- n times the quotient and the greatest remainder
whole_negative : (a n q r : ℕ) → n * q + r ≡ a → r < n → n - 1 - r ≡ 0 → suc a ≡ n * suc q
whole_negative a n q r e l f = let g : n * suc q ≡ n * q + n = mul-suc n q in omega (arith, e, l, f, g)

-- x is a multiple of n where its remainder is 0
pub rem-multiple : (n : ℕ) → 0 < n → (x : ℤ) → int_rem_euclid x (pos n) ≡ pos 0 → IsMultiple n x
rem-multiple n some (pos a) e =
    let f : a % n ≡ 0 = ap unsigned_abs e in
    let g : n * (a / n) + a % n ≡ a = div-add-mod a n in
    record { quotient = pos (a / n); is = ap pos (omega (arith, f, g)) ∙ sym (pos-*ℤ-pos n (a / n)) }
rem-multiple n some (negsuc a) e =
    let f : n - 1 - a % n ≡ 0 = ap unsigned_abs e in
    record {
      quotient = negsuc (a / n);
      is = ap (λ m. neg_ℤ (pos m)) (whole_negative a n (a / n) (a % n) (div-add-mod a n) (mod-lt a {m = n} some) f) ∙ sym (pos-*ℤ-negsuc n (a / n));
    }

pub multiple-rem : (n : ℕ) → 0 < n → (x : ℤ) → IsMultiple n x → int_rem_euclid x (pos n) ≡ pos 0
multiple-rem n some x h = ap (λ y. int_rem_euclid y (pos n)) h.is ∙ by_quotient h.quotient where
  no_more : (m : ℕ) (x : ℤ) → x ≡ pos m → x +ℤ pos (0 * n) ≡ pos m
  no_more m x e = let z : 0 * n ≡ 0 = zero-mul n in (λ i. e i +ℤ pos (z i)) ∙ ap pos (omega arith)

  cancelled : (m k : ℕ) (x : ℤ) → x ≡ neg_ℤ (pos m) → m ≡ k → x +ℤ pos k ≡ pos 0
  cancelled m k x e f = omega (arith, ints, e, f)

  by_quotient : (q : ℤ) → int_rem_euclid (pos n *ℤ q) (pos n) ≡ pos 0
  by_quotient (pos q) = int_rem_euclid_is (pos n *ℤ pos q) (pos n) n 0 (n * q) some refl (no_more (n * q) (pos n *ℤ pos q) (pos-*ℤ-pos n q)) ∙ ap pos (mul-mod_right n q)
  by_quotient (negsuc q) =
      int_rem_euclid_is (pos n *ℤ negsuc q) (pos n) n (suc q) 0 some refl (cancelled (n * suc q) (suc q * n) (pos n *ℤ negsuc q) (pos-*ℤ-negsuc n q) (mul_comm n (suc q))) ∙ ap pos (zero-mod n)

times_other : (a k u : ℤ) → a *ℤ (k *ℤ u) ≡ k *ℤ (a *ℤ u)
times_other a k u = solve whole whole_ring (at (pos 0) (a ∷ k ∷ u ∷ [])) (exps.mul (V 0) (exps.mul (V 1) (V 2))) (exps.mul (V 1) (exps.mul (V 0) (V 2))) refl

pub multiple_times : (n : ℕ) (a x : ℤ) → IsMultiple n x → IsMultiple n (a *ℤ x)
multiple_times n a x h = record { quotient = a *ℤ h.quotient; is = ap (λ y. a *ℤ y) h.is ∙ times_other a (pos n) h.quotient }

-- a remainder differs by a multiple
pub rem-differs : (n : ℕ) → 0 < n → (x : ℤ) → IsMultiple n (int_rem_euclid x (pos n) +ℤ neg_ℤ x)
rem-differs n l (pos a) =
    let k : n * (a / n) + a % n ≡ a = omega arith in
    record {
      quotient = neg_ℤ (pos (a / n));
      is = (let e : pos (a % n) +ℤ neg_ℤ (pos a) ≡ neg_ℤ (pos n *ℤ pos (a / n)) = omega (arith, ints, k) in e ∙ minus_times (pos n) (pos (a / n)));
    }
rem-differs n l (negsuc a) =
    let k : n * (a / n) + a % n ≡ a = omega arith in
    let b : a % n < n = omega arith in
    let e : n * suc (a / n) ≡ n * (a / n) + n = omega arith in
    record { quotient = pos (suc (a / n)); is = omega (arith, ints, k, b, e) }

-- and is from 0 up to but without n
pub rem-within : (n : ℕ) → 0 < n → (x : ℤ) → IsWithinModulus n (int_rem_euclid x (pos n))
rem-within n l (pos a) = let b : a % n < n = omega arith in (omega (arith, ints), omega (arith, ints))
rem-within n l (negsuc a) = let b : a % n < n = omega arith in (omega (arith, ints), omega (arith, ints))

back_difference : (r x m : ℤ) → r +ℤ neg_ℤ x ≡ m → r ≡ x +ℤ m
back_difference r x m e = omega (arith, ints, e)

-- so many times n are added
pub rem-whole : (n : ℕ) → 0 < n → (x : ℤ) → (u : ℤ) × (int_rem_euclid x (pos n) ≡ x +ℤ (pos n *ℤ u))
rem-whole n l x = let m = rem-differs n l x in (m.quotient, back_difference (int_rem_euclid x (pos n)) x (pos n *ℤ m.quotient) m.is)

no_multiple : (n : ℕ) → pos n *ℤ pos 0 ≡ pos 0
no_multiple n = solve whole whole_ring (at (pos 0) (pos n ∷ [])) (exps.mul (V 0) (K 0)) (K 0) refl

-- numbers of one period that differ by a multiple of it are equal
pub within-unique : (n : ℕ) (x y : ℤ) → IsWithinModulus n x → IsWithinModulus n y → IsMultiple n (x +ℤ neg_ℤ y) → x ≡ y
within-unique n x y h k m = by_quotient m.quotient m.is where
  by_quotient : (u : ℤ) → x +ℤ neg_ℤ y ≡ pos n *ℤ u → x ≡ y
  by_quotient (pos zero) e = omega (arith, ints, h.0, h.1, k.0, k.1, e ∙ no_multiple n)
  by_quotient (pos (suc u)) e = let f : n * suc u ≡ n * u + n = omega arith in absurd (omega (arith, ints, h.0, h.1, k.0, k.1, e, f))
  by_quotient (negsuc u) e =
      let f : n * suc u ≡ n * u + n = omega arith in
      let g : x +ℤ neg_ℤ y ≡ neg_ℤ (pos n *ℤ pos (suc u)) = e ∙ sym (minus_times (pos n) (pos (suc u))) in
      absurd (omega (arith, ints, h.0, h.1, k.0, k.1, g, f))

-- the difference of two remainders
between : (r s x : ℤ) → (r +ℤ neg_ℤ x) +ℤ neg_ℤ (s +ℤ neg_ℤ x) ≡ r +ℤ neg_ℤ s
between r s x = omega (arith, ints)

-- a number has one remainder
pub rem-unique : (n : ℕ) (x r s : ℤ) → IsRemainder n x r → IsRemainder n x s → r ≡ s
rem-unique n x r s h k =
    within-unique n r s h.within k.within
    (subst (IsMultiple n) (between r s x) (multiple_sum n (r +ℤ neg_ℤ x) (neg_ℤ (s +ℤ neg_ℤ x)) h.differs (multiple_minus n (s +ℤ neg_ℤ x) k.differs)))

again_step : (r w x y q z : ℤ) → w ≡ x +ℤ neg_ℤ y → (q +ℤ neg_ℤ w) +ℤ ((x +ℤ neg_ℤ z) +ℤ neg_ℤ (r +ℤ neg_ℤ (z +ℤ neg_ℤ y))) ≡ q +ℤ neg_ℤ r
again_step r w x y q z e = omega (arith, ints, e)

-- a remainder may be taken before a number is taken from it
pub rem_again : (n : ℕ) → 0 < n → (x y : ℤ) → int_rem_euclid (int_rem_euclid x (pos n) +ℤ neg_ℤ y) (pos n) ≡ int_rem_euclid (x +ℤ neg_ℤ y) (pos n)
rem_again n l x y =
    let w = int_rem_euclid x (pos n) +ℤ neg_ℤ y in
    let z = x +ℤ neg_ℤ y in
    let q = int_rem_euclid w (pos n) in
    let r = int_rem_euclid z (pos n) in
    let m =
    multiple_sum n (q +ℤ neg_ℤ w) ((int_rem_euclid x (pos n) +ℤ neg_ℤ x) +ℤ neg_ℤ (r +ℤ neg_ℤ z)) (rem-differs n l w)
    (multiple_sum n (int_rem_euclid x (pos n) +ℤ neg_ℤ x) (neg_ℤ (r +ℤ neg_ℤ z)) (rem-differs n l x)
    (multiple_minus n (r +ℤ neg_ℤ z) (rem-differs n l z)))
    in
    within-unique n q r (rem-within n l w) (rem-within n l z)
    (record { quotient = m.quotient; is = sym (again_step r w (int_rem_euclid x (pos n)) y q x refl) ∙ m.is })

-- what divides two numbers divides the remainder of one by the other
pub rem-common : (m d n : ℕ) → m % n ≡ 0 → d % n ≡ 0 → (m % d) % n ≡ 0
rem-common m d n h k =
    let t = d / n * (m / d) in
    let e : d ≡ n * (d / n) = omega (arith, k, div-add-mod d n) in
    let f : d * (m / d) ≡ n * t = ap (λ x. x * (m / d)) e ∙ mul_assoc n (d / n) (m / d) in
    let g : m % d + n * t ≡ m = omega (arith, f, div-add-mod m d) in
    sym (add-mul-mod_self_left (m % d) n t) ∙ ap (λ x. x % n) g ∙ h

pub difference_times : (x q d : ℤ) → (x +ℤ neg_ℤ q) *ℤ d ≡ x *ℤ d +ℤ neg_ℤ (q *ℤ d)
difference_times x q d =
    solve whole whole_ring (at (pos 0) (x ∷ q ∷ d ∷ [])) (exps.mul (exps.add (V 0) (exps.neg (V 1))) (V 2)) (exps.add (exps.mul (V 0) (V 2)) (exps.neg (exps.mul (V 1) (V 2)))) refl

pub no_size : (m : ℤ) → unsigned_abs m ≡ 0 → m ≡ pos 0
no_size (pos n) e = ap pos e
no_size (negsuc n) e = absurd (omega (arith, e))

-- a multiple of d below d is 0
below_factor : (a d m : ℕ) → m ≡ a * d → m < d → m ≡ 0
below_factor zero d m e l = omega (arith, e)
below_factor (suc a) d m e l = absurd (omega (arith, e, l))

left_over : (a b m n : ℤ) → a ≡ n → b +ℤ m ≡ n → a +ℤ neg_ℤ b ≡ m
left_over a b m n e f = omega (arith, ints, e, f)

-- the remainder with the sign of the number, of a multiple
pub multiple-int_rem : (x n : ℤ) (d : ℕ) → 0 < d → x *ℤ pos d ≡ n → int_rem n (pos d) ≡ pos 0
multiple-int_rem x n d l e =
    let q = int_div n (pos d) in
    let m = int_rem n (pos d) in
    let f : (x +ℤ neg_ℤ q) *ℤ pos d ≡ m = difference_times x q (pos d) ∙ left_over (x *ℤ pos d) (q *ℤ pos d) m n e (quot-rem n (pos d)) in
    let g : unsigned_abs m ≡ unsigned_abs (x +ℤ neg_ℤ q) * d = ap unsigned_abs (sym f) ∙ unsigned_abs-mul (x +ℤ neg_ℤ q) (pos d) in
    no_size m (below_factor (unsigned_abs (x +ℤ neg_ℤ q)) d (unsigned_abs m) g (rem_below n (pos d) l))
