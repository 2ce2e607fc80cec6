-- Common divisors, and factors that cancel.
--
-- divisor_by: two numbers have a greatest common divisor
-- of_multiples: what divides two multiples c a and c b of coprime numbers divides c
-- of_factor: what divides a product and is coprime to one factor divides the other
-- divides: where a y = x b, and a and b are coprime, b divides y
-- cancelled, times_cancelled: equal multiples of natural and of whole numbers
use Rattle.std.proofs.Common.{◌≡◌, ℕ, zero, suc, ℤ, pos, negsuc, neg_ℤ, ◌+◌, ◌*◌, ◌/◌, ◌%◌, ◌<◌, refl, sym, ◌∙◌, ap, subst, arith}
use Prim.Native.Nat.{◌∣◌}
use Rattle.std.specs.Int.{IsGcd}
use Rattle.std.proofs.lemmas.Nat.Gcd.{IsGcd-from_zero, IsGcd-from_mod, dvd_trans}
use Rattle.std.proofs.Math.IntN.{◌*ℤ◌, pos-*ℤ-pos, negsuc-*ℤ-pos, neg_ℤ-neg_ℤ}
use Rattle.std.proofs.Math.Nat.{dvd-mul_left, dvd-mul_right, mul-div_cancel, mul-div_cancel', mul-dvd-mul_left, dvd_of_mul-dvd-mul_left, mul_comm, mul-one, suc-mul}

-- there is a greatest common divisor, by Euclid's steps
pub divisor_by : (k a b : ℕ) → b < k → (g : ℕ) × IsGcd a b g
divisor_by zero a b steps = absurd (omega arith)
divisor_by (suc k) a zero steps = (a, IsGcd-from_zero a 0 refl)
divisor_by (suc k) a (suc b) steps =
    let more = divisor_by k (suc b) (a % suc b) (omega arith) in
    (more.0, IsGcd-from_mod a (suc b) more.0 more.1)

-- common divisors of multiples of coprime numbers
pub of_multiples : (c a b e : ℕ) → 0 < c → IsGcd a b 1 → e ∣ c * a → e ∣ c * b → e ∣ c
of_multiples c a b e some coprime over_a over_b =
    let g = divisor_by (suc (c * b)) (c * a) (c * b) (omega arith) in
    let m = g.0 / c in
    let whole : c * m ≡ g.0 = mul-div_cancel' c (g.1.2 c (dvd-mul_right c a) (dvd-mul_right c b)) in
    let of_a : m ∣ a = dvd_of_mul-dvd-mul_left m some (subst (λ t. t ∣ c * a) (sym whole) g.1.0) in
    let of_b : m ∣ b = dvd_of_mul-dvd-mul_left m some (subst (λ t. t ∣ c * b) (sym whole) g.1.1) in
    let up : c * m ∣ c * 1 = mul-dvd-mul_left m c (coprime.2 m of_a of_b) in
    dvd_trans e (g.1.2 e over_a over_b) (subst (λ t. t ∣ c) whole (subst (λ t. c * m ∣ t) (mul-one c) up))

-- a divisor of a product that is coprime to one factor divides the other
pub of_factor : (m n k : ℕ) → 0 < k → IsGcd n m 1 → m ∣ k * n → m ∣ k
of_factor m n k some coprime over = of_multiples k n m m some coprime over (dvd-mul_left m k)

pub cancelled : (a b d : ℕ) → 0 < d → a * d ≡ b * d → a ≡ b
cancelled a b d some e = sym (mul-div_cancel a some) ∙ ap (λ t. t / d) e ∙ mul-div_cancel b some

pub divides : (a b x y : ℕ) → 0 < y → IsGcd a b 1 → a * y ≡ x * b → b ∣ y
divides a b x y some coprime e = of_factor b a y some coprime (subst (λ t. b ∣ t) (sym e ∙ mul_comm a y) (dvd-mul_left b x))

pos_is : (a b : ℕ) → pos a ≡ pos b → a ≡ b
pos_is a b e = cc

-- signs are opposite only at nothing
apart : {A : Type 0} (m n : ℕ) → pos m ≡ neg_ℤ (pos (suc n)) → A
apart m n e = absurd (cc)

product_suc : (n d : ℕ) → 0 < d → (k : ℕ) × (suc n * d ≡ suc k)
product_suc n zero some = absurd (omega arith)
product_suc n (suc d) some = (n * suc d + d, omega (arith, suc-mul n (suc d)))

pub times_cancelled : (x y : ℤ) (d : ℕ) → 0 < d → x *ℤ pos d ≡ y *ℤ pos d → x ≡ y
times_cancelled (pos m) (pos n) d some e = ap (λ t. pos t) (cancelled m n d some (pos_is (m * d) (n * d) (sym (pos-*ℤ-pos m d) ∙ e ∙ pos-*ℤ-pos n d)))
times_cancelled (negsuc m) (negsuc n) d some e =
    let minus : neg_ℤ (pos (suc m * d)) ≡ neg_ℤ (pos (suc n * d)) = sym (negsuc-*ℤ-pos m d) ∙ e ∙ negsuc-*ℤ-pos n d in
    let same : suc m ≡ suc n = cancelled (suc m) (suc n) d some (pos_is (suc m * d) (suc n * d) (sym (neg_ℤ-neg_ℤ (pos (suc m * d))) ∙ ap (λ t. neg_ℤ t) minus ∙ neg_ℤ-neg_ℤ (pos (suc n * d)))) in
    ap (λ t. negsuc t) (omega arith)
times_cancelled (pos m) (negsuc n) d some e =
    let k = product_suc n d some in
    apart (m * d) k.0 (sym (pos-*ℤ-pos m d) ∙ e ∙ negsuc-*ℤ-pos n d ∙ ap (λ t. neg_ℤ (pos t)) k.1)
times_cancelled (negsuc m) (pos n) d some e =
    let k = product_suc m d some in
    apart (n * d) k.0 (sym (pos-*ℤ-pos n d) ∙ sym e ∙ negsuc-*ℤ-pos m d ∙ ap (λ t. neg_ℤ (pos t)) k.1)
