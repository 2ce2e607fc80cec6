-- The inverse in the 24th cyclotomic field step by step: y is the conjugate of x, n = x y, a the real part of n, b = 1 / a, f = b written in Z24.
--
-- wide_steps: where the inverse is wide, by the steps; wide_square, wide_over, wide_factor, wide_last: by one step
-- square_step: a isn't 0; value_step: y f is the inverse
use Rattle.std.proofs.Common.{◌≡◌, refl, sym, ap, ◌∙◌, Bool, true, false}
use Rattle.std.specs.Prelude.{◌||◌, IsTrue}
use Rattle.cyclo24.specs.ExactK24.{Exact24, k24_laws, is_wide_inverse24}
use Rattle.cyclo24.specs.ExactZ24.{ExactZ24, z24_laws, conj, real_part, from_real, is_wide_conj, is_wide_product_z24, is_wide_real_part, is_wide_from_real, is_wide_inverse_z24}
use Rattle.cyclo24.specs.Z24PartsLaws.{square_apart, inverse_is}
use Rattle.cyclo24.specs.Z24Inverse.{IsSteps, steps_wide}

wide_steps : (x y n : ExactZ24) (a b : Exact24) (f : ExactZ24) → IsSteps x y n a b f → is_wide_inverse_z24 x ≡ steps_wide x y n a b f
wide_steps x y n a b f s =
    let n' = s.norm ∙ ap (z24_laws.times x) s.conjugate in
    let a' = s.square ∙ ap real_part n' in
    let b' = s.inverse ∙ ap k24_laws.inverse a' in
    let f' = s.factor ∙ ap from_real b' in
    sym (λ i. steps_wide x (s.conjugate i) (n' i) (a' i) (b' i) (f' i))

or_first : (a b : Bool) → a ≡ true → (a || b) ≡ true
or_first true b e = refl
or_first false b e = absurd (cc)

or_rest : (a b : Bool) → b ≡ true → (a || b) ≡ true
or_rest true b e = refl
or_rest false b e = e

third : (a b c d : Bool) → c ≡ true → (a || (b || (c || d))) ≡ true
third a b c d e = or_rest a (b || (c || d)) (or_rest b (c || d) (or_first c d e))

fourth : (a b c d e : Bool) → d ≡ true → (a || (b || (c || (d || e)))) ≡ true
fourth a b c d e p = or_rest a (b || (c || (d || e))) (or_rest b (c || (d || e)) (or_rest c (d || e) (or_first d e p)))

fifth : (a b c d e f : Bool) → e ≡ true → (a || (b || (c || (d || (e || f))))) ≡ true
fifth a b c d e f p = or_rest a (b || (c || (d || (e || f)))) (or_rest b (c || (d || (e || f))) (or_rest c (d || (e || f)) (or_rest d (e || f) (or_first e f p))))

-- by one step
pub wide_square : (x y n : ExactZ24) → y ≡ conj x → n ≡ z24_laws.times x y → is_wide_real_part n ≡ true → is_wide_inverse_z24 x ≡ true
wide_square x y n p q e =
    let a = real_part n in let b = k24_laws.inverse a in let f = from_real b in
    wide_steps x y n a b f (record { conjugate = p; norm = q; square = refl; inverse = refl; factor = refl })
    ∙ third (is_wide_conj x) (is_wide_product_z24 x y) (is_wide_real_part n) (is_wide_inverse24 a || (is_wide_from_real b || is_wide_product_z24 y f)) e

pub wide_over : (x y n : ExactZ24) (a : Exact24) → y ≡ conj x → n ≡ z24_laws.times x y → a ≡ real_part n → is_wide_inverse24 a ≡ true → is_wide_inverse_z24 x ≡ true
wide_over x y n a p q r e =
    let b = k24_laws.inverse a in let f = from_real b in
    wide_steps x y n a b f (record { conjugate = p; norm = q; square = r; inverse = refl; factor = refl })
    ∙ fourth (is_wide_conj x) (is_wide_product_z24 x y) (is_wide_real_part n) (is_wide_inverse24 a) (is_wide_from_real b || is_wide_product_z24 y f) e

pub wide_factor : (x y n : ExactZ24) (a b : Exact24) → y ≡ conj x → n ≡ z24_laws.times x y → a ≡ real_part n → b ≡ k24_laws.inverse a → is_wide_from_real b ≡ true → is_wide_inverse_z24 x ≡ true
wide_factor x y n a b p q r s e =
    let f = from_real b in
    wide_steps x y n a b f (record { conjugate = p; norm = q; square = r; inverse = s; factor = refl })
    ∙ fifth (is_wide_conj x) (is_wide_product_z24 x y) (is_wide_real_part n) (is_wide_inverse24 a) (is_wide_from_real b) (is_wide_product_z24 y f) e

unless : (w : Bool) → (IsTrue w → false ≡ true) → w ≡ false
unless true h = sym (h refl)
unless false h = refl

all_false : (a b c d e f : Bool) → a ≡ false → b ≡ false → c ≡ false → d ≡ false → e ≡ false → (a || (b || (c || (d || (e || f))))) ≡ f
all_false a b c d e f p q r s t = λ i. p i || (q i || (r i || (s i || (t i || f))))

-- where the steps before the last are answered
pub wide_last : (x y n : ExactZ24) (a b : Exact24) (f : ExactZ24) → IsSteps x y n a b f → (IsTrue (is_wide_conj x) → false ≡ true) → (IsTrue (is_wide_product_z24 x y) → false ≡ true)
    → (IsTrue (is_wide_real_part n) → false ≡ true) → (IsTrue (is_wide_inverse24 a) → false ≡ true) → (IsTrue (is_wide_from_real b) → false ≡ true) → is_wide_product_z24 y f ≡ is_wide_inverse_z24 x
wide_last x y n a b f s h1 h2 h3 h4 h5 =
    sym (wide_steps x y n a b f s
    ∙ all_false (is_wide_conj x) (is_wide_product_z24 x y) (is_wide_real_part n) (is_wide_inverse24 a) (is_wide_from_real b) (is_wide_product_z24 y f)
    (unless (is_wide_conj x) h1) (unless (is_wide_product_z24 x y) h2) (unless (is_wide_real_part n) h3) (unless (is_wide_inverse24 a) h4) (unless (is_wide_from_real b) h5))

-- the square of the absolute value isn't 0
pub square_step : (x y n : ExactZ24) (a : Exact24) → y ≡ conj x → n ≡ z24_laws.times x y → a ≡ real_part n → z24_laws.is_nought x ≡ false → k24_laws.is_nought a ≡ false
square_step x y n a p q r h = ap k24_laws.is_nought (r ∙ ap real_part (q ∙ ap (z24_laws.times x) p)) ∙ square_apart x h

pub value_step : (x y n : ExactZ24) (a b : Exact24) (f : ExactZ24) → IsSteps x y n a b f → z24_laws.is_nought x ≡ false → z24_laws.times y f ≡ z24_laws.inverse x
value_step x y n a b f s h =
    let n' = s.norm ∙ ap (z24_laws.times x) s.conjugate in
    let f' = s.factor ∙ ap from_real (s.inverse ∙ ap k24_laws.inverse (s.square ∙ ap real_part n')) in
    (λ i. z24_laws.times (s.conjugate i) (f' i)) ∙ inverse_is x h
