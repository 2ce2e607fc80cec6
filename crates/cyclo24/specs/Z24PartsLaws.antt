-- Products and inverses in the 24th cyclotomic field by real and imaginary parts.
--
-- real_part-times, imag_part-times: the parts of a product
-- real_part-conj, imag_part-conj: the parts of a conjugate
-- real_part-unit, imag_part-unit, no_parts: the parts of 1; only 0 has none
-- times-conj, real_part-times-conj: x times its conjugate is the sum of the squares of its parts
-- by_conjugate x: the inverse by the conjugate; inverse_is: it is the inverse
use Rattle.std.proofs.Common.{◌≡◌, refl, sym, ap, ◌∙◌, [], ◌∷◌, Bool, true, false}
use Rattle.cyclo24.specs.FieldOn.{FieldOn}
use Rattle.algebra.specs.Solve.{V, K, Neg, Add, Mul, at}
use Rattle.algebra.specs.SolveLaws.{solve, by_test}
use Rattle.cyclo24.specs.Numerals.{ring_of}
use Rattle.cyclo24.specs.NumeralLaws.{ring_of_is}
use Rattle.cyclo24.specs.FieldLaws.{neg-unique, neg-plus, nought-plus, times-nought, unit-times, inverse_unique}
use Rattle.cyclo24.specs.ExactZ24.{z24_laws, conj, real_part, imag_part, from_real, imaginary}
use Rattle.cyclo24.specs.Z24Laws.{conj-conj, conj-plus, conj-times, conj-from_real, conj-imaginary, imaginary-square, from_real-plus, from_real-times, from_real-unit, from_real-nought, real_part-plus, imag_part-plus, real_part-from_real, imag_part-from_real, real_part-imaginary, imag_part-imaginary, parts}
use Rattle.cyclo24.specs.Z24Parts.{k24, E, R, of_parts, by_conjugate}

pub real_part-of_parts : (a b : R) → real_part (of_parts a b) ≡ a
real_part-of_parts a b =
    real_part-plus (from_real a) (z24_laws.times imaginary (from_real b)) ∙ (λ i. k24.plus (real_part-from_real a i) (real_part-imaginary b i)) ∙ k24.plus-nought a

pub imag_part-of_parts : (a b : R) → imag_part (of_parts a b) ≡ b
imag_part-of_parts a b =
    imag_part-plus (from_real a) (z24_laws.times imaginary (from_real b)) ∙ (λ i. k24.plus (imag_part-from_real a i) (imag_part-imaginary b i)) ∙ nought-plus k24 b

pub from_real-neg : (a : R) → from_real (k24.neg a) ≡ z24_laws.neg (from_real a)
from_real-neg a =
    neg-unique z24_laws (from_real (k24.neg a)) (from_real a) (sym (from_real-plus (k24.neg a) a) ∙ ap from_real (neg-plus k24 a) ∙ from_real-nought)

-- (a + i b) (c + i d) in a ring with i i = -1
module _ {A : Type 0} (f : FieldOn A) where
  product : (i a b c d : A) → f.times i i ≡ f.neg f.unit
      → f.times (f.plus a (f.times i b)) (f.plus c (f.times i d)) ≡ f.plus (f.plus (f.times a c) (f.neg (f.times b d))) (f.times i (f.plus (f.times a d) (f.times b c)))
  product i a b c d e =
      let v = at f.nought (i ∷ a ∷ b ∷ c ∷ d ∷ []) in
      solve (ring_of f) (ring_of_is f) v (Mul (Add (V 1) (Mul (V 0) (V 2))) (Add (V 3) (Mul (V 0) (V 4))))
      (Add (Add (Mul (V 1) (V 3)) (Mul (Mul (V 0) (V 0)) (Mul (V 2) (V 4)))) (Mul (V 0) (Add (Mul (V 1) (V 4)) (Mul (V 2) (V 3))))) refl
      ∙ ap (λ w. f.plus (f.plus (f.times a c) (f.times w (f.times b d))) (f.times i (f.plus (f.times a d) (f.times b c)))) (e ∙ ap f.neg (sym (f.plus-nought f.unit)))
      ∙ solve (ring_of f) (ring_of_is f) v (Add (Add (Mul (V 1) (V 3)) (Mul (Neg (K 1)) (Mul (V 2) (V 4)))) (Mul (V 0) (Add (Mul (V 1) (V 4)) (Mul (V 2) (V 3)))))
      (Add (Add (Mul (V 1) (V 3)) (Neg (Mul (V 2) (V 4)))) (Mul (V 0) (Add (Mul (V 1) (V 4)) (Mul (V 2) (V 3))))) refl

-- the parts of a product
pub times-of_parts : (a b c d : R) → z24_laws.times (of_parts a b) (of_parts c d) ≡ of_parts (k24.plus (k24.times a c) (k24.neg (k24.times b d))) (k24.plus (k24.times a d) (k24.times b c))
times-of_parts a b c d =
    product z24_laws imaginary (from_real a) (from_real b) (from_real c) (from_real d) imaginary-square
    ∙ sym (λ i. z24_laws.plus
    ((from_real-plus (k24.times a c) (k24.neg (k24.times b d)) ∙ (λ j. z24_laws.plus (from_real-times a c j) ((from_real-neg (k24.times b d) ∙ ap z24_laws.neg (from_real-times b d)) j))) i)
    (z24_laws.times imaginary ((from_real-plus (k24.times a d) (k24.times b c) ∙ (λ j. z24_laws.plus (from_real-times a d j) (from_real-times b c j))) i)))

pub real_part-times : (x y : E) → real_part (z24_laws.times x y) ≡ k24.plus (k24.times (real_part x) (real_part y)) (k24.neg (k24.times (imag_part x) (imag_part y)))
real_part-times x y =
    let a = real_part x in let b = imag_part x in let c = real_part y in let d = imag_part y in
    ap real_part ((λ i. z24_laws.times (parts x i) (parts y i)) ∙ times-of_parts a b c d)
    ∙ real_part-of_parts (k24.plus (k24.times a c) (k24.neg (k24.times b d))) (k24.plus (k24.times a d) (k24.times b c))

pub imag_part-times : (x y : E) → imag_part (z24_laws.times x y) ≡ k24.plus (k24.times (real_part x) (imag_part y)) (k24.times (imag_part x) (real_part y))
imag_part-times x y =
    let a = real_part x in let b = imag_part x in let c = real_part y in let d = imag_part y in
    ap imag_part ((λ i. z24_laws.times (parts x i) (parts y i)) ∙ times-of_parts a b c d)
    ∙ imag_part-of_parts (k24.plus (k24.times a c) (k24.neg (k24.times b d))) (k24.plus (k24.times a d) (k24.times b c))

-- of 1 and of 0
pub real_part-unit : real_part z24_laws.unit ≡ k24.unit
real_part-unit = ap real_part (sym from_real-unit) ∙ real_part-from_real k24.unit

pub imag_part-unit : imag_part z24_laws.unit ≡ k24.nought
imag_part-unit = ap imag_part (sym from_real-unit) ∙ imag_part-from_real k24.unit

pub real_part-nought : real_part z24_laws.nought ≡ k24.nought
real_part-nought = ap real_part (sym from_real-nought) ∙ real_part-from_real k24.nought

pub imag_part-nought : imag_part z24_laws.nought ≡ k24.nought
imag_part-nought = ap imag_part (sym from_real-nought) ∙ imag_part-from_real k24.nought

-- equal parts
pub same_parts : (x y : E) → real_part x ≡ real_part y → imag_part x ≡ imag_part y → x ≡ y
same_parts x y p q = parts x ∙ (λ i. of_parts (p i) (q i)) ∙ sym (parts y)

pub no_parts : (x : E) → real_part x ≡ k24.nought → imag_part x ≡ k24.nought → x ≡ z24_laws.nought
no_parts x p q = same_parts x z24_laws.nought (p ∙ sym real_part-nought) (q ∙ sym imag_part-nought)

-- a - i b
pub conj-of_parts : (a b : R) → conj (of_parts a b) ≡ of_parts a (k24.neg b)
conj-of_parts a b =
    conj-plus (from_real a) (z24_laws.times imaginary (from_real b))
    ∙ (λ i. z24_laws.plus (conj-from_real a i) ((conj-times imaginary (from_real b) ∙ (λ j. z24_laws.times (conj-imaginary j) (conj-from_real b j)) ∙ turn imaginary (from_real b) ∙ ap (z24_laws.times imaginary) (sym (from_real-neg b))) i))
  where
    turn : (x y : E) → z24_laws.times (z24_laws.neg x) y ≡ z24_laws.times x (z24_laws.neg y)
    turn x y = solve (ring_of z24_laws) (ring_of_is z24_laws) (at z24_laws.nought (x ∷ y ∷ [])) (Mul (Neg (V 0)) (V 1)) (Mul (V 0) (Neg (V 1))) refl

pub real_part-conj : (x : E) → real_part (conj x) ≡ real_part x
real_part-conj x = ap (λ y. real_part (conj y)) (parts x) ∙ ap real_part (conj-of_parts (real_part x) (imag_part x)) ∙ real_part-of_parts (real_part x) (k24.neg (imag_part x))

pub imag_part-conj : (x : E) → imag_part (conj x) ≡ k24.neg (imag_part x)
imag_part-conj x = ap (λ y. imag_part (conj y)) (parts x) ∙ ap imag_part (conj-of_parts (real_part x) (imag_part x)) ∙ imag_part-of_parts (real_part x) (k24.neg (imag_part x))

-- x times its conjugate
pub real_part-times-conj : (x : E) → real_part (z24_laws.times x (conj x)) ≡ k24.plus (k24.times (real_part x) (real_part x)) (k24.times (imag_part x) (imag_part x))
real_part-times-conj x =
    real_part-times x (conj x) ∙ (λ i. k24.plus (k24.times (real_part x) (real_part-conj x i)) (k24.neg (k24.times (imag_part x) (imag_part-conj x i)))) ∙ squares (real_part x) (imag_part x)
  where
    squares : (a b : R) → k24.plus (k24.times a a) (k24.neg (k24.times b (k24.neg b))) ≡ k24.plus (k24.times a a) (k24.times b b)
    squares a b = solve (ring_of k24) (ring_of_is k24) (at k24.nought (a ∷ b ∷ [])) (Add (Mul (V 0) (V 0)) (Neg (Mul (V 1) (Neg (V 1))))) (Add (Mul (V 0) (V 0)) (Mul (V 1) (V 1))) refl

pub imag_part-times-conj : (x : E) → imag_part (z24_laws.times x (conj x)) ≡ k24.nought
imag_part-times-conj x =
    imag_part-times x (conj x) ∙ (λ i. k24.plus (k24.times (real_part x) (imag_part-conj x i)) (k24.times (imag_part x) (real_part-conj x i))) ∙ mixed (real_part x) (imag_part x)
  where
    mixed : (a b : R) → k24.plus (k24.times a (k24.neg b)) (k24.times b a) ≡ k24.nought
    mixed a b = solve (ring_of k24) (ring_of_is k24) (at k24.nought (a ∷ b ∷ [])) (Add (Mul (V 0) (Neg (V 1))) (Mul (V 1) (V 0))) (K 0) refl

pub times-conj : (x : E) → z24_laws.times x (conj x) ≡ from_real (real_part (z24_laws.times x (conj x)))
times-conj x =
    let n = z24_laws.times x (conj x) in
    same_parts n (from_real (real_part n)) (sym (real_part-from_real (real_part n))) (imag_part-times-conj x ∙ sym (imag_part-from_real (real_part n)))

module _ {A : Type 0} (f : FieldOn A) where
  -- a product that is 0
  factor_zero : (x y : A) → f.is_nought x ≡ false → f.times x y ≡ f.nought → y ≡ f.nought
  factor_zero x y a e =
      let i = f.inverse x in
      sym (unit-times f y) ∙ ap (λ w. f.times w y) (sym (f.times_comm i x ∙ f.times-inverse x a)) ∙ f.times_assoc i x y ∙ ap (f.times i) e ∙ times-nought f i

pub conj-nought : conj z24_laws.nought ≡ z24_laws.nought
conj-nought = ap conj (sym from_real-nought) ∙ conj-from_real k24.nought ∙ from_real-nought

apart : (b : Bool) → b ≡ true → b ≡ false → (P : Type 0) → P
apart true p q P = absurd (cc)
apart false p q P = absurd (cc)

-- the squared absolute value of what isn't 0 isn't 0
pub square_apart : (x : E) → z24_laws.is_nought x ≡ false → k24.is_nought (real_part (z24_laws.times x (conj x))) ≡ false
square_apart x a =
    let n = real_part (z24_laws.times x (conj x)) in
    by_test (λ b. b ≡ false) (k24.is_nought n)
    (λ t.
    let zero : z24_laws.times x (conj x) ≡ z24_laws.nought = times-conj x ∙ ap from_real (k24.is_nought-true n t) ∙ from_real-nought in
    let c : conj x ≡ z24_laws.nought = factor_zero z24_laws x (conj x) a zero in
    let x0 : x ≡ z24_laws.nought = sym (conj-conj x) ∙ ap conj c ∙ conj-nought in
    apart (z24_laws.is_nought x) (ap z24_laws.is_nought x0 ∙ z24_laws.is_nought-nought) a (true ≡ false))
    (λ f. refl)

pub inverse_is : (x : E) → z24_laws.is_nought x ≡ false → by_conjugate x ≡ z24_laws.inverse x
inverse_is x a =
    let y = conj x in let n = real_part (z24_laws.times x y) in
    inverse_unique z24_laws x (by_conjugate x) a
    (sym (z24_laws.times_assoc x y (from_real (k24.inverse n))) ∙ ap (λ w. z24_laws.times w (from_real (k24.inverse n))) (times-conj x)
    ∙ sym (from_real-times n (k24.inverse n)) ∙ ap from_real (k24.times-inverse n (square_apart x a)) ∙ from_real-unit)
