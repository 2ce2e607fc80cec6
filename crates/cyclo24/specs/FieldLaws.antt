-- What follows from the laws of a field.
--
-- nought-plus, neg-plus, plus-cancel, times-nought, nought-times, unit-times, inverse_unique, neg-unique, neg-nought, neg-neg, times-neg, plus-times, plus-swap, neg-plus-neg
-- less-..: facts on x - c y, one step of an elimination
use Rattle.std.proofs.Common.{◌≡◌, refl, sym, ◌∙◌, ap, false}
use Rattle.cyclo24.specs.FieldOn.{FieldOn}

module _ {K : Type 0} (f : FieldOn K) where
  pub nought-plus : (x : K) → f.plus f.nought x ≡ x
  nought-plus x = f.plus_comm f.nought x ∙ f.plus-nought x

  pub neg-plus : (x : K) → f.plus (f.neg x) x ≡ f.nought
  neg-plus x = f.plus_comm (f.neg x) x ∙ f.plus-neg x

  -- a right summand that cancels
  pub plus-cancel : (x y z : K) → f.plus x z ≡ f.plus y z → x ≡ y
  plus-cancel x y z h =
      let e : (w : K) → f.plus (f.plus w z) (f.neg z) ≡ w =
      λ w. f.plus_assoc w z (f.neg z) ∙ ap (f.plus w) (f.plus-neg z) ∙ f.plus-nought w
      in sym (e x) ∙ ap (λ w. f.plus w (f.neg z)) h ∙ e y

  pub times-nought : (x : K) → f.times x f.nought ≡ f.nought
  times-nought x =
      let e : f.plus (f.times x f.nought) (f.times x f.nought) ≡ f.plus f.nought (f.times x f.nought) =
      sym (f.times-plus x f.nought f.nought) ∙ ap (f.times x) (f.plus-nought f.nought) ∙ sym (nought-plus (f.times x f.nought))
      in plus-cancel (f.times x f.nought) f.nought (f.times x f.nought) e

  pub nought-times : (x : K) → f.times f.nought x ≡ f.nought
  nought-times x = f.times_comm f.nought x ∙ times-nought x

  pub unit-times : (x : K) → f.times f.unit x ≡ x
  unit-times x = f.times_comm f.unit x ∙ f.times-unit x

  -- what times x is 1 is the inverse of x
  pub inverse_unique : (x y : K) → f.is_nought x ≡ false → f.times x y ≡ f.unit → y ≡ f.inverse x
  inverse_unique x y a e =
      let i = f.inverse x in
      sym (unit-times y) ∙ ap (λ w. f.times w y) (sym (f.times_comm i x ∙ f.times-inverse x a)) ∙ f.times_assoc i x y ∙ ap (f.times i) e ∙ f.times-unit i

  pub neg-unique : (x y : K) → f.plus x y ≡ f.nought → x ≡ f.neg y
  neg-unique x y h = plus-cancel x (f.neg y) y (h ∙ sym (neg-plus y))

  pub neg-nought : f.neg f.nought ≡ f.nought
  neg-nought = sym (neg-unique f.nought f.nought (f.plus-nought f.nought))

  pub neg-neg : (x : K) → f.neg (f.neg x) ≡ x
  neg-neg x = sym (neg-unique x (f.neg x) (f.plus-neg x))

  pub times-neg : (x y : K) → f.times x (f.neg y) ≡ f.neg (f.times x y)
  times-neg x y =
      neg-unique (f.times x (f.neg y)) (f.times x y)
      (sym (f.times-plus x (f.neg y) y) ∙ ap (f.times x) (neg-plus y) ∙ times-nought x)

  pub plus-times : (x y z : K) → f.times (f.plus x y) z ≡ f.plus (f.times x z) (f.times y z)
  plus-times x y z =
      f.times_comm (f.plus x y) z ∙ f.times-plus z x y ∙ ap (λ w. f.plus w (f.times z y)) (f.times_comm z x)
      ∙ ap (f.plus (f.times x z)) (f.times_comm z y)

  -- (a + b) + (c + d) = (a + c) + (b + d)
  pub plus-swap : (a b c d : K) → f.plus (f.plus a b) (f.plus c d) ≡ f.plus (f.plus a c) (f.plus b d)
  plus-swap a b c d =
      f.plus_assoc a b (f.plus c d) ∙ ap (f.plus a) (sym (f.plus_assoc b c d) ∙ ap (λ w. f.plus w d) (f.plus_comm b c) ∙ f.plus_assoc c b d)
      ∙ sym (f.plus_assoc a c (f.plus b d))

  pub neg-plus-neg : (x y : K) → f.plus (f.neg x) (f.neg y) ≡ f.neg (f.plus x y)
  neg-plus-neg x y =
      neg-unique (f.plus (f.neg x) (f.neg y)) (f.plus x y)
      (plus-swap (f.neg x) (f.neg y) x y ∙ ap (λ w. f.plus w (f.plus (f.neg y) y)) (neg-plus x)
      ∙ ap (f.plus f.nought) (neg-plus y) ∙ f.plus-nought f.nought)

  -- the eight facts on x - c y
  pub less-nought : (x y : K) → f.plus x (f.neg (f.times f.nought y)) ≡ x
  less-nought x y = rw (nought-times y, neg-nought) (f.plus-nought x)

  pub less-at-nought : (x c : K) → f.plus x (f.neg (f.times c f.nought)) ≡ x
  less-at-nought x c = rw (times-nought c, neg-nought) (f.plus-nought x)

  pub less-own : (x : K) → f.plus x (f.neg (f.times x f.unit)) ≡ f.nought
  less-own x = rw (f.times-unit x) (f.plus-neg x)

  pub less-coefficient : (x c : K) → f.plus x (f.neg (f.times c f.unit)) ≡ f.nought → c ≡ x
  less-coefficient x c h =
      let e : f.plus x (f.neg c) ≡ f.nought = rw (f.times-unit c) at h
      in sym (neg-neg c) ∙ sym (neg-unique x (f.neg c) e)

  pub less-same : (x y : K) → f.plus x (f.neg (f.times f.unit y)) ≡ f.nought → x ≡ y
  less-same x y h =
      let e : f.plus x (f.neg y) ≡ f.nought = rw (unit-times y) at h
      in neg-unique x (f.neg y) e ∙ neg-neg y

  pub less-self : (x : K) → f.plus x (f.neg (f.times f.unit x)) ≡ f.nought
  less-self x = rw (unit-times x) (f.plus-neg x)

  pub less-plus : (x y a b z : K) → f.plus (f.plus x y) (f.neg (f.times (f.plus a b) z)) ≡ f.plus (f.plus x (f.neg (f.times a z))) (f.plus y (f.neg (f.times b z)))
  less-plus x y a b z =
      rw (plus-times a b z, ← neg-plus-neg (f.times a z) (f.times b z)) (plus-swap x y (f.neg (f.times a z)) (f.neg (f.times b z)))

  pub less-times : (k x c y : K) → f.plus (f.times k x) (f.neg (f.times (f.times k c) y)) ≡ f.times k (f.plus x (f.neg (f.times c y)))
  less-times k x c y =
      rw (f.times-plus k x (f.neg (f.times c y)), times-neg k (f.times c y), f.times_assoc k c y) refl

  pub less-back : (x c y : K) → f.plus (f.plus x (f.neg (f.times c y))) (f.times c y) ≡ x
  less-back x c y =
      f.plus_assoc x (f.neg (f.times c y)) (f.times c y) ∙ ap (f.plus x) (neg-plus (f.times c y)) ∙ f.plus-nought x
