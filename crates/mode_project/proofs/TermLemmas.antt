use Rattle.std.proofs.Common.{◌≡◌, ℕ, ℤ, pos, negsuc, Bool, false, refl, inr, ◌+◌, ◌<◌, true, sym, ◌∙◌, ap, subst, Result, IfOk, OnErr, add-one}
use Rattle.cyclo24.specs.Sums.{total}
use Rattle.std.specs.Prelude.{Ok, Err, IsTrue}
use Rattle.cyclo24.specs.Numerals.{of_whole}
use Rattle.mode_project.specs.WideParts.{IsWideOne}
use Rattle.cyclo24.specs.FieldOn.{FieldOn, ones}
use Rattle.cyclo24.specs.ExactField.{ExactField, Value}
use Rattle.cyclo24.specs.FieldLaws.{nought-plus, times-nought, nought-times, unit-times, neg-nought, neg-neg, times-neg}
use Rattle.lin_alg.specs.Matrix.{IsWideTerm, IsWideDot}

module _ {K : Type 0} (f : FieldOn K) where
  pub add-left_nought : (s x y : K) → f.is_nought x ≡ true → s ≡ f.plus s (f.times x y)
  add-left_nought s x y z = sym (ap (λ a. f.plus s (f.times a y)) (f.is_nought-true x z) ∙ ap (f.plus s) (nought-times f y) ∙ f.plus-nought s)

  pub add-right_nought : (s x y : K) → f.is_nought y ≡ true → s ≡ f.plus s (f.times x y)
  add-right_nought s x y z = sym (ap (λ a. f.plus s (f.times x a)) (f.is_nought-true y z) ∙ ap (f.plus s) (times-nought f x) ∙ f.plus-nought s)

  pub nought-add : (s r : K) → f.is_nought s ≡ true → r ≡ f.plus s r
  nought-add s r z = sym (ap (λ a. f.plus a r) (f.is_nought-true s z) ∙ nought-plus f r)

-- the same with equal factors
module _ {A : Type 0} (f : ExactField) (value : A → Value f) where
  pub term-exact : {E : Type 0} (r : Result A E) (s d x d' x' : Value f) → d ≡ d' → x ≡ x' → IfOk r (λ t. value t ≡ f.laws.plus s (f.laws.times d x)) → IfOk r (λ t. value t ≡ f.laws.plus s (f.laws.times d' x'))
  term-exact r s d x d' x' e k h = subst (λ (y : Value f). IfOk r (λ t. value t ≡ f.laws.plus s (f.laws.times d' y))) k (subst (λ (y : Value f). IfOk r (λ t. value t ≡ f.laws.plus s (f.laws.times y x))) e h)

  pub term-wide : {E : Type 0} (r : Result A E) (s d x d' x' : Value f) → d ≡ d' → x ≡ x' → OnErr r (IsWideTerm f s d x) → OnErr r (IsWideTerm f s d' x')
  term-wide r s d x d' x' e k h = subst (λ (y : Value f). OnErr r (IsWideTerm f s d' y)) k (subst (λ (y : Value f). OnErr r (IsWideTerm f s y x)) e h)

  pub term-zero : (s d x x' : Value f) → x ≡ x' → f.laws.is_nought x ≡ true → s ≡ f.laws.plus s (f.laws.times d x')
  term-zero s d x x' e z = add-right_nought f.laws s d x' (ap f.laws.is_nought (sym e) ∙ z)

module _ (f : ExactField) where
  -- one more product
  pub total-next : (j : ℕ) (x y : ℕ → Value f) (s t : Value f) → s ≡ total f.laws j (λ k. f.laws.times (x k) (y k)) → t ≡ f.laws.plus s (f.laws.times (x j) (y j)) →
      t ≡ total f.laws (j + 1) (λ k. f.laws.times (x k) (y k))
  total-next j x y s t e k =
      k ∙ ap (λ z. f.laws.plus z (f.laws.times (x j) (y j))) e ∙ ap (λ n. total f.laws n (λ k. f.laws.times (x k) (y k))) (sym (add-one j))

  pub total-step : (j : ℕ) (x y : ℕ → Value f) (s t a b : Value f) → s ≡ total f.laws j (λ k. f.laws.times (x k) (y k)) → t ≡ f.laws.plus s (f.laws.times a b) → a ≡ x j → b ≡ y j →
      t ≡ total f.laws (j + 1) (λ k. f.laws.times (x k) (y k))
  total-step j x y s t a b e k ea eb = total-next j x y s t e (k ∙ (λ z. f.laws.plus s (f.laws.times (ea z) (eb z))))

  pub total-end : (j d : ℕ) (x y : ℕ → Value f) (s : Value f) → s ≡ total f.laws j (λ k. f.laws.times (x k) (y k)) → j ≡ d → s ≡ total f.laws d (λ k. f.laws.times (x k) (y k))
  total-end j d x y s e k = e ∙ ap (λ n. total f.laws n (λ k. f.laws.times (x k) (y k))) k

  pub dot-wide : (d j : ℕ) (x y : ℕ → Value f) (s : Value f) → j < d → s ≡ total f.laws j (λ k. f.laws.times (x k) (y k)) → IsWideTerm f s (x j) (y j) → IsWideDot f d x y
  dot-wide d j x y s l e h = (j, l, subst (λ (z : Value f). IsWideTerm f z (x j) (y j)) e h)

-- at the exit of a ?
pub on-err : {A E : Type 0} (r : Result A E) (P : Type 0) → P → OnErr r P
on-err (Ok x) P h = tt
on-err (Err e) P h = h

module _ (f : ExactField) where
  pub factors-wide : (s d x d' x' : Value f) → d ≡ d' → x ≡ x' → IsWideTerm f s d x → IsWideTerm f s d' x'
  factors-wide s d x d' x' e k h = subst (λ (y : Value f). IsWideTerm f s d' y) k (subst (λ (y : Value f). IsWideTerm f s y x) e h)

module _ {K : Type 0} (f : FieldOn K) where
  nonzero-neg : (y : K) → f.is_nought (f.neg y) ≡ false → f.is_nought y ≡ false
  nonzero-neg y h = by-test (f.is_nought y) refl
    where
      by-test : (b : Bool) → f.is_nought y ≡ b → b ≡ false
      by-test false e = refl
      by-test true e =
          let zero : f.is_nought (f.neg y) ≡ true = ap (λ x. f.is_nought (f.neg x)) (f.is_nought-true y e) ∙ ap f.is_nought (neg-nought f) ∙ f.is_nought-nought in
          absurd (cc (sym zero ∙ h))

  pub one-times : (n : ℤ) (y : K) → n ≡ pos 1 → f.times (of_whole f n) y ≡ y
  one-times n y e = ap (λ m. f.times (of_whole f m) y) e ∙ ap (λ x. f.times x y) (f.plus-nought f.unit) ∙ unit-times f y

  pub minus-times : (n : ℤ) (y : K) → n ≡ negsuc 0 → f.times (of_whole f n) y ≡ f.neg y
  minus-times n y e =
      ap (λ m. f.times (of_whole f m) y) e
      ∙ f.times_comm (f.neg (ones f 1)) y
      ∙ times-neg f y (ones f 1)
      ∙ ap f.neg (ap (f.times y) (f.plus-nought f.unit) ∙ f.times-unit y)

module _ (f : ExactField) where
  one-some : (n : ℤ) → n ≡ pos 1 → f.laws.is_nought (of_whole f.laws n) ≡ false
  one-some n e = ap (λ m. f.laws.is_nought (of_whole f.laws m)) e ∙ f.characteristic_zero 0

  minus-some : (n : ℤ) → n ≡ negsuc 0 → f.laws.is_nought (of_whole f.laws n) ≡ false
  minus-some n e = ap (λ m. f.laws.is_nought (of_whole f.laws m)) e ∙ nonzero-neg f.laws (f.laws.neg (ones f.laws 1)) (ap f.laws.is_nought (neg-neg f.laws (ones f.laws 1)) ∙ f.characteristic_zero 0)

  pub one-wide : (s y : Value f) (n : ℤ) → n ≡ pos 1 → IsWideOne f s y → IsWideTerm f s (of_whole f.laws n) y
  one-wide s y n e h = (one-some n e, h.1, inr (h.0, subst (λ (x : Value f). IsTrue (f.is_wide_sum s x)) (sym (one-times f.laws n y e)) h.2))

  pub minus-wide : (s y : Value f) (n : ℤ) → n ≡ negsuc 0 → IsWideOne f s (f.laws.neg y) → IsWideTerm f s (of_whole f.laws n) y
  minus-wide s y n e h = (minus-some n e, nonzero-neg f.laws y h.1, inr (h.0, subst (λ (x : Value f). IsTrue (f.is_wide_sum s x)) (sym (minus-times f.laws n y e)) h.2))

pub on-err-map : {A E : Type 0} (r : Result A E) (P Q : Type 0) → (P → Q) → OnErr r P → OnErr r Q
on-err-map (Ok x) P Q m h = tt
on-err-map (Err e) P Q m h = m h

module _ {A E : Type 0} (f : ExactField) (value : A → Value f) (r : Result A E) (s y : Value f) (n : ℤ) where
  pub one-exact : n ≡ pos 1 → IfOk r (λ t. value t ≡ f.laws.plus s y) → IfOk r (λ t. value t ≡ f.laws.plus s (f.laws.times (of_whole f.laws n) y))
  one-exact e h = subst (λ (x : Value f). IfOk r (λ t. value t ≡ f.laws.plus s x)) (sym (one-times f.laws n y e)) h

  pub minus-exact : (x : Value f) → x ≡ f.laws.neg y → n ≡ negsuc 0 → IfOk r (λ t. value t ≡ f.laws.plus s x) → IfOk r (λ t. value t ≡ f.laws.plus s (f.laws.times (of_whole f.laws n) y))
  minus-exact x k e h = subst (λ (z : Value f). IfOk r (λ t. value t ≡ f.laws.plus s z)) (k ∙ sym (minus-times f.laws n y e)) h

pub add-nought_whole : {K : Type 0} (f : FieldOn K) (s y : K) (n : ℤ) → n ≡ pos 0 → s ≡ f.plus s (f.times (of_whole f n) y)
add-nought_whole f s y n e = sym (ap (λ (m : ℤ). f.plus s (f.times (of_whole f m) y)) e ∙ ap (f.plus s) (nought-times f y) ∙ f.plus-nought s)

pub nought-more : {K : Type 0} (f : FieldOn K) (s x y : K) → s ≡ f.nought → y ≡ f.nought → f.plus s (f.times x y) ≡ f.nought
nought-more f s x y e k = (λ z. f.plus (e z) (f.times x (k z))) ∙ ap (f.plus f.nought) (times-nought f x) ∙ f.plus-nought f.nought
