-- Sums of products term by term, and where they are wide.
use Rattle.std.proofs.Common.{◌≡◌, ℕ, ◌+◌, ◌<◌, true, sym, ◌∙◌, ap, subst, Result, OnErr, add-one}
use Rattle.std.specs.Prelude.{Ok, Err}
use Rattle.cyclo24.specs.Sums.{total}
use Rattle.cyclo24.specs.FieldOn.{FieldOn}
use Rattle.cyclo24.specs.ExactField.{ExactField, Value}
use Rattle.cyclo24.specs.FieldLaws.{nought-times}
use Rattle.lin_alg.specs.Matrix.{IsWideTerm, IsWideDot}

pub add-left_nought : {K : Type 0} (f : FieldOn K) (s x y : K) → f.is_nought x ≡ true → s ≡ f.plus s (f.times x y)
add-left_nought f s x y z = sym (ap (λ a. f.plus s (f.times a y)) (f.is_nought-true x z) ∙ ap (f.plus s) (nought-times f y) ∙ f.plus-nought s)

module _ (f : ExactField) where
  -- one more product
  pub total-step : (j : ℕ) (x y : ℕ → Value f) (s t : Value f) → s ≡ total f.laws j (λ k. f.laws.times (x k) (y k)) → t ≡ f.laws.plus s (f.laws.times (x j) (y j)) →
      t ≡ total f.laws (j + 1) (λ k. f.laws.times (x k) (y k))
  total-step j x y s t e k =
      k ∙ ap (λ z. f.laws.plus z (f.laws.times (x j) (y j))) e ∙ ap (λ n. total f.laws n (λ k. f.laws.times (x k) (y k))) (sym (add-one j))

  pub total-end : (j d : ℕ) (x y : ℕ → Value f) (s : Value f) → s ≡ total f.laws j (λ k. f.laws.times (x k) (y k)) → j ≡ d → s ≡ total f.laws d (λ k. f.laws.times (x k) (y k))
  total-end j d x y s e k = e ∙ ap (λ n. total f.laws n (λ k. f.laws.times (x k) (y k))) k

  pub term-moved : (s s' d d' x x' : Value f) → s ≡ s' → d ≡ d' → x ≡ x' → IsWideTerm f s d x → IsWideTerm f s' d' x'
  term-moved s s' d d' x x' es ed ex h =
      subst (λ (y : Value f). IsWideTerm f y d' x') es (subst (λ (y : Value f). IsWideTerm f s d' y) ex (subst (λ (y : Value f). IsWideTerm f s y x) ed h))

  pub dot-wide : (d j : ℕ) (x y : ℕ → Value f) (s : Value f) → j < d → s ≡ total f.laws j (λ k. f.laws.times (x k) (y k)) → IsWideTerm f s (x j) (y j) → IsWideDot f d x y
  dot-wide d j x y s l e h = (j, l, subst (λ (z : Value f). IsWideTerm f z (x j) (y j)) e h)

-- at the exit of a ?
pub on-err : {A E : Type 0} (r : Result A E) (P : Type 0) → P → OnErr r P
on-err (Ok x) P h = tt
on-err (Err e) P h = h
