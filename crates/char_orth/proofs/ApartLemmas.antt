-- The inner product of two lists of weights, and what it tells.
use Rattle.std.proofs.Common.{◌≡◌, ℕ, ◌<◌, ◌↔◌, Bool, true, sym, ◌∙◌, ap, subst, arith, List, length, Result, Ok, Err, OnErr}
use Rattle.algebra.specs.NumberedGroup.{Group, IsGroup}
use Rattle.algebra.specs.NumberedGroupLaws.{product-identity}
use Rattle.cyclo24.specs.ExactField.{ExactField, Value}
use Rattle.cyclo24.specs.Sums.{total}
use Rattle.cyclo24.specs.TotalLaws.{total-same}
use Rattle.lin_alg.specs.Matrices.{convolution}
use Rattle.lin_alg.specs.Matrix.{IsWideTerm, IsWideDot}
use Rattle.lin_alg.specs.Rows.{vector}
use Rattle.induce.specs.Apart.{IsEven, AreApart}
use Rattle.char_orth.specs.Wide.{IsWideApart}

pub on-err : {A E : Type 0} (r : Result A E) (P : Type 0) → P → OnErr r P
on-err (Ok x) P p = tt
on-err (Err e) P p = p

-- the weights of two representations as calls give them
module _ {A : Type 0} (f : ExactField) (value : A → Value f) (xs ys us vs : List A) (ex : us ≡ xs) (ey : vs ≡ ys) (n : ℕ) (count : length xs ≡ n) where
  pub given-sum : total f.laws (length us) (λ q. f.laws.times (vector f.laws value us q) (vector f.laws value vs q)) ≡ total f.laws n (λ q. f.laws.times (vector f.laws value xs q) (vector f.laws value ys q))
  given-sum =
      (λ t. total f.laws (length (ex t)) (λ q. f.laws.times (vector f.laws value (ex t) q) (vector f.laws value (ey t) q)))
      ∙ ap (λ m. total f.laws m (λ q. f.laws.times (vector f.laws value xs q) (vector f.laws value ys q))) count

  pub given-wide : IsWideDot f (length us) (vector f.laws value us) (vector f.laws value vs) → IsWideDot f n (vector f.laws value xs) (vector f.laws value ys)
  given-wide h =
      subst (λ m. IsWideDot f m (vector f.laws value xs) (vector f.laws value ys)) count
      (subst (λ zs. IsWideDot f (length xs) (vector f.laws value xs) (vector f.laws value zs)) ey (subst (λ zs. IsWideDot f (length zs) (vector f.laws value zs) (vector f.laws value vs)) ex h))

-- where the right weights are the same on inverses
module _ (f : ExactField) (g : Group) (law : IsGroup g) (w u : ℕ → Value f) (even : IsEven g u) where
  at-inverse : (q : ℕ) → q < g.order → u q ≡ u (g.product (g.inverse q) 0)
  at-inverse q l = sym (even q l) ∙ ap u (sym (product-identity g law (g.inverse q) (law.inverse_below q l)))

  at-identity : total f.laws g.order (λ q. f.laws.times (w q) (u q)) ≡ convolution f.laws g w u 0
  at-identity = total-same f.laws g.order _ _ (λ q l. ap (f.laws.times (w q)) (at-inverse q l))

  -- an inner product that is 0 where the sum at the identity decides
  pub decided : (zero : Bool) (s : Value f) → zero ≡ f.laws.is_nought s → s ≡ total f.laws g.order (λ q. f.laws.times (w q) (u q)) → IsEven g w
      → (convolution f.laws g w u 0 ≡ f.laws.nought → (p : ℕ) → p < g.order → convolution f.laws g w u p ≡ f.laws.nought)
      → (zero ≡ true) ↔ AreApart f.laws g w u
  decided zero s e d left all =
      let own : s ≡ convolution f.laws g w u 0 = d ∙ at-identity in (
        λ t. record { left = left; right = even; sums = all (sym own ∙ f.laws.is_nought-true s (sym e ∙ t)) },
        λ a. e ∙ ap f.laws.is_nought (own ∙ a.sums 0 law.identity_below) ∙ f.laws.is_nought-nought,
      )

  pub wide-apart : IsWideDot f g.order w u → IsWideApart f g w u
  wide-apart h =
      let j = h.0 in
      let x : ℕ → Value f = λ q. u (g.product (g.inverse q) 0) in
      let below : (k : ℕ) → k < j → k < g.order = λ k l. let b : j < g.order = h.1 in omega (arith, l, b) in
      let same : total f.laws j (λ k. f.laws.times (w k) (u k)) ≡ total f.laws j (λ k. f.laws.times (w k) (x k)) = total-same f.laws j _ _ (λ k l. ap (f.laws.times (w k)) (at-inverse k (below k l))) in
      let term : IsWideTerm f (total f.laws j (λ k. f.laws.times (w k) (x k))) (w j) (x j) =
      subst (λ (z : Value f). IsWideTerm f z (w j) (x j)) same (subst (λ (z : Value f). IsWideTerm f (total f.laws j (λ k. f.laws.times (w k) (u k))) (w j) z) (at-inverse j h.1) h.2) in
      (0, law.identity_below, (j, h.1, term))
