-- A field carried to another type with the same numbers.
--
-- Same A B: a bijection
-- carried f s: the field f on the other type; carried-real, carried-ones: what it keeps
use Rattle.std.proofs.Common.{◌≡◌, ℕ, suc, zero, sym, ◌∙◌, ap}
use Rattle.cyclo24.specs.FieldOn.{FieldOn, ones}
use Rattle.cyclo24.specs.Sums.{total, IsReal}

pub record Same (A B : Type 0) : Type 0 where
  pub to : A → B
  pub from : B → A
  pub from-to : (a : A) → from (to a) ≡ a
  pub to-from : (b : B) → to (from b) ≡ b

module _ {A B : Type 0} (f : FieldOn A) (s : Same A B) where
  abbrev pub carried : FieldOn B
  carried = record {
    nought = s.to f.nought;
    unit = s.to f.unit;
    neg = λ x. s.to (f.neg (s.from x));
    plus = λ x y. s.to (f.plus (s.from x) (s.from y));
    times = λ x y. s.to (f.times (s.from x) (s.from y));
    inverse = λ x. s.to (f.inverse (s.from x));
    is_nought = λ x. f.is_nought (s.from x);
    plus_comm = λ x y. ap s.to (f.plus_comm (s.from x) (s.from y));
    plus_assoc = λ x y z. ap s.to ((λ i. f.plus (s.from-to (f.plus (s.from x) (s.from y)) i) (s.from z)) ∙ f.plus_assoc (s.from x) (s.from y) (s.from z)
        ∙ (λ i. f.plus (s.from x) (sym (s.from-to (f.plus (s.from y) (s.from z))) i)));
    plus-nought = λ x. ap s.to ((λ i. f.plus (s.from x) (s.from-to f.nought i)) ∙ f.plus-nought (s.from x)) ∙ s.to-from x;
    plus-neg = λ x. ap s.to ((λ i. f.plus (s.from x) (s.from-to (f.neg (s.from x)) i)) ∙ f.plus-neg (s.from x));
    times_comm = λ x y. ap s.to (f.times_comm (s.from x) (s.from y));
    times_assoc = λ x y z. ap s.to ((λ i. f.times (s.from-to (f.times (s.from x) (s.from y)) i) (s.from z)) ∙ f.times_assoc (s.from x) (s.from y) (s.from z)
        ∙ (λ i. f.times (s.from x) (sym (s.from-to (f.times (s.from y) (s.from z))) i)));
    times-unit = λ x. ap s.to ((λ i. f.times (s.from x) (s.from-to f.unit i)) ∙ f.times-unit (s.from x)) ∙ s.to-from x;
    times-plus = λ x y z. ap s.to ((λ i. f.times (s.from x) (s.from-to (f.plus (s.from y) (s.from z)) i)) ∙ f.times-plus (s.from x) (s.from y) (s.from z)
        ∙ (λ i. f.plus (sym (s.from-to (f.times (s.from x) (s.from y))) i) (sym (s.from-to (f.times (s.from x) (s.from z))) i)));
    times-inverse = λ x h. ap s.to ((λ i. f.times (s.from x) (s.from-to (f.inverse (s.from x)) i)) ∙ f.times-inverse (s.from x) h);
    is_nought-true = λ x h. sym (s.to-from x) ∙ ap s.to (f.is_nought-true (s.from x) h);
    is_nought-nought = ap f.is_nought (s.from-to f.nought) ∙ f.is_nought-nought;
    is_nought-unit = ap f.is_nought (s.from-to f.unit) ∙ f.is_nought-unit;
  }

  carried-total : (n : ℕ) (g : ℕ → B) → s.from (total carried n g) ≡ total f n (λ k. s.from (g k))
  carried-total zero g = s.from-to f.nought
  carried-total (suc n) g = s.from-to (f.plus (s.from (total carried n g)) (s.from (g n))) ∙ ap (λ x. f.plus x (s.from (g n))) (carried-total n g)

  pub carried-real : IsReal f → IsReal carried
  carried-real h n g e k l =
      sym (s.to-from (g k))
      ∙ ap s.to (h n (λ k. s.from (g k))
      (sym (carried-same n g) ∙ ap s.from e ∙ s.from-to f.nought) k l)
    where
      carried-same : (n : ℕ) (g : ℕ → B) → s.from (total carried n (λ k. carried.times (g k) (g k))) ≡ total f n (λ k. f.times (s.from (g k)) (s.from (g k)))
      carried-same zero g = s.from-to f.nought
      carried-same (suc n) g =
          s.from-to (f.plus (s.from (total carried n (λ k. carried.times (g k) (g k)))) (s.from (s.to (f.times (s.from (g n)) (s.from (g n))))))
          ∙ (λ i. f.plus (carried-same n g i) (s.from-to (f.times (s.from (g n)) (s.from (g n))) i))

  pub carried-ones : (n : ℕ) → s.from (ones carried n) ≡ ones f n
  carried-ones zero = s.from-to f.nought
  carried-ones (suc n) = s.from-to (f.plus (s.from (s.to f.unit)) (s.from (ones carried n))) ∙ (λ i. f.plus (s.from-to f.unit i) (carried-ones n i))
