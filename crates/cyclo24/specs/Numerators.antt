-- Rings whose members are fixed numbers of whole numbers.
--
-- zip_with f xs ys: f of the numbers of both lists at each place
-- Numerators o: members of the ring o as lists of whole numbers, and IsNumerators its laws
-- content_of m: what divides a member and a number is what divides each number of its list
use Rattle.std.specs.Prelude.{◌≡◌, ◌≢◌, ℕ, ◌<◌, ℤ, pos, ◌*ℤ◌, ◌+ℤ◌, neg_ℤ, List, [], ◌∷◌, map, length}
use Rattle.algebra.specs.Ring.{Ops, IsRing}
use Rattle.cyclo24.specs.Gcd.{common, quotient, all_zero}
use Rattle.cyclo24.specs.Fraction.{Content}

-- f of the numbers at each place
abbrev pub zip_with : (ℤ → ℤ → ℤ) → List ℤ → List ℤ → List ℤ
zip_with f [] ys = []
zip_with f (x ∷ xs) [] = []
zip_with f (x ∷ xs) (y ∷ ys) = f x y ∷ zip_with f xs ys

-- a member as the list of its numbers, and back
pub record Numerators {R : Type 0} (o : Ops R) : Type 0 where
  pub count : ℕ
  pub list : R → List ℤ
  pub member : List ℤ → R
  -- x (cofactor x) is the number size x
  pub cofactor : R → R
  pub size : R → ℕ

pub record IsNumerators {R : Type 0} (o : Ops R) (m : Numerators o) : Type 0 where
  pub ring : IsRing o
  pub length-list : (x : R) → length (m.list x) ≡ m.count
  pub member-list : (x : R) → m.member (m.list x) ≡ x
  pub list-member : (xs : List ℤ) → length xs ≡ m.count → m.list (m.member xs) ≡ xs
  pub negated : (x : R) → m.list (o.neg x) ≡ map neg_ℤ (m.list x)
  pub added : (x y : R) → m.list (o.add x y) ≡ zip_with ◌+ℤ◌ (m.list x) (m.list y)
  pub scaled : (k : ℕ) (x : R) → m.list (o.mul (o.num k) x) ≡ map (λ z. pos k *ℤ z) (m.list x)
  pub num_apart : (d : ℕ) → 0 < d → o.num d ≢ o.num 0
  pub cofactor_is : (x : R) → o.mul x (m.cofactor x) ≡ o.num (m.size x)
  pub size-zero : (x : R) → m.size x ≡ 0 → x ≡ o.num 0

-- the content of a member is that of its list
abbrev pub content_of : {R : Type 0} {o : Ops R} → Numerators o → Content o
content_of m = record {
  content = λ x d. common (m.list x) d;
  divide = λ x g. m.member (map (λ z. quotient z g) (m.list x));
  cofactor = m.cofactor;
  size = m.size;
  is_zero = λ x. all_zero (m.list x);
}
